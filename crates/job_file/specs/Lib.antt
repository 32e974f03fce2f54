pub mod Records
pub mod Faults
pub mod Reading
pub mod Cases
pub mod Arrays
pub mod Told
pub mod Keeping
