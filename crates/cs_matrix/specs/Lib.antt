pub mod Lent
pub mod Matrix
pub mod Falls
pub mod Columns
pub mod Cases
