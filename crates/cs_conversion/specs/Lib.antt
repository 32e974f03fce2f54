pub mod Assembly
pub mod Lent
pub mod Sorting
pub mod InOrder
pub mod Cases
