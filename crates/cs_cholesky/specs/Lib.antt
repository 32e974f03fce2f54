pub mod Factor
pub mod Served
pub mod Lent
