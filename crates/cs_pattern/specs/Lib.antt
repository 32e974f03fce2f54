pub mod Columns
pub mod Lent
pub mod Steps
pub mod Analyse
pub mod Promise
pub mod Compare
