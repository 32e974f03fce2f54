pub mod Product
pub mod Steps
