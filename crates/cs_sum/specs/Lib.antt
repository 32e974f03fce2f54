pub mod Sum
pub mod Steps
