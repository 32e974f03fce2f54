pub mod Left
pub mod Steps
