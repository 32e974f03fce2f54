pub mod Run
pub mod Output
pub mod Steps
