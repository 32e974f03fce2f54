pub mod Tree
pub mod Pattern
pub mod Least
pub mod Steps
pub mod Backward
pub mod Falling
pub mod Bumps
pub mod Ending
