pub mod Columns
pub mod Sides
pub mod Steps
pub mod Turns
pub mod Ways
pub mod Runs
pub mod Searching
