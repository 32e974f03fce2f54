pub mod Steps
pub mod Up
