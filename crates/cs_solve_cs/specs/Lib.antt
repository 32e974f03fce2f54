pub mod Reach
pub mod SolveCs
pub mod Agree
pub mod Steps
