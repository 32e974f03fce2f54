pub mod Marking
pub mod Naming
pub mod Reaching
pub mod Stepping
pub mod Least
pub mod Agreeing
pub mod Ways
