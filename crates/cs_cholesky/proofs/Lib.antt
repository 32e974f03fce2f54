pub mod Judging
pub mod Serving
pub mod Factoring
pub mod Ways
