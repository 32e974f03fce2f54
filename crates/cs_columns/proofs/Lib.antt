pub mod Judging
pub mod Joining
pub mod Filling
pub mod Merging
