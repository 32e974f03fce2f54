pub mod Merged
pub mod Summed
pub mod Equal
