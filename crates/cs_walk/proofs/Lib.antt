pub mod Walking
pub mod Columns
