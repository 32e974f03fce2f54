pub mod Columns
pub mod Putting
pub mod Spreading
pub mod Filling
pub mod TransposeValid
pub mod TransposeTwice
pub mod Transposing
