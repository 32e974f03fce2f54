pub mod Rounding
pub mod Zeros
