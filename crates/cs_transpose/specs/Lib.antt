pub mod Transpose
pub mod Scatter
pub mod Cases
