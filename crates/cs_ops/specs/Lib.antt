pub mod Scale
pub mod Axpy
