pub mod Sizes
pub mod Solving
pub mod Running
pub mod Working
pub mod Answering
pub mod Engines
