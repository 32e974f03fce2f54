pub mod Preparing
