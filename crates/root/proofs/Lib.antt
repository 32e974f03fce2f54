-- `Nearest` has the theorems on the definition; the others serve the proofs of this crate.
pub mod Nearest
mod Counts
mod Patterns
mod Examples
