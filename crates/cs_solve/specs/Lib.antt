pub mod Diagonal
pub mod Judge
pub mod Solve
pub mod TrSolve
