-- The laws of the division.
mod Division
