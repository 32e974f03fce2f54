pub mod Telling
pub mod Meaning
pub mod Judging
pub mod Laying
pub mod Walking
pub mod Going
pub mod Longest
