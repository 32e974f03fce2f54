pub mod Columns
pub mod Falls
pub mod Filled
pub mod Promising
pub mod Analysing
pub mod Finding
pub mod Deciding
pub mod Judging
