pub mod Meeting
pub mod Draining
pub mod Sorted
pub mod Remaining
pub mod Spanning
pub mod Adding
pub mod Sweeping
pub mod Produced
