pub mod Walk
pub mod Cases
