pub mod Loading
pub mod Taking
pub mod Holding
pub mod Rowing
pub mod Lying
pub mod Turning
pub mod Factoring
pub mod Calling
