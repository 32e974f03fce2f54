pub mod Pointers
pub mod Refusing
pub mod Validity
pub mod Falling
pub mod Rooms
pub mod Values
pub mod Squaring
pub mod Handing
