pub mod Nearest
pub mod Readings
pub mod Bits
pub mod Sizes
pub mod Patterns
pub mod Signs
pub mod Listed
pub mod Cases
