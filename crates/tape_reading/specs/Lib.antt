pub mod Nearest
pub mod Patterns
pub mod Readings
pub mod Rounding
pub mod inner
pub mod Computing
