pub mod Draws
pub mod Seeds
pub mod Exercises
pub mod inner
pub mod Computing
