pub mod Shaping
pub mod Putting
pub mod Asked
