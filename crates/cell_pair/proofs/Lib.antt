pub mod Shooting
pub mod Tiling
