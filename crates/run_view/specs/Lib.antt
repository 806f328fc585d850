pub mod Places
pub mod Computing
