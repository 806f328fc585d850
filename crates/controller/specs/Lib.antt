pub mod Bytes
pub mod Best
pub mod Computing
