pub mod Tapes
pub mod Reading
pub mod Decoding
pub mod Writing
pub mod Computing
