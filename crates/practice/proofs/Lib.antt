pub mod Opened
pub mod Handed
