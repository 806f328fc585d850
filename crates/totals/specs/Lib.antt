pub mod Endings
pub mod Handed
