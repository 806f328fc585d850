pub mod Bounds
pub mod Handed
pub mod Printing
pub mod Stopping
