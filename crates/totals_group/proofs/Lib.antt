pub mod Counted
pub mod Turning
