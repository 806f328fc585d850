pub mod Judged
pub mod Taken
