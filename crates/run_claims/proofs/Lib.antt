pub mod Called
pub mod Exact
