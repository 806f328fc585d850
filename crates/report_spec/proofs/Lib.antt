pub mod Recut
pub mod Tapes
pub mod Cases
pub mod Paper
pub mod Groups
pub mod Lined
pub mod Beginnings
pub mod Retired
