pub mod Pairing
pub mod Cases
pub mod Best
