pub mod Values
pub mod Combing
