pub mod Anytime
