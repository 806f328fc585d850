pub mod Tallying
