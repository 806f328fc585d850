pub mod Combs
