pub mod Memory
pub mod Plain
pub mod Gather
pub mod Entries
pub mod Taking
pub mod Expansions
pub mod Copies
pub mod Computing
