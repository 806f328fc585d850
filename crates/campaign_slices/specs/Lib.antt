pub mod Lent
pub mod Scans
pub mod Racks
pub mod Links
pub mod Computing
