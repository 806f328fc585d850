pub mod Best
pub mod Calling
pub mod Cases
pub mod Marking
pub mod Searching
pub mod Retired
