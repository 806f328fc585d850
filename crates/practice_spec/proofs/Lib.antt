pub mod Listed
pub mod Cases
pub mod Drawn
pub mod Area
pub mod Lines
pub mod Reading
pub mod Accepted
pub mod Printing
