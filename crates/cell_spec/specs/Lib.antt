pub mod Wrapped
pub mod Rows
pub mod Strides
pub mod Computing
