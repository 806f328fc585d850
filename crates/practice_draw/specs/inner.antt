-- For inner contracts: nothing to believe here.
pub mod Shapes
