pub mod Lending
pub mod Linking
pub mod Laws
pub mod Racking
pub mod Cases
