pub mod Portioned
