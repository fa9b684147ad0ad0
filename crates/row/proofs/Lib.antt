pub mod Laws
pub mod Ranges
pub mod Alike
