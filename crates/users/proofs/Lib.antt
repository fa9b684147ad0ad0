pub mod Laws
pub mod Places
pub mod Removal
pub mod Replaced
pub mod Formed
