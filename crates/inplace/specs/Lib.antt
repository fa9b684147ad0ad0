pub mod InPlace
pub mod Carry
