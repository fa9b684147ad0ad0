pub mod Turns
pub mod Telling
pub mod AllGood
