pub mod Salvage
pub mod Steps
