pub mod Block
pub mod Reading
pub mod Writing
pub mod Tidy
