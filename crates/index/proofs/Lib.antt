pub mod Entries
pub mod Building
