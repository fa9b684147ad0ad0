pub mod Set
pub mod Condition
pub mod Rows
pub mod Bytes
pub mod Busy
pub mod Steps
