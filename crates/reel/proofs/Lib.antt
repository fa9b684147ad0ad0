pub mod Turns
pub mod Putting
pub mod Answers
