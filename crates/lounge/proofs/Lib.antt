pub mod Back
pub mod Areas
pub mod Turns
pub mod Kept
pub mod Answers
