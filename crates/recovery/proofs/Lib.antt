pub mod Lost
pub mod Back
pub mod Answers
