pub mod Shows
pub mod Answers
