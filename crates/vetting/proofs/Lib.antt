pub mod Stepping
pub mod Through
pub mod Settling
pub mod Answers
pub mod Said
