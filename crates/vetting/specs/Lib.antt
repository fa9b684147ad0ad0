pub mod Verdicts
pub mod Steps
pub mod Vetting
