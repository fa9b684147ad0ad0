pub mod Bench
pub mod LoungeBench
