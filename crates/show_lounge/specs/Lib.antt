pub mod Rest
pub mod Report
