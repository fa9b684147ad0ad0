pub mod Hosted
pub mod Reels
pub mod Recovered
pub mod Vetted
