pub mod Sealing
pub mod Tidying
pub mod Damaged
pub mod RoundTrip
pub mod Answers
