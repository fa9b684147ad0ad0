pub mod Plan
pub mod Fonts
pub mod Clear
pub mod Given
pub mod Answer
