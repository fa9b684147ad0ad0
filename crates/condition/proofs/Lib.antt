pub mod Characters
pub mod Rows
pub mod Each
pub mod Aside
pub mod Good
pub mod Kept
pub mod Pieces
pub mod Redefined
