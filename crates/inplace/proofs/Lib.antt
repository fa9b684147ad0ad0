pub mod Columns
pub mod InPlace
pub mod Branches
pub mod Running
pub mod Carrying
pub mod Altering
