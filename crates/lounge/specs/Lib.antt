pub mod Set
pub mod Condition
pub mod Marks
pub mod Pairs
pub mod Run
pub mod Shows
pub mod Head
