pub mod Members
pub mod Moving
pub mod Rule
pub mod Strings
pub mod Grid
pub mod Four
pub mod Put
pub mod Interpreter
