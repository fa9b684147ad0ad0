pub mod Parts
pub mod PackedBack
