pub mod Dots
