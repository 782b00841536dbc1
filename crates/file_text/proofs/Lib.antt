pub mod Bounds
pub mod Digits
pub mod Parts
pub mod Words
