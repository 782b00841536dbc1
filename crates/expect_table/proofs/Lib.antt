pub mod Removal
pub mod Adding
