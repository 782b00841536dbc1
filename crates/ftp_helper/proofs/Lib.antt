pub mod Digits
pub mod Pieces
pub mod Numbers
pub mod Forms
pub mod Naming
