pub mod Tuple
pub mod Inverse
pub mod Laws
pub mod Words
pub mod Hash
