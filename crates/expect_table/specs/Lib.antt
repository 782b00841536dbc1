pub mod Match
pub mod Expectations
pub mod Laws
