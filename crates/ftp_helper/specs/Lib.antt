pub mod Payload
pub mod Span
pub mod Named
pub mod Want
pub mod Laws
pub mod Internal
