-- What the proofs of this crate speak of, and no public clause.
pub mod Digits
pub mod Gathered
pub mod Counting
pub mod Lines
