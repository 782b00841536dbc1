pub mod Counts
pub mod Digits
pub mod Gathers
pub mod SameTexts
pub mod SummaryLaws
pub mod Texts
pub mod Writes
