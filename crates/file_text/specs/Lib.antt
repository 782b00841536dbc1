pub mod Reading
pub mod ReadingLaws
pub mod Protocols
pub mod Text
pub mod Laws
