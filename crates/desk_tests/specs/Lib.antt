pub mod Busy
pub mod Overtaken
