pub mod Reaction
pub mod OneAnswer
pub mod Waiting
pub mod Late
