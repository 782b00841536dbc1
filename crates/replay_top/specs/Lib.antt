pub mod Causes
pub mod ErrorLine
pub mod Internal
pub mod Process
pub mod Replay
