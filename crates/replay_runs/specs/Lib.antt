pub mod Heard
pub mod Internal
pub mod Replaying
pub mod Report
pub mod Run
pub mod Laws
