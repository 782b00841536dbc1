pub mod Visits
pub mod Places
pub mod Steps
