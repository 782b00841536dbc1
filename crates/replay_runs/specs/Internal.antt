-- What private functions keep for the clauses of the public ones. A reader of those need not open it.
pub mod Answered
pub mod Beside
pub mod Jobs
pub mod Replayed
pub mod Stopped
pub mod Telling
pub mod Together
