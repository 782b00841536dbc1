pub mod All
pub mod Captures
pub mod Findings
pub mod Flaws
pub mod Making
pub mod OneByOne
pub mod Reading
pub mod Scans
