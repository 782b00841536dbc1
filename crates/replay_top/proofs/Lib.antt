pub mod Collecting
pub mod Findings
pub mod Made
pub mod Printing
pub mod Reassembled
