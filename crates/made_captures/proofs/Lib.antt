pub mod FlowRecords
pub mod Flows
pub mod Lengths
pub mod Reading
pub mod Records
