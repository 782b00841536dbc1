-- What private functions keep for the clauses of the public ones. A reader of those need not open it.
pub mod FlowRecords
