-- What private functions keep for the clauses of the public ones. A reader of those need not open it.
pub mod Book
pub mod Plain
pub mod Seated
pub mod Winner
