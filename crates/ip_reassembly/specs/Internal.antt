-- What the steps of the code give, for the clauses of private functions.
pub mod Filling
pub mod Gathering
pub mod Knowing
pub mod Reading
