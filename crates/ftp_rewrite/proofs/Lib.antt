pub mod Walks
pub mod Modulo
pub mod Moves
pub mod Inside
pub mod NewEnds
pub mod Ordered
pub mod Sessions
pub mod Writing
