pub mod Cell
pub mod FlagSets
pub mod TcpTables
pub mod Droppable
