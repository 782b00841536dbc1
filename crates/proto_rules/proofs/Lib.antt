pub mod Cells
pub mod Grids
pub mod Steps
pub mod Reopens
pub mod DropGrid
