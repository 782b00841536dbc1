pub mod Piece
pub mod Part
pub mod Group
pub mod Datagram
pub mod Defragged
pub mod Laws
pub mod Internal
