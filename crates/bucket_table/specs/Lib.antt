pub mod GoesOn
pub mod Locks
pub mod Following
pub mod LockedChain
pub mod Trying
pub mod TestPlace
pub mod Finding
