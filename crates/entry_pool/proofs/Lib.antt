pub mod Lists
pub mod Waiting
pub mod Taking
pub mod Hooks
pub mod Releasing
pub mod Holding
