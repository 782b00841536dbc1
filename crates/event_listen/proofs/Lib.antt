pub mod Finishing
pub mod Laying
pub mod Lists
pub mod Orders
pub mod Pumping
