pub mod Line
pub mod Pump
pub mod Order
pub mod Internal
