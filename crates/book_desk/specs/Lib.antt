pub mod Uses
pub mod Fields
pub mod Made
pub mod Internal
pub mod Turn
