pub mod Row
pub mod Visit
pub mod Laws
