pub mod Turn
pub mod GoesOn
pub mod Take
pub mod Hold
