pub mod Words
pub mod Asked
pub mod WordsLaws
pub mod Internal
