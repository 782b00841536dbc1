pub mod FileLaws
pub mod Lawful
pub mod RuleLines
pub mod RuleWords
pub mod Searching
pub mod Translating
