pub mod Rule
pub mod RuleText
pub mod RuleFile
pub mod RuleLaws
pub mod Reply
pub mod Translation
pub mod Internal
