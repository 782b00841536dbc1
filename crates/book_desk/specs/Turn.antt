-- A book that many passes share, each in its turn: the rule between any two atomic steps, part by part, and what each step
-- tells its pass.
pub mod Sums
pub mod Change
pub mod Passes
pub mod Places
pub mod Rule
pub mod Steps
pub mod Laws
