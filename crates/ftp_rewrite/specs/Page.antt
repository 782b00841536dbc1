-- A page of text as contracts see it.
use Rattle.std.specs.Prelude.{◌≡◌, ℕ, ◌+◌, ◌≤◌, List, ◌++◌, length}

-- the bytes that it holds, and how many more it has room for
pub record Held : Type 0 where
  pub text : List ℕ
  pub room : ℕ

-- it has room for a piece of at most so many bytes
abbrev pub HasRoom : ℕ → Held → Type 0
HasRoom most page = most ≤ page.room

-- a piece of at most so many bytes is written behind what the page holds
pub record Adds (most : ℕ) (text : List ℕ) (before after : Held) : Type 0 where
  pub joined : after.text ≡ before.text ++ text
  pub short : before.room ≤ after.room + most
  pub whole : length after.text + after.room ≡ length before.text + before.room
