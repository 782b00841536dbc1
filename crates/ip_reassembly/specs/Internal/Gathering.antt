-- What the state for one key knows of its group.
use Rattle.std.specs.Prelude.{◌≡◌, ◌≤◌, ◌<◌, ℕ, ◌+◌, ◌-◌, ◌==◌, nat_le, Bool, true, false, ◌&&◌, ◌||◌, not, if◌then◌else◌, List, [], ◌∷◌, take, drop, Option, Some, None, IfSome}
use Rattle.std.specs.List.{list_all}
use Rattle.ip_reassembly.specs.declared.piece.Part.{Part}
use Rattle.ip_reassembly.specs.declared.piece.Piece.{Piece}
use Rattle.ip_reassembly.specs.declared.gathering.Gathering.{Gathering}
use Rattle.ip_reassembly.specs.Part.{byte_at, same_bytes}
use Rattle.ip_reassembly.specs.Group.{agree, end_of, parts_of}
use Rattle.ip_reassembly.specs.Datagram.{header_of}
use Rattle.ip_reassembly.specs.Internal.Filling.{AreInOrder, StandIn, fill, filled_by}

-- the header and the data of a piece stand in so many bytes
pub record IsPieceIn (size : ℕ) (p : Piece) : Type 0 where
  pub header : p.header + 20 ≤ size
  pub some : p.part.low < p.part.high
  pub short : p.part.high ≤ 65515
  pub bytes : p.part.start + (p.part.high - p.part.low) ≤ size

-- what is kept stands in so many bytes
pub record IsSound (size : ℕ) (g : Gathering) : Type 0 where
  pub order : AreInOrder 0 g.parts.items
  pub stand : StandIn size g.top g.parts.items
  pub top : g.top ≤ 65515
  pub filled : g.filled ≡ filled_by g.parts.items
  pub header : IfSome g.header (λ at. at + 20 ≤ size)
  pub end : IfSome g.end (λ end. 0 < end)

-- the parts are in order, and counted
pub record IsKept (g : Gathering) : Type 0 where
  pub order : AreInOrder 0 g.parts.items
  pub filled : g.filled ≡ filled_by g.parts.items
  pub few : g.filled ≤ 65515

abbrev pub leader_moment : List Piece → Option ℕ
leader_moment [] = None
leader_moment (leader ∷ others) = Some leader.moment

-- the state tells of this group
pub record Gathers (bytes : List ℕ) (group : List Piece) (g : Gathering) : Type 0 where
  pub began : leader_moment group ≡ Some g.began
  pub agrees : g.agrees ≡ agree bytes group
  pub header : g.header ≡ header_of group
  pub end : g.end ≡ end_of group
  pub top : (h : ℕ) → list_all (λ (p : Piece). nat_le p.part.high h) group ≡ nat_le g.top h
  pub values : g.agrees ≡ true → (place : ℕ) → byte_at bytes g.parts.items place ≡ byte_at bytes (parts_of group) place

-- the ends of the pieces so far, and of one more, go together
abbrev pub end_fits : Option ℕ → ℕ → Piece → Bool
end_fits (Some end) top p = nat_le p.part.high end && (not p.last || p.part.high == end)
end_fits None top p = not p.last || nat_le top p.part.high

abbrev pub first_end : Option ℕ → Piece → Option ℕ
first_end (Some end) p = Some end
first_end None p = (if p.last then Some p.part.high else None)

abbrev pub first_header : Option ℕ → Piece → Option ℕ
first_header (Some at) p = Some at
first_header None p = (if p.part.low == 0 then Some p.header else None)

abbrev pub higher : ℕ → ℕ → ℕ
higher a b = (if nat_le a b then b else a)

-- the state with one piece more
pub record Joined (bytes : List ℕ) (p : Piece) (old new : Gathering) : Type 0 where
  pub began : new.began ≡ old.began
  pub agrees : new.agrees ≡ (old.agrees && (end_fits old.end old.top p && list_all (same_bytes bytes p.part) old.parts.items))
  pub parts : new.parts.items ≡ (if new.agrees then fill p.part old.parts.items else old.parts.items)
  pub filled : new.filled ≡ filled_by new.parts.items
  pub header : new.header ≡ first_header old.header p
  pub end : new.end ≡ first_end old.end p
  pub top : new.top ≡ higher old.top p.part.high

-- the state with one piece alone
pub record Begun (p : Piece) (g : Gathering) : Type 0 where
  pub began : g.began ≡ p.moment
  pub agrees : g.agrees ≡ true
  pub parts : g.parts.items ≡ p.part ∷ []
  pub filled : g.filled ≡ p.part.high - p.part.low
  pub header : g.header ≡ first_header None p
  pub end : g.end ≡ first_end None p
  pub top : g.top ≡ p.part.high

-- the state's test whether its group is complete
abbrev pub whole_test : Bool → Option ℕ → Option ℕ → ℕ → Bool
whole_test agrees None end filled = false
whole_test agrees (Some at) None filled = false
whole_test agrees (Some at) (Some end) filled = agrees && (end == filled)

-- the bytes of a part
abbrev pub part_bytes : List ℕ → Part → List ℕ
part_bytes bytes part = take (part.high - part.low) (drop part.start bytes)
