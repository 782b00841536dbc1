-- Edits of a stream of bytes, and what they do to its places. An edit replaces some bytes of the stream, from an offset on,
-- by others; how many is all that places need. Edits are listed in order of their offsets.
use Rattle.std.specs.Prelude.{ℕ, ◌+◌, ◌-◌, ◌^◌, ◌%◌, ◌<◌, ◌≤◌, Bool, ◌&&◌, ◌||◌, ◌==◌, nat_lt, nat_le, if◌then◌else◌, List, [], ◌∷◌, ◌++◌, length}
use Rattle.std.specs.List.{list_any}
use Rattle.ftp_rewrite.specs.declared.adjust.Added.{Added}
use Rattle.ftp_rewrite.specs.declared.adjust.Added.TheVariants as added
use Rattle.ftp_rewrite.specs.declared.adjust.Edit.{Edit}

-- the place behind the bytes that are replaced
abbrev pub end_of : Edit → ℕ
end_of e = e.offset + e.old_length

-- the end of the last edit
abbrev pub end_from : ℕ → List Edit → ℕ
end_from start [] = start
end_from start (e ∷ es) = end_from (end_of e) es

-- each edit replaces some bytes by some, and none begins before the one in front of it ends
abbrev pub AreInOrderFrom : ℕ → List Edit → Type 0
AreInOrderFrom start [] = Unit {0}
AreInOrderFrom start (e ∷ es) = (start ≤ e.offset) × (0 < e.old_length) × (0 < e.new_length) × AreInOrderFrom (end_of e) es

-- How long the first x bytes are once they are rewritten. Up to `start` that was reckoned: they are `made` bytes then. A
-- place strictly inside the replaced bytes is taken as their first.
abbrev pub forward_from : (start made : ℕ) → List Edit → ℕ → ℕ
forward_from start made [] x = made + (x - start)
forward_from start made (e ∷ es) x =
    (if nat_le x e.offset then made + (x - start) else
    (if nat_lt x (end_of e) then made + (e.offset - start) else
    forward_from (end_of e) (made + (e.offset - start) + e.new_length) es x))

-- How many bytes are y bytes once they are rewritten. A place strictly inside a new text is that of the first byte that
-- it replaced.
abbrev pub back_from : (start made : ℕ) → List Edit → ℕ → ℕ
back_from start made [] y = start + (y - made)
back_from start made (e ∷ es) y =
    (if nat_le y (made + (e.offset - start)) then start + (y - made) else
    (if nat_lt y (made + (e.offset - start) + e.new_length) then e.offset else
    back_from (end_of e) (made + (e.offset - start) + e.new_length) es y))

-- a connection's numbers are counted modulo 2^32 (RFC 9293, section 3.4); offsets from here on are those of numbers in front of the base
abbrev pub far : ℕ
far = 2 ^ 31

-- how far a number is behind the base
abbrev pub offset_of : (base number : ℕ) → ℕ
offset_of base number = (number + (2 ^ 32 - base)) % 2 ^ 32

-- the number that a new offset gives; a number before the base stays as it is
abbrev pub adjusted : (base : ℕ) → (ℕ → ℕ) → (number : ℕ) → ℕ
adjusted base to number = if nat_lt (offset_of base number) far then (base + to (offset_of base number)) % 2 ^ 32 else number

-- the sequence number with which a segment leaves
unfoldable pub forward : (base : ℕ) → List Edit → ℕ → ℕ
forward base edits seq = adjusted base (forward_from 0 0 edits) seq

-- the acknowledgment number with which a segment of the other way leaves
unfoldable pub back : (base : ℕ) → List Edit → ℕ → ℕ
back base edits ack = adjusted base (back_from 0 0 edits) ack

-- an edit of these numbers of bytes at a sequence number
abbrev pub edit_at : (base at old new : ℕ) → Edit
edit_at base at old new = record { offset = offset_of base at; old_length = old; new_length = new }

abbrev pub is_same_edit : Edit → Edit → Bool
is_same_edit e f = e.offset == f.offset && e.old_length == f.old_length && e.new_length == f.new_length

-- it begins before the last edit ends, or does not end near the base
abbrev pub overlaps : List Edit → Edit → Bool
overlaps edits e = nat_lt e.offset (end_from 0 edits) || nat_le far (end_of e)

-- for how many edits there is room
abbrev pub most_edits : ℕ
most_edits = 64

-- what is answered to an edit: the first of these that holds
abbrev pub answer_to : List Edit → Edit → Added
answer_to edits e =
    (if list_any (is_same_edit e) edits then added.Again else
    (if overlaps edits e then added.Overlap else
    (if nat_le most_edits (length edits) then added.Full else added.Added)))

-- the edits once that was answered
abbrev pub edits_after : Added → List Edit → Edit → List Edit
edits_after added.Added edits e = edits ++ e ∷ []
edits_after added.Again edits e = edits
edits_after added.Overlap edits e = edits
edits_after added.Full edits e = edits
