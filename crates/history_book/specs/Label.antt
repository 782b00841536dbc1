-- The state of a flow as a packet finds it.
use Rattle.std.specs.Prelude.{Bool, true, false, Option, Some, None, ℕ}
use Rattle.tuple_core.specs.declared.Direction.{Direction}
use Rattle.tuple_core.specs.declared.Direction.TheVariants.{Original, Reply}
use Rattle.history_book.specs.declared.record.Record.{Record}
use Rattle.history_book.specs.declared.verdict.Label.{Label}
use Rattle.history_book.specs.declared.verdict.Label.TheVariants.{New, Related, Established, EstablishedReply}

-- before a reply: new, or related where the entry has a master
abbrev pub unreplied_label : Option ℕ → Label
unreplied_label (Some master) = Related
unreplied_label None = New

-- in the original direction: established once a reply was seen
abbrev pub original_label : Bool → Option ℕ → Label
original_label true master = Established
original_label false master = unreplied_label master

-- of a record and the direction of the packet that finds it
abbrev pub label_of : Record → Direction → Label
label_of r Reply = EstablishedReply
label_of r Original = original_label r.part.replied r.master
