-- The control bits of a TCP segment (RFC 9293, section 3.1), as they stand in their byte.
use Rattle.std.specs.Prelude.{ℕ, ◌+◌, ◌*◌, ◌/◌, ◌%◌, Bool, ◌&&◌, ◌==◌, if◌then◌else◌}
use Rattle.case_grid.specs.Cell.{cell}
use Rattle.case_grid.specs.FlagSets.{flag_sets}
use Rattle.tuple_core.specs.declared.Kind.{Kind}
use Rattle.tuple_core.specs.declared.Kind.TheVariants.{Syn, SynAck, Fin, Ack, Rst, Bare}

-- a control bit, by its value in that byte: 1 where it is set
abbrev pub flag : ℕ → ℕ → ℕ
flag flags value = flags / value % 2

abbrev pub fin : ℕ → ℕ
fin flags = flag flags 0x01

abbrev pub syn : ℕ → ℕ
syn flags = flag flags 0x02

abbrev pub rst : ℕ → ℕ
rst flags = flag flags 0x04

abbrev pub ack : ℕ → ℕ
ack flags = flag flags 0x10

abbrev pub urg : ℕ → ℕ
urg flags = flag flags 0x20

-- a segment may have these control bits
unfoldable pub is_valid_flag_set : ℕ → Bool
is_valid_flag_set flags =
    cell flag_sets (2 * urg flags + ack flags) (4 * rst flags + 2 * syn flags + fin flags) == 1

unfoldable pub kind : ℕ → Kind
kind flags =
    (if rst flags == 1 then Rst else
    (if syn flags == 1 && ack flags == 1 then SynAck else
    (if syn flags == 1 then Syn else
    (if fin flags == 1 then Fin else
    (if ack flags == 1 then Ack else Bare)))))
