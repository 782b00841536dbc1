-- The rows of an answer: entries as conntrack(8) prints them, and expectations. Each ends with a line feed.
use Rattle.std.specs.Prelude.{ℕ, ◌-◌, ◌/◌, Bool, true, false, List, [], ◌++◌, codes, decimal}
use Rattle.expect_table.specs.declared.expectation.Expectation.{Expectation}
use Rattle.tuple_core.specs.Tuple.{number_of}
use Rattle.tuple_core.specs.declared.Proto.{Proto}
use Rattle.tuple_core.specs.declared.Proto.TheVariants.{Icmp, Tcp, Udp}
use Rattle.history_book.specs.declared.answer.Row.{Row}
use Rattle.history_book.specs.declared.record.Record.{Record}
use Rattle.proto_rules.specs.declared.PartKind.{PartKind}
use Rattle.proto_rules.specs.declared.PartKind.TheVariants as kind
use Rattle.report_text.specs.Piece.{address_text, point_text, state_word, tuple_text, word_if, zone_text}

-- the word of a protocol, in eight places
abbrev pub padded_word : Proto → List ℕ
padded_word Icmp = codes "icmp    "
padded_word Tcp = codes "tcp     "
padded_word Udp = codes "udp     "

-- the whole seconds from the moment until the deadline; 0 where the deadline is not above the moment
abbrev pub seconds_left : ℕ → ℕ → ℕ
seconds_left moment deadline = (deadline - moment) / 1000000

-- the state of a connection; UDP and ICMP have none
abbrev pub state_column : PartKind → List ℕ
state_column (kind.Tcp state) = state_word state ++ codes " "
state_column kind.Udp = []
state_column kind.Icmp = []

-- the protocol of an entry by word and by number, the seconds that are left, and the state
unfoldable pub columns_text : ℕ → Record → List ℕ
columns_text moment r =
    padded_word r.original.proto ++ codes " " ++ decimal (number_of r.original.proto) ++ codes " " ++
    decimal (seconds_left moment r.part.deadline) ++ codes " " ++ state_column r.part.kind

-- whether a reply was seen
abbrev pub unreplied_text : Bool → List ℕ
unreplied_text true = []
unreplied_text false = codes " [UNREPLIED]"

-- both tuples of an entry, and whether it is answered and assured
unfoldable pub tuples_text : Record → List ℕ
tuples_text r =
    tuple_text r.original ++ unreplied_text r.part.replied ++ codes " " ++
    tuple_text r.reply ++ word_if r.part.assured (codes " [ASSURED]")

-- an entry at a moment, and its zone
unfoldable pub row_line : ℕ → Row → List ℕ
row_line moment row =
    columns_text moment row.subject ++ tuples_text row.subject ++ zone_text row.subject.original.zone ++ point_text row.at ++ codes "\n"

-- what is expected, and of which entry
unfoldable pub expected_text : Expectation → List ℕ
expected_text e =
    codes " proto=6 src=" ++ address_text e.want.src ++ codes " dst=" ++ address_text e.want.dst ++
    codes " sport=0 dport=" ++ decimal e.want.port ++ codes " master=" ++ decimal e.master

-- an expectation at a moment and a point, and its zone
unfoldable pub expectation_line : ℕ → ℕ → Expectation → List ℕ
expectation_line moment at e =
    decimal (seconds_left moment e.deadline) ++ expected_text e ++ zone_text e.zone ++ point_text at ++ codes "\n"
