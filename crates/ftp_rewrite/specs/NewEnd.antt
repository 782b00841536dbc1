-- The text that names the end which the translation makes (RFC 959, section 4.1.2; RFC 2428, section 2), and when a payload
-- gets it. Numbers are plain decimal, without leading zeros.
use Rattle.std.specs.Prelude.{ℕ, ◌/◌, ◌%◌, ◌^◌, ◌==◌, ◌||◌, Bool, false, if◌then◌else◌, List, [], ◌∷◌, ◌++◌, take, drop, slice_get, Option, Some, None, codes, decimal}
use Rattle.std.specs.Str.{byte}
use Rattle.tuple_core.specs.declared.Direction.{Direction}
use Rattle.expect_table.specs.declared.expectation.Want.{Want}
use Rattle.ftp_helper.specs.declared.payload.EndSpan.{EndSpan}
use Rattle.ftp_helper.specs.Named.{named_of, span_of}
use Rattle.history_book.specs.declared.event.Event.{Event}
use Rattle.history_book.specs.declared.event.Event.TheVariants.{Confirm, Touch, Destroy, Expect, Claim, Unexpect}
use Rattle.history_book.specs.declared.event.Numbered.{Numbered}
use Rattle.history_book.specs.declared.verdict.Ftp.{Ftp}
use Rattle.history_book.specs.declared.verdict.Ftp.TheVariants as ftp
use Rattle.ftp_rewrite.specs.declared.asked.Ask.{Ask}
use Rattle.ftp_rewrite.specs.Sent.{◌>>=◌}

-- the four bytes of an address, the highest first, with this sign between each two
unfoldable pub address_text : List ℕ → ℕ → List ℕ
address_text sign address =
    decimal (address / 2 ^ 24) ++ sign ++ decimal (address / 2 ^ 16 % 256) ++ sign ++ decimal (address / 2 ^ 8 % 256) ++ sign ++ decimal (address % 256)

-- the six numbers of a PORT or a 227
unfoldable pub six_numbers : Want → List ℕ
six_numbers want =
    address_text (codes ",") want.dst ++ codes "," ++ decimal (want.port / 256) ++ codes "," ++ decimal (want.port % 256)

-- the address, the bar and the port of an EPRT
unfoldable pub address_and_port : Want → List ℕ
address_and_port want = address_text (codes ".") want.dst ++ codes "|" ++ decimal want.port

-- of the payloads that name an address an EPRT alone begins with this letter
abbrev pub is_eprt : List ℕ → Bool
is_eprt [] = false
is_eprt (b ∷ bs) = b == byte "E" || b == byte "e"

-- the text of the wanted end, in the form that the payload has
unfoldable pub new_end : List ℕ → Want → List ℕ
new_end payload want = if is_eprt payload then address_and_port want else six_numbers want

-- the payload with this text in the place of those bytes
abbrev pub replaced : List ℕ → EndSpan → List ℕ → List ℕ
replaced payload span text = take span.start payload ++ text ++ drop span.end payload

-- the connection that an event expects
abbrev pub expected_by : Event → Option Want
expected_by (Confirm subject) = None
expected_by (Touch id direction segment moment after) = None
expected_by (Destroy id why) = None
expected_by (Expect expectation replaced moment) = Some expectation.want
expected_by (Claim expectation master tuple moment) = None
expected_by (Unexpect expectation moment) = None

-- that of the event of this number
unfoldable pub want_by : List Numbered → ℕ → Option Want
want_by history id = do
  item ← slice_get history id
  expected_by item.event

-- what is asked for where the named end is at this address: nothing where the wanted one is at the same
abbrev pub ask_for : ℕ → Want → EndSpan → Option Ask
ask_for address want span = (if address == want.dst then None else Some (record { want = want; span = span }))

-- A packet asks for an edit where its connection to the end was expected by this event, and the named end is at an
-- address, which is not that of the wanted one.
unfoldable pub expected_ask : List Numbered → Direction → List ℕ → ℕ → Option Ask
expected_ask history direction payload id = do
  end ← named_of direction payload
  address ← end.address
  want ← want_by history id
  span ← span_of direction payload
  ask_for address want span

-- what a packet asks for by what came of its payload
abbrev pub asked_by : List Numbered → Direction → List ℕ → Ftp → Option Ask
asked_by history direction payload ftp.Nothing = None
asked_by history direction payload (ftp.Expected id) = expected_ask history direction payload id
asked_by history direction payload ftp.Address = None
asked_by history direction payload (ftp.Clash id at) = None
asked_by history direction payload (ftp.Full at) = None
asked_by history direction payload (ftp.Gone at) = None
