-- The pieces of a line. Numbers are plain decimal.
use Rattle.std.specs.Prelude.{ℕ, ◌==◌, if◌then◌else◌, Bool, true, false, ◌/◌, ◌%◌, ◌^◌, List, [], ◌++◌, codes, decimal, Option, None, Some}
use Rattle.expect_table.specs.declared.expectation.Expectation.{Expectation}
use Rattle.expect_table.specs.declared.expectation.Want.{Want}
use Rattle.tuple_core.specs.declared.Direction.{Direction}
use Rattle.tuple_core.specs.declared.Direction.TheVariants.{Original, Reply}
use Rattle.tuple_core.specs.declared.Proto.{Proto}
use Rattle.tuple_core.specs.declared.Proto.TheVariants.{Icmp, Tcp, Udp}
use Rattle.tuple_core.specs.declared.Tuple.{Tuple}
use Rattle.history_book.specs.declared.event.Event.{Event}
use Rattle.history_book.specs.declared.event.Event.TheVariants.{Confirm, Touch, Destroy, Expect, Claim, Unexpect}
use Rattle.history_book.specs.declared.event.Why.{Why}
use Rattle.history_book.specs.declared.event.Why.TheVariants.{Expired, Reopened, Reset, Deleted, Flushed, Dropped}
use Rattle.history_book.specs.declared.record.Record.{Record}
use Rattle.history_book.specs.declared.verdict.Class.{Class}
use Rattle.history_book.specs.declared.verdict.Class.TheVariants as class
use Rattle.history_book.specs.declared.verdict.Ftp.{Ftp}
use Rattle.history_book.specs.declared.verdict.Ftp.TheVariants as ftp
use Rattle.history_book.specs.declared.verdict.UntrackedWhy.{UntrackedWhy}
use Rattle.history_book.specs.declared.verdict.UntrackedWhy.TheVariants as untracked
use Rattle.history_book.specs.declared.verdict.Label.{Label}
use Rattle.history_book.specs.declared.verdict.Label.TheVariants as label
use Rattle.proto_rules.specs.declared.Part.{Part}
use Rattle.proto_rules.specs.declared.PartKind.{PartKind}
use Rattle.proto_rules.specs.declared.PartKind.TheVariants as kind
use Rattle.proto_rules.specs.declared.TcpState.{TcpState}
use Rattle.proto_rules.specs.declared.TcpState.TheVariants.{Unset, SynSent, SynRecv, Established, FinWait, CloseWait, LastAck, TimeWait, Close, SynSent2}

-- an IPv4 address (RFC 791): its four bytes with dots between them, the highest first
unfoldable pub address_text : ℕ → List ℕ
address_text a =
    decimal (a / 2 ^ 24) ++ codes "." ++ decimal (a / 2 ^ 16 % 256) ++ codes "." ++
    decimal (a / 2 ^ 8 % 256) ++ codes "." ++ decimal (a % 256)

-- a zone; zone 0 is not printed
abbrev pub zone_text : ℕ → List ℕ
zone_text zone = if zone == 0 then [] else codes " zone=" ++ decimal zone

-- what tells two flows between the same addresses apart: the ports; of ICMP (RFC 792) the type, the
-- code and the identifier
abbrev pub ends_text : Proto → ℕ → ℕ → List ℕ
ends_text Icmp a b =
    codes " type=" ++ decimal (b / 256) ++ codes " code=" ++ decimal (b % 256) ++
    codes " id=" ++ decimal a
ends_text Tcp a b = codes " sport=" ++ decimal a ++ codes " dport=" ++ decimal b
ends_text Udp a b = codes " sport=" ++ decimal a ++ codes " dport=" ++ decimal b

unfoldable pub tuple_text : Tuple → List ℕ
tuple_text t =
    codes "src=" ++ address_text t.src ++ codes " dst=" ++ address_text t.dst ++
    ends_text t.proto t.a t.b

abbrev pub proto_word : Proto → List ℕ
proto_word Icmp = codes "icmp"
proto_word Tcp = codes "tcp"
proto_word Udp = codes "udp"

abbrev pub direction_word : Direction → List ℕ
direction_word Original = codes "original"
direction_word Reply = codes "reply"

-- a word that is printed only where something holds
abbrev pub word_if : Bool → List ℕ → List ℕ
word_if true word = word
word_if false word = []

-- a thread; the script's has this number, behind those of the captures
abbrev pub thread_word : ℕ → ℕ → List ℕ
thread_word script thread = if thread == script then codes "s" else decimal thread

-- who made an event: the thread, and the index of its packet or command
abbrev pub who_text : ℕ → ℕ → ℕ → List ℕ
who_text script thread index = thread_word script thread ++ codes "." ++ decimal index

abbrev pub master_text : Option ℕ → List ℕ
master_text None = []
master_text (Some id) = codes " master=" ++ decimal id

-- the states of a connection of TCP, by the names that conntrack(8) prints
abbrev pub state_word : TcpState → List ℕ
state_word Unset = codes "NONE"
state_word SynSent = codes "SYN_SENT"
state_word SynRecv = codes "SYN_RECV"
state_word Established = codes "ESTABLISHED"
state_word FinWait = codes "FIN_WAIT"
state_word CloseWait = codes "CLOSE_WAIT"
state_word LastAck = codes "LAST_ACK"
state_word TimeWait = codes "TIME_WAIT"
state_word Close = codes "CLOSE"
state_word SynSent2 = codes "SYN_SENT2"

-- UDP and ICMP have no state
abbrev pub state_text : PartKind → List ℕ
state_text (kind.Tcp state) = codes " state=" ++ state_word state
state_text kind.Udp = []
state_text kind.Icmp = []

-- the flow of an entry: its protocol and both its tuples, the original one first
unfoldable pub flow_text : Record → List ℕ
flow_text r =
    proto_word r.original.proto ++ codes " " ++ tuple_text r.original ++ codes " " ++
    tuple_text r.reply

-- a new entry
unfoldable pub record_text : Record → List ℕ
record_text r =
    flow_text r ++ codes " until=" ++ decimal r.part.deadline ++ state_text r.part.kind ++
    master_text r.master ++ word_if r.helper (codes " helper") ++ zone_text r.original.zone

abbrev pub why_text : Why → List ℕ
why_text (Expired moment) = codes " expired"
why_text (Reopened direction segment moment) = codes " reopened"
why_text (Reset segment moment) = codes " reset"
why_text (Deleted filter) = codes " deleted"
why_text Flushed = codes " flushed"
why_text (Dropped moment) = codes " dropped"

-- a packet in this direction leaves the entry with this part
unfoldable pub touched_text : ℕ → Direction → Part → List ℕ
touched_text id direction after =
    codes " id=" ++ decimal id ++ codes " " ++ direction_word direction ++ codes " until=" ++
    decimal after.deadline ++ state_text after.kind ++ word_if after.replied (codes " replied") ++
    word_if after.assured (codes " assured")

-- an older expectation ends
abbrev pub replaced_text : Option ℕ → List ℕ
replaced_text None = []
replaced_text (Some id) = codes " replaces=" ++ decimal id

-- from where a connection is expected, and to where
unfoldable pub want_text : Want → List ℕ
want_text w =
    codes " src=" ++ address_text w.src ++ codes " dst=" ++ address_text w.dst ++
    codes " dport=" ++ decimal w.port

-- what is expected, for which entry and until when, the older expectation that ends with that, and the zone
unfoldable pub expectation_text : Expectation → Option ℕ → List ℕ
expectation_text e replaced =
    codes " master=" ++ decimal e.master ++ want_text e.want ++ codes " until=" ++
    decimal e.deadline ++ replaced_text replaced ++ zone_text e.zone

-- a packet met an expectation of this entry
abbrev pub claimed_text : ℕ → ℕ → List ℕ
claimed_text expectation master =
    codes " expect=" ++ decimal expectation ++ codes " master=" ++ decimal master

abbrev pub event_word : Event → List ℕ
event_word (Confirm subject) = codes "confirm"
event_word (Touch id direction segment moment after) = codes "touch"
event_word (Destroy id why) = codes "destroy"
event_word (Expect expectation replaced moment) = codes "expect"
event_word (Claim expectation master tuple moment) = codes "claim"
event_word (Unexpect expectation moment) = codes "unexpect"

-- what an event does
abbrev pub event_rest : Event → List ℕ
event_rest (Confirm subject) = codes " " ++ record_text subject
event_rest (Touch id direction segment moment after) = touched_text id direction after
event_rest (Destroy id why) = codes " id=" ++ decimal id ++ why_text why
event_rest (Expect expectation replaced moment) = expectation_text expectation replaced
event_rest (Claim expectation master tuple moment) = claimed_text expectation master
event_rest (Unexpect expectation moment) =
    codes " expect=" ++ decimal expectation ++ codes " expired"

-- an event, made by `who`
unfoldable pub event_text : List ℕ → Event → List ℕ
event_text who e = codes " " ++ event_word e ++ codes " " ++ who ++ event_rest e

-- a point of the history
unfoldable pub point_text : ℕ → List ℕ
point_text at = codes " @" ++ decimal at

-- the entry of a packet, and the point at which the verdict holds
abbrev pub entry_text : ℕ → ℕ → List ℕ
entry_text id at = codes " id=" ++ decimal id ++ point_text at

-- a new entry that met no expectation is new; one that claimed an expectation is related
abbrev pub made_word : Option ℕ → List ℕ
made_word None = codes "RELATED"
made_word (Some at) = codes "NEW"

abbrev pub label_word : Label → List ℕ
label_word label.New = codes "NEW"
label_word label.Related = codes "RELATED"
label_word label.Established = codes "ESTABLISHED"
label_word label.EstablishedReply = codes "ESTABLISHED_REPLY"

-- what the payload of a packet led to
abbrev pub ftp_text : Ftp → List ℕ
ftp_text ftp.Nothing = []
ftp_text (ftp.Expected id) = codes " ftp expect=" ++ decimal id
ftp_text ftp.Address = codes " ftp address"
ftp_text (ftp.Clash id at) = codes " ftp clash=" ++ decimal id ++ point_text at
ftp_text (ftp.Full at) = codes " ftp full" ++ point_text at
ftp_text (ftp.Gone at) = codes " ftp gone" ++ point_text at

abbrev pub untracked_word : UntrackedWhy → List ℕ
untracked_word untracked.Link = codes "link"
untracked_word untracked.Fragment = codes "fragment"
untracked_word untracked.Protocol = codes "protocol"

-- the way of an error within the flow that it is about
abbrev pub error_word : Direction → List ℕ
error_word Original = codes "RELATED error"
error_word Reply = codes "RELATED_REPLY error"

abbrev pub class_text : Class → List ℕ
class_text (class.Untracked why) = codes "UNTRACKED " ++ untracked_word why
class_text class.BadHeader = codes "INVALID header"
class_text (class.NoEntry at) = codes "INVALID new" ++ point_text at
class_text (class.BadState id at) = codes "INVALID state" ++ entry_text id at
class_text (class.ErrorLost at) = codes "INVALID error" ++ point_text at
class_text (class.ErrorAddress id at) = codes "INVALID address" ++ entry_text id at
class_text (class.Error direction id at) = error_word direction ++ entry_text id at
class_text (class.Made id at translated unclaimed) = made_word unclaimed ++ entry_text id at
class_text (class.Passed label id at ftp) = label_word label ++ entry_text id at ++ ftp_text ftp
class_text (class.Ignored id at) = codes "IGNORED" ++ entry_text id at
class_text (class.Merged id at translated) = codes "MERGED" ++ entry_text id at
class_text (class.Clash id at translated) = codes "CLASH" ++ entry_text id at
class_text (class.NoPort from to) = codes "NOPORT" ++ point_text from ++ point_text to
class_text (class.Full from at) = codes "FULL" ++ point_text from ++ point_text at
class_text (class.Contended id at) = codes "CONTENDED" ++ entry_text id at
