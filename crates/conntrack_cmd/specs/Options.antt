-- The options of a command, word by word.
use Rattle.std.specs.Prelude.{ℕ, ◌&&◌, ◌||◌, Bool, true, false, if◌then◌else◌, List, [], ◌∷◌, Option, None, is_none, unwrap_or, Result, Ok, Err, codes, bytes_eq}
use Rattle.tuple_core.specs.declared.Proto.{Proto}
use Rattle.tuple_core.specs.declared.Tuple.{Tuple}
use Rattle.file_text.specs.Protocols.{has_ports, proto_named}
use Rattle.file_text.specs.Reading.{◌>>=◌, once, required}
use Rattle.file_text.specs.Text.{address_of, port_of}
use Rattle.history_book.specs.declared.filter.Filter.{Filter}
use Rattle.conntrack_cmd.specs.declared.read.ScriptKind.{ScriptKind}
use Rattle.conntrack_cmd.specs.declared.read.ScriptKind.TheVariants as kind

-- the protocol that a command takes; one for one flow takes only those that have ports
abbrev pub taken_proto : Bool → Option Proto → Option Proto
taken_proto false proto = proto
taken_proto true proto = if has_ports proto then proto else None

abbrev pub with_proto : Bool → Filter → List ℕ → Result Filter ScriptKind
with_proto for_flow f value =
    once kind.Repeat f.proto (required kind.Value (taken_proto for_flow (proto_named value))) >>= λ proto. Ok (record f { proto = proto })

-- an address, and a number up to 65535, as a port or a zone is, as the value of an option that stands once
abbrev pub address_once : Option ℕ → List ℕ → Result (Option ℕ) ScriptKind
address_once old value = once kind.Repeat old (required kind.Value (address_of value))

abbrev pub short_once : Option ℕ → List ℕ → Result (Option ℕ) ScriptKind
short_once old value = once kind.Repeat old (required kind.Value (port_of 0 value))

abbrev pub with_src : Filter → List ℕ → Result Filter ScriptKind
with_src f value = address_once f.src value >>= λ src. Ok (record f { src = src })

abbrev pub with_dst : Filter → List ℕ → Result Filter ScriptKind
with_dst f value = address_once f.dst value >>= λ dst. Ok (record f { dst = dst })

abbrev pub with_reply_src : Filter → List ℕ → Result Filter ScriptKind
with_reply_src f value = address_once f.reply_src value >>= λ src. Ok (record f { reply_src = src })

abbrev pub with_reply_dst : Filter → List ℕ → Result Filter ScriptKind
with_reply_dst f value = address_once f.reply_dst value >>= λ dst. Ok (record f { reply_dst = dst })

abbrev pub with_sport : Filter → List ℕ → Result Filter ScriptKind
with_sport f value = short_once f.sport value >>= λ sport. Ok (record f { sport = sport })

abbrev pub with_dport : Filter → List ℕ → Result Filter ScriptKind
with_dport f value = short_once f.dport value >>= λ dport. Ok (record f { dport = dport })

abbrev pub with_zone : Filter → List ℕ → Result Filter ScriptKind
with_zone f value = short_once f.zone value >>= λ zone. Ok (record f { zone = zone })

-- a command for one flow takes no address of its replies
abbrev pub with_reply : Bool → Filter → List ℕ → List ℕ → Result Filter ScriptKind
with_reply true f name value = Err kind.Option
with_reply false f name value =
    if bytes_eq name (codes "-r") then with_reply_src f value else
    (if bytes_eq name (codes "-q") then with_reply_dst f value else Err kind.Option)

-- what is meant so far, and the option of this name with its value; there are no other options
unfoldable pub with_option : Bool → Filter → List ℕ → List ℕ → Result Filter ScriptKind
with_option for_flow f name value =
    if bytes_eq name (codes "-p") then with_proto for_flow f value else
    (if bytes_eq name (codes "-s") then with_src f value else
    (if bytes_eq name (codes "-d") then with_dst f value else
    (if bytes_eq name (codes "--sport") then with_sport f value else
    (if bytes_eq name (codes "--dport") then with_dport f value else
    (if bytes_eq name (codes "-w") then with_zone f value else with_reply for_flow f name value)))))

-- what is meant so far, and the words behind: options with their values. A missing value is as wrong as an empty one
unfoldable pub options_from : Bool → Filter → List (List ℕ) → Result Filter ScriptKind
options_from for_flow f [] = Ok f
options_from for_flow f (name ∷ []) = with_option for_flow f name []
options_from for_flow f (name ∷ value ∷ words) = with_option for_flow f name value >>= λ g. options_from for_flow g words

-- without options, all entries are meant
abbrev pub everything : Filter
everything = record { proto = None; src = None; dst = None; reply_src = None; reply_dst = None; sport = None; dport = None; zone = None }

-- ports stand beside TCP or UDP
abbrev pub beside_ports : Filter → Result Filter ScriptKind
beside_ports f = if has_ports f.proto || (is_none f.sport && is_none f.dport) then Ok f else Err kind.Option

-- the entries that these words mean
abbrev pub filter_of : List (List ℕ) → Result Filter ScriptKind
filter_of words = options_from false everything words >>= beside_ports

-- one flow is told by five options; where no zone is told it is in zone 0
abbrev pub flow_of : Filter → Result Tuple ScriptKind
flow_of f =
    required kind.Option f.proto >>= λ proto. required kind.Option f.src >>= λ src. required kind.Option f.dst >>= λ dst.
    required kind.Option f.sport >>= λ sport. required kind.Option f.dport >>= λ dport.
    Ok (record { proto = proto; zone = unwrap_or f.zone 0; src = src; dst = dst; a = sport; b = dport })

-- the flow that these words name
abbrev pub tuple_of : List (List ℕ) → Result Tuple ScriptKind
tuple_of words = options_from true everything words >>= flow_of
