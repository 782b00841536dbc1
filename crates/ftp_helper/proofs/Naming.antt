-- What a payload names in a direction: no payload has both forms of it.
use Rattle.std.proofs.Common.{◌≡◌, ◌∙◌, ℕ, ◌+◌, ◌*◌, ◌<◌, ◌≤◌, Bool, true, false, cond, List, [], ◌∷◌, ◌++◌, length, length-append, append_assoc, Option, Some, None, inl, inr, arith, refl, sym, ap, subst, codes}
use Rattle.std.proofs.lemmas.Bool.Decides.{nat_tests}
use Rattle.std.specs.Prelude.{IfNone, IfSome, nat_lt, option_and_then}
use Rattle.std.specs.Option.{option_map}
use Rattle.std.specs.Char.{to_ascii_lowercase}
use Rattle.tuple_core.specs.declared.Direction.{Direction}
use Rattle.tuple_core.specs.declared.Direction.TheVariants.{Original, Reply}
use Rattle.ftp_helper.specs.declared.payload.EndSpan.{EndSpan}
use Rattle.ftp_helper.specs.declared.payload.NamedEnd.{NamedEnd}
use Rattle.ftp_helper.specs.declared.payload.FoundEnd.{FoundEnd}
use Rattle.ftp_helper.specs.Laws.{ReadingIsNaming}
use Rattle.ftp_helper.specs.Named.{naming_in, with_port}
use Rattle.ftp_helper.specs.Span.{IsShortSpan, naming_span, SpansEnd, text_span}
use Rattle.ftp_helper.specs.Payload.{AreNumbers, IsEprtCommand, IsHost, IsHostPort, IsExtendedPassiveReply, IsInAnyCase, IsNaming, NamesEnd}
use Rattle.ftp_helper.specs.Internal.Reading.{after, after_command, eprt_command_at, extended_passive_reply_at, first_read, naming_at, naming_of, passive_reply_at, port_command_at}
use Rattle.ftp_helper.proofs.Forms.{eprt_finds, eprt_gives, extended_finds, extended_gives, passive_finds, passive_gives, port_finds, port_gives, regrouped}

-- a text that begins as EPRT does not begin as PORT
other_letter : (command more : List ℕ) → IsInAnyCase (codes "EPRT |1|") command → after_command (codes "PORT ") (command ++ more) ≡ None
unfolding after_command
other_letter [] more same = absurd (cc)
other_letter (b ∷ bs) more same = rw letter refl
  where
    letter : to_ascii_lowercase b ≡ 101
    letter = cc

no_port : (payload : List ℕ) (end : NamedEnd) → IsEprtCommand payload end → port_command_at payload ≡ None
unfolding port_command_at
no_port payload end is =
    let more : List ℕ = is.host ++ (codes "|" ++ (is.port ++ (codes "|" ++ is.stop ∷ is.rest))) in
    let apart : payload ≡ is.command ++ more = is.whole ∙ regrouped is.command is.host (codes "|") is.port (codes "|") (is.stop ∷ is.rest) in
    rw (apart, other_letter is.command more is.is_command) refl

no_passive : (payload : List ℕ) (end : NamedEnd) → IsExtendedPassiveReply payload end → passive_reply_at payload ≡ None
unfolding passive_reply_at after
no_passive payload end is = rw is.whole refl

naming_gives : (direction : Direction) (payload : List ℕ) (naming : FoundEnd) → naming_at direction payload ≡ Some naming → IsNaming direction payload naming.end
unfolding naming_at
naming_gives Original payload naming found = either (port_command_at payload) refl found
  where
    either : (read : Option FoundEnd) → port_command_at payload ≡ read → first_read read (eprt_command_at payload) ≡ Some naming → IsNaming Original payload naming.end
    either None none h = inr (eprt_gives payload naming h)
    either (Some x) some h = inl (port_gives payload naming (some ∙ h))
naming_gives Reply payload naming found = either (passive_reply_at payload) refl found
  where
    either : (read : Option FoundEnd) → passive_reply_at payload ≡ read → first_read read (extended_passive_reply_at payload) ≡ Some naming → IsNaming Reply payload naming.end
    either None none h = inr (extended_gives payload naming h)
    either (Some x) some h = inl (passive_gives payload naming (some ∙ h))

naming_finds : (direction : Direction) (payload : List ℕ) (end : NamedEnd) (is : IsNaming direction payload end)
    → naming_at direction payload ≡ Some (naming_of end (naming_span direction payload end is))
unfolding naming_at
naming_finds Original payload end (inl is) = rw (port_finds payload end is) refl
naming_finds Original payload end (inr is) = rw (no_port payload end is) (eprt_finds payload end is)
naming_finds Reply payload end (inl is) = rw (passive_finds payload end is) refl
naming_finds Reply payload end (inr is) = rw (no_passive payload end is) (extended_finds payload end is)

-- what is named has a port

record HasPort (direction : Direction) (payload : List ℕ) (naming : FoundEnd) : Type 0 where
  read : naming_at direction payload ≡ Some naming
  port : 0 < naming.end.port

port_gives_naming : (direction : Direction) (payload : List ℕ) (naming : FoundEnd) → naming_in direction payload ≡ Some naming → HasPort direction payload naming
unfolding naming_in
port_gives_naming direction payload naming found = by_read (naming_at direction payload) refl found
  where
    by_port : (n : FoundEnd) (test : Bool) → nat_lt 0 n.end.port ≡ test → naming_at direction payload ≡ Some n → cond test (Some n) None ≡ Some naming
        → HasPort direction payload naming
    by_port n true has is h =
        let same : n ≡ naming = cc in
        let port : 0 < n.end.port = grind (arith, nat_tests) in
        record { read = cc; port = subst (λ (m : FoundEnd). 0 < m.end.port) same port }
    by_port n false has is h = absurd (cc)

    by_read : (read : Option FoundEnd) → naming_at direction payload ≡ read → option_and_then with_port read ≡ Some naming → HasPort direction payload naming
    by_read None is h = absurd (cc)
    by_read (Some n) is h = by_port n (nat_lt 0 n.end.port) refl is h

naming_in_finds : (direction : Direction) (payload : List ℕ) (end : NamedEnd) (is : NamesEnd direction payload end)
    → naming_in direction payload ≡ Some (naming_of end (naming_span direction payload end is.naming))
unfolding naming_in
naming_in_finds direction payload end is =
    rw (naming_finds direction payload end is.naming, has_port end.port is.port) refl
  where
    has_port : (port : ℕ) → 0 < port → nat_lt 0 port ≡ true
    has_port port h = grind (arith, nat_tests)

pub names : (direction : Direction) (payload : List ℕ) (naming : FoundEnd) → naming_in direction payload ≡ Some naming → NamesEnd direction payload naming.end
names direction payload naming found =
    let has = port_gives_naming direction payload naming found in
    record { naming = naming_gives direction payload naming has.read; port = has.port }

pub spans : (direction : Direction) (payload : List ℕ) (naming : FoundEnd) → naming_in direction payload ≡ Some naming → SpansEnd direction payload naming.span
spans direction payload naming found =
    let is = names direction payload naming found in
    let whole : naming ≡ naming_of naming.end (naming_span direction payload naming.end is.naming) = some_is (sym found ∙ naming_in_finds direction payload naming.end is) in
    record { end = naming.end; names = is; spans = ap (λ (n : FoundEnd). n.span) whole }
  where
    some_is : {x y : FoundEnd} → Some x ≡ Some y → x ≡ y
    some_is h = cc

pub nothing_named : (direction : Direction) (payload : List ℕ) → naming_in direction payload ≡ None → (end : NamedEnd) → NamesEnd direction payload end → ⊥
nothing_named direction payload none end is = let some = naming_in_finds direction payload end is in cc

same_naming : (direction : Direction) (payload : List ℕ) (end other : NamedEnd) (is : NamesEnd direction payload end) (also : NamesEnd direction payload other)
    → naming_of end (naming_span direction payload end is.naming) ≡ naming_of other (naming_span direction payload other also.naming)
same_naming direction payload end other is also =
    let first = naming_in_finds direction payload end is in
    let second = naming_in_finds direction payload other also in
    cc

-- by what was read, or that nothing was
read_so : (direction : Direction) (payload : List ℕ) (naming : Option FoundEnd) → naming_in direction payload ≡ naming
    → IfSome (option_map (λ (n : FoundEnd). n.end) naming) (NamesEnd direction payload)
    × IfNone (option_map (λ (n : FoundEnd). n.end) naming) ((end : NamedEnd) → NamesEnd direction payload end → ⊥)
    × IfSome (option_map (λ (n : FoundEnd). n.span) naming) (SpansEnd direction payload)
read_so direction payload None is = (tt, nothing_named direction payload is, tt)
read_so direction payload (Some naming) is = (names direction payload naming is, tt, spans direction payload naming is)

pub reading_is_naming : ReadingIsNaming
reading_is_naming direction payload = read_so direction payload (naming_in direction payload) refl

pub one_end : (direction : Direction) (payload : List ℕ) (end other : NamedEnd) → NamesEnd direction payload end → NamesEnd direction payload other → end ≡ other
one_end direction payload end other is also = ap (λ (n : FoundEnd). n.end) (same_naming direction payload end other is also)

pub one_span : (direction : Direction) (payload : List ℕ) (span other : EndSpan) → SpansEnd direction payload span → SpansEnd direction payload other → span ≡ other
one_span direction payload span other is also =
    is.spans ∙ (ap (λ (n : FoundEnd). n.span) (same_naming direction payload is.end also.end is.names also.names) ∙ sym also.spans)

-- the bytes are few, and lie in the payload

numbers_few : (between : ℕ) (ns text : List ℕ) → AreNumbers between ns text → length text ≤ 4 * length ns
numbers_few between [] text is = omega (arith, ap length is)
numbers_few between (n ∷ []) text is = omega (arith, is.few)
numbers_few between (n ∷ m ∷ ns) text (first, others, whole, number, later) =
    let more = numbers_few between (m ∷ ns) others later in
    omega (arith, ap length whole, length-append first (between ∷ others), number.few)

numbers_some : (between n : ℕ) (ns text : List ℕ) → AreNumbers between (n ∷ ns) text → 0 < length text
numbers_some between n [] text is = is.some
numbers_some between n (m ∷ ns) text (first, others, whole, number, later) =
    omega (arith, ap length whole, length-append first (between ∷ others), number.some)

host_few : (between : ℕ) (text : List ℕ) (address : ℕ) → IsHost between text address → length text ≤ 16
host_few between text address is = numbers_few between (is.h1 ∷ is.h2 ∷ is.h3 ∷ is.h4 ∷ []) text is.numbers

host_port_few : (text : List ℕ) (end : NamedEnd) → IsHostPort text end → length text ≤ 25
host_port_few text end is =
    let host = host_few 44 is.host is.address is.is_host in
    let port = numbers_few 44 (is.is_port.p1 ∷ is.is_port.p2 ∷ []) is.port is.is_port.numbers in
    let apart = ap length is.whole ∙ length-append (is.host ++ codes ",") is.port in
    omega (arith, apart, length-append is.host (codes ","))

host_port_some : (text : List ℕ) (end : NamedEnd) → IsHostPort text end → 0 < length text
host_port_some text end is =
    let apart = ap length is.whole ∙ length-append (is.host ++ codes ",") is.port in
    omega (arith, apart, length-append is.host (codes ","))

whole_span : (payload before text rest : List ℕ) → 0 < length text → length text ≤ 32 → payload ≡ before ++ (text ++ rest) → IsShortSpan payload (text_span before text)
whole_span payload before text rest some few whole =
    let apart = ap length whole ∙ (length-append before (text ++ rest) ∙ ap (λ (k : ℕ). length before + k) (length-append text rest)) in
    record { some = omega arith; few = omega arith; inside = omega (arith, apart) }

eprt_few : (payload : List ℕ) (end : NamedEnd) (is : IsEprtCommand payload end) → (0 < length (is.host ++ codes "|" ++ is.port)) × (length (is.host ++ codes "|" ++ is.port) ≤ 32)
eprt_few payload end is =
    let host = host_few 46 is.host is.address is.is_host in
    let apart = length-append (is.host ++ codes "|") is.port in
    (omega (arith, apart, length-append is.host (codes "|")), omega (arith, apart, length-append is.host (codes "|"), is.is_port.few))

naming_short : (direction : Direction) (payload : List ℕ) (end : NamedEnd) (is : IsNaming direction payload end) → IsShortSpan payload (naming_span direction payload end is)
naming_short Original payload end (inl is) =
    whole_span payload is.command is.text (is.stop ∷ is.rest) (host_port_some is.text end is.is_text) (omega (arith, host_port_few is.text end is.is_text))
    (is.whole ∙ simp append_assoc)
naming_short Original payload end (inr is) =
    let few = eprt_few payload end is in
    whole_span payload is.command (is.host ++ codes "|" ++ is.port) (codes "|" ++ is.stop ∷ is.rest) few.0 few.1 (is.whole ∙ simp append_assoc)
naming_short Reply payload end (inl is) =
    whole_span payload (codes "227 " ++ is.before) is.text (is.stop ∷ is.rest) (host_port_some is.text end is.is_text) (omega (arith, host_port_few is.text end is.is_text))
    (is.whole ∙ simp append_assoc)
naming_short Reply payload end (inr is) =
    whole_span payload (codes "229 " ++ is.before ++ codes "(|||") is.port (codes "|)" ++ is.rest) is.is_port.some (omega (arith, is.is_port.few))
    (is.whole ∙ simp append_assoc)

pub short : (direction : Direction) (payload : List ℕ) (span : EndSpan) → SpansEnd direction payload span → IsShortSpan payload span
short direction payload span is = subst (IsShortSpan payload) (sym is.spans) (naming_short direction payload is.end is.names.naming)
