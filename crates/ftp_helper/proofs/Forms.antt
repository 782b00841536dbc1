-- The four forms: what is read is named, what is named is read, and no payload has two forms of its direction.
use Rattle.std.proofs.Common.{◌≡◌, ◌∙◌, ℕ, ◌+◌, ◌-◌, Bool, true, false, not, List, [], ◌∷◌, ◌++◌, length, length-append, take, drop, Some, None, arith, refl, sym, ap, subst, codes, append_assoc, if◌then◌else◌}
use Rattle.std.specs.Char.{is_ascii_digit}
use Rattle.std.specs.List.{list_all}
use Rattle.std.specs.Str.{all_ascii_digits, byte}
use Rattle.std.proofs.Math.Seq.{drop-append_seam}
use Rattle.std.proofs.lemmas.Bool.{and_parts}
use Rattle.std.proofs.lemmas.Bool.Decides.{nat_tests}
use Rattle.std.proofs.lemmas.List.{take-append-drop}
use Rattle.std.proofs.lemmas.List.Sums.{AllPass-from_list_all, list_all-from_AllPass}
use Rattle.ftp_helper.specs.declared.payload.EndSpan.{EndSpan}
use Rattle.ftp_helper.specs.declared.payload.NamedEnd.{NamedEnd}
use Rattle.ftp_helper.specs.declared.payload.FoundEnd.{FoundEnd}
use Rattle.ftp_helper.specs.Payload.{AreNumbers, is_before_numbers, is_before_parenthesis, is_line_end, IsEprtCommand, IsExtendedPassiveReply, IsHost, IsHostPort, IsNumber, IsPassiveReply, IsPort, IsPortCommand}
use Rattle.ftp_helper.specs.Internal.Reading.{at_line_end, ends_before_numbers, eprt_command_at, extended_passive_reply_at, is_no_digit, naming_of, passive_reply_at, port_command_at, span_between}
use Rattle.ftp_helper.specs.Span.{eprt_span, extended_span, passive_span, port_span, text_span}
use Rattle.ftp_helper.proofs.Pieces.{after_finds, after_gives, Begins, command_finds, command_gives, decimal_finds, decimal_gives, place_found, place_gives, went_on}
use Rattle.ftp_helper.proofs.Numbers.{end_is, host_finds, host_gives, host_port_finds, host_port_gives}

-- the end of a line

record EndsLine {A : Type 0} (x : A) (text : List ℕ) (y : A) : Type 0 where
  stop : ℕ
  rest : List ℕ
  whole : text ≡ stop ∷ rest
  is_stop : is_line_end stop ≡ true
  same : x ≡ y

line_end_gives : {A : Type 0} (x : A) (text : List ℕ) (y : A) → at_line_end x text ≡ Some y → EndsLine x text y
line_end_gives x [] y found = absurd (cc)
line_end_gives x (b ∷ bs) y found = chosen (is_line_end b) refl found
  where
    chosen : (t : Bool) → is_line_end b ≡ t → (if t then Some x else None) ≡ Some y → EndsLine x (b ∷ bs) y
    chosen true test h = record { stop = b; rest = bs; whole = refl; is_stop = test; same = cc }
    chosen false test h = absurd (cc)

line_end_finds : {A : Type 0} (x : A) (stop : ℕ) (rest : List ℕ) → is_line_end stop ≡ true → at_line_end x (stop ∷ rest) ≡ Some x
line_end_finds x stop rest test = rw test refl

no_digit_at_line_end : (b : ℕ) → is_line_end b ≡ true → is_no_digit b ≡ true
no_digit_at_line_end b test = grind (arith, nat_tests)

-- the bytes that name an end

span_is : (payload text rest before named : List ℕ) → length payload ≡ length before + length text → length text ≡ length named + length rest
    → span_between payload text rest ≡ text_span before named
span_is payload text rest before named behind then_rest =
    let start : length payload - length text ≡ length before = omega arith in
    let stop : length payload - length rest ≡ length before + length named = omega arith in
    λ i. record { start = start i; end = stop i }

naming_is : (end other : NamedEnd) (span twin : EndSpan) → end ≡ other → span ≡ twin → naming_of end span ≡ naming_of other twin
naming_is end other span twin same alike = λ i. naming_of (same i) (alike i)

length2 : (a b : List ℕ) → length (a ++ b) ≡ length a + length b
length2 a b = length-append a b

length3 : (a b c : List ℕ) → length (a ++ (b ++ c)) ≡ length (a ++ b) + length c
length3 a b c = simp length-append (omega arith)

length4 : (a b c d : List ℕ) → length (a ++ (b ++ (c ++ d))) ≡ length (a ++ b ++ c) + length d
length4 a b c d = simp length-append (omega arith)

-- PORT

pub port_gives : (payload : List ℕ) (naming : FoundEnd) → port_command_at payload ≡ Some naming → IsPortCommand payload naming.end
unfolding port_command_at
port_gives payload naming found =
    let (text, text_is, more) = went_on _ _ _ found in
    let (x, x_is, last) = went_on _ _ _ more in
    let command = command_gives (codes "PORT ") payload text text_is in
    let named = host_port_gives text x x_is in
    let line = line_end_gives (naming_of x.0 (span_between payload text x.1)) x.1 naming last in
    record {
      command = command.command;
      text = named.named;
      stop = line.stop;
      rest = line.rest;
      whole = command.whole ∙ (ap (λ (z : List ℕ). command.command ++ z) (named.whole ∙ ap (λ (z : List ℕ). named.named ++ z) line.whole) ∙ simp append_assoc);
      is_command = command.is_command;
      is_text = subst (λ (n : FoundEnd). IsHostPort named.named n.end) line.same named.is_named;
      at_line_end = line.is_stop;
    }

pub port_finds : (payload : List ℕ) (end : NamedEnd) (is : IsPortCommand payload end) → port_command_at payload ≡ Some (naming_of end (port_span payload end is))
unfolding port_command_at
port_finds payload end is =
    let apart : payload ≡ is.command ++ (is.text ++ is.stop ∷ is.rest) = is.whole ∙ simp append_assoc in
    rw (
      apart,
      command_finds (codes "PORT ") is.command (is.text ++ is.stop ∷ is.rest) is.is_command,
      host_port_finds is.text (is.stop ∷ is.rest) end is.is_text (no_digit_at_line_end is.stop is.at_line_end),
      is.at_line_end,
    )
    (ap Some (naming_is end end _ _ refl
    (span_is (is.command ++ (is.text ++ is.stop ∷ is.rest)) (is.text ++ is.stop ∷ is.rest) (is.stop ∷ is.rest) is.command is.text
    (length2 is.command (is.text ++ is.stop ∷ is.rest)) (length2 is.text (is.stop ∷ is.rest)))))

pub regrouped : (a b c d e f : List ℕ) → a ++ b ++ c ++ d ++ e ++ f ≡ a ++ (b ++ (c ++ (d ++ (e ++ f))))
regrouped a b c d e f = simp append_assoc

joined : (a b c d e f whole1 whole2 whole3 whole4 whole5 : List ℕ) → whole1 ≡ a ++ whole2 → whole2 ≡ b ++ whole3 → whole3 ≡ c ++ whole4
    → whole4 ≡ d ++ whole5 → whole5 ≡ e ++ f → whole1 ≡ a ++ b ++ c ++ d ++ e ++ f
joined a b c d e f whole1 whole2 whole3 whole4 whole5 is1 is2 is3 is4 is5 =
    rw (is1, is2, is3, is4, is5) (sym (regrouped a b c d e f))

-- EPRT

pub eprt_gives : (payload : List ℕ) (naming : FoundEnd) → eprt_command_at payload ≡ Some naming → IsEprtCommand payload naming.end
unfolding eprt_command_at
eprt_gives payload naming found =
    let (text, text_is, more1) = went_on _ _ _ found in
    let (host, host_is, more2) = went_on _ _ _ more1 in
    let (opened, opened_is, more3) = went_on _ _ _ more2 in
    let (port, port_is, more4) = went_on _ _ _ more3 in
    let (closed, closed_is, last) = went_on _ _ _ more4 in
    let command = command_gives (codes "EPRT |1|") payload text text_is in
    let address = host_gives (byte ".") text host host_is in
    let bar = after_gives (codes "|") host.1 opened opened_is in
    let number = decimal_gives 5 65535 opened port port_is in
    let bar2 = after_gives (codes "|") port.1 closed closed_is in
    let line = line_end_gives (naming_of (record { address = Some host.0; port = port.0 }) (span_between payload text port.1)) closed naming last in
    record {
      command = command.command;
      host = address.host;
      address = host.0;
      port = number.digits;
      stop = line.stop;
      rest = line.rest;
      whole = joined command.command address.host (codes "|") number.digits (codes "|") (line.stop ∷ line.rest)
          payload text host.1 opened port.1 command.whole address.whole bar number.whole
          (bar2 ∙ ap (λ (z : List ℕ). codes "|" ++ z) line.whole);
      is_command = command.is_command;
      is_host = address.is_host;
      is_port = subst (λ (n : FoundEnd). IsPort number.digits n.end.port) line.same number.is_number;
      at_host = sym (ap (λ (n : FoundEnd). n.end.address) line.same);
      at_line_end = line.is_stop;
    }

pub eprt_finds : (payload : List ℕ) (end : NamedEnd) (is : IsEprtCommand payload end) → eprt_command_at payload ≡ Some (naming_of end (eprt_span payload end is))
unfolding eprt_command_at
eprt_finds payload end is =
    let line : List ℕ = is.stop ∷ is.rest in
    let apart : payload ≡ is.command ++ (is.host ++ (codes "|" ++ (is.port ++ (codes "|" ++ line)))) =
    is.whole ∙ regrouped is.command is.host (codes "|") is.port (codes "|") line in
    rw (
      apart,
      command_finds (codes "EPRT |1|") is.command (is.host ++ (codes "|" ++ (is.port ++ (codes "|" ++ line)))) is.is_command,
      host_finds (byte ".") is.host (codes "|" ++ (is.port ++ (codes "|" ++ line))) is.address refl is.is_host refl,
      after_finds (codes "|") (is.port ++ (codes "|" ++ line)),
      decimal_finds 5 65535 is.port (codes "|" ++ line) end.port is.is_port refl,
      after_finds (codes "|") line,
      is.at_line_end,
    )
    (ap Some (naming_is _ end _ _ (end_is end (Some is.address) end.port is.at_host refl)
    (span_is (is.command ++ (is.host ++ (codes "|" ++ (is.port ++ (codes "|" ++ line))))) (is.host ++ (codes "|" ++ (is.port ++ (codes "|" ++ line)))) (codes "|" ++ line)
    is.command (is.host ++ codes "|" ++ is.port)
    (length2 is.command (is.host ++ (codes "|" ++ (is.port ++ (codes "|" ++ line))))) (length4 is.host (codes "|") is.port (codes "|" ++ line)))))

-- 227

passive_ended : (payload text named rest : List ℕ) (end : NamedEnd) (at : ℕ) → Begins is_no_digit rest → payload ≡ codes "227 " ++ text
    → list_all is_before_numbers (take at text) ≡ true → drop at text ≡ named ++ rest → IsHostPort named end → IsPassiveReply payload end
passive_ended payload text named [] end at stop reply all whole is = absurd stop
passive_ended payload text named (b ∷ bs) end at stop reply all whole is = record {
  before = take at text;
  text = named;
  stop = b;
  rest = bs;
  whole = reply ∙ (ap (λ (z : List ℕ). codes "227 " ++ z) (sym (take-append-drop at text) ∙ ap (λ (z : List ℕ). take at text ++ z) whole) ∙ simp append_assoc);
  is_before = AllPass-from_list_all is_before_numbers (take at text) all;
  is_text = is;
  no_digit = unset (is_ascii_digit b) stop;
}
  where
    unset : (t : Bool) → not t ≡ true → t ≡ false
    unset true h = absurd (cc)
    unset false h = refl

pub passive_gives : (payload : List ℕ) (naming : FoundEnd) → passive_reply_at payload ≡ Some naming → IsPassiveReply payload naming.end
unfolding passive_reply_at
passive_gives payload naming found =
    let (text, text_is, more1) = went_on _ _ _ found in
    let (at, at_is, more2) = went_on _ _ _ more1 in
    let (x, x_is, last) = went_on _ _ _ more2 in
    let reply = after_gives (codes "227 ") payload text text_is in
    let place = place_gives is_before_numbers text at at_is in
    let named = host_port_gives (drop at text) x x_is in
    let whole : naming_of x.0 (span_between payload (drop at text) x.1) ≡ naming = cc in
    let same : x.0 ≡ naming.end = ap (λ (n : FoundEnd). n.end) whole in
    passive_ended payload text named.named x.1 naming.end at named.stop reply place.all named.whole (subst (IsHostPort named.named) same named.is_named)

digit_at : (b : ℕ) (bs : List ℕ) → all_ascii_digits (b ∷ bs) ≡ true → is_ascii_digit b ≡ true
digit_at b bs all = (and_parts (is_ascii_digit b) (all_ascii_digits bs) all).0

begins_more : (p : ℕ → Bool) (front more : List ℕ) → Begins p front → Begins p (front ++ more)
begins_more p [] more begins = absurd begins
begins_more p (b ∷ bs) more begins = begins

number_begins : (text : List ℕ) (n : ℕ) → IsNumber text n → Begins is_ascii_digit text
number_begins [] n is = absurd (omega (arith, is.some))
number_begins (b ∷ bs) n is = digit_at b bs is.digits

host_begins : (text : List ℕ) (address : ℕ) → IsHost (byte ",") text address → Begins is_ascii_digit text
host_begins text address is = begins_first is.numbers
  where
    begins_first : AreNumbers (byte ",") (is.h1 ∷ is.h2 ∷ is.h3 ∷ is.h4 ∷ []) text → Begins is_ascii_digit text
    begins_first (first, others, whole, number, later) =
        subst (Begins is_ascii_digit) (sym whole) (begins_more is_ascii_digit first (byte "," ∷ others) (number_begins first is.h1 number))

named_begins : (text more : List ℕ) (end : NamedEnd) → IsHostPort text end → Begins is_ascii_digit (text ++ more)
named_begins text more end is =
    let host = host_begins is.host is.address is.is_host in
    begins_more is_ascii_digit text more
    (subst (Begins is_ascii_digit) (sym is.whole) (begins_more is_ascii_digit (is.host ++ codes ",") is.port
    (begins_more is_ascii_digit is.host (codes ",") host)))

at_numbers : (text : List ℕ) → Begins is_ascii_digit text → Begins ends_before_numbers text
at_numbers [] begins = absurd begins
at_numbers (b ∷ bs) begins = rw begins refl

pub passive_finds : (payload : List ℕ) (end : NamedEnd) (is : IsPassiveReply payload end) → passive_reply_at payload ≡ Some (naming_of end (passive_span payload end is))
unfolding passive_reply_at
passive_finds payload end is =
    let behind : List ℕ = is.text ++ is.stop ∷ is.rest in
    let apart : payload ≡ codes "227 " ++ (is.before ++ behind) = is.whole ∙ simp append_assoc in
    rw (
      apart,
      after_finds (codes "227 ") (is.before ++ behind),
      place_found is_before_numbers is.before behind (list_all-from_AllPass is_before_numbers is.before is.is_before)
          (at_numbers behind (named_begins is.text (is.stop ∷ is.rest) end is.is_text)),
      drop-append_seam is.before behind,
      host_port_finds is.text (is.stop ∷ is.rest) end is.is_text (ap not is.no_digit),
    )
    (ap Some (naming_is end end _ _ refl
    (span_is (codes "227 " ++ (is.before ++ behind)) behind (is.stop ∷ is.rest) (codes "227 " ++ is.before) is.text
    (length3 (codes "227 ") is.before behind) (length2 is.text (is.stop ∷ is.rest)))))

-- 229

pub extended_gives : (payload : List ℕ) (naming : FoundEnd) → extended_passive_reply_at payload ≡ Some naming → IsExtendedPassiveReply payload naming.end
unfolding extended_passive_reply_at
extended_gives payload naming found =
    let (text, text_is, more1) = went_on _ _ _ found in
    let (at, at_is, more2) = went_on _ _ _ more1 in
    let (opened, opened_is, more3) = went_on _ _ _ more2 in
    let (port, port_is, more4) = went_on _ _ _ more3 in
    let (closed, closed_is, last) = went_on _ _ _ more4 in
    let reply = after_gives (codes "229 ") payload text text_is in
    let place = place_gives is_before_parenthesis text at at_is in
    let opening = after_gives (codes "(|||") (drop at text) opened opened_is in
    let number = decimal_gives 5 65535 opened port port_is in
    let closing = after_gives (codes "|)") port.1 closed closed_is in
    let same : naming_of (record { address = None; port = port.0 }) (span_between payload opened port.1) ≡ naming = cc in
    record {
      before = take at text;
      port = number.digits;
      rest = closed;
      whole = joined (codes "229 ") (take at text) (codes "(|||") number.digits (codes "|)") closed
          payload text (drop at text) opened port.1 reply (sym (take-append-drop at text)) opening number.whole closing;
      is_before = AllPass-from_list_all is_before_parenthesis (take at text) place.all;
      is_port = subst (λ (n : FoundEnd). IsPort number.digits n.end.port) same number.is_number;
      at_server = sym (ap (λ (n : FoundEnd). n.end.address) same);
    }

pub extended_finds : (payload : List ℕ) (end : NamedEnd) (is : IsExtendedPassiveReply payload end)
    → extended_passive_reply_at payload ≡ Some (naming_of end (extended_span payload end is))
unfolding extended_passive_reply_at
extended_finds payload end is =
    let closing : List ℕ = codes "|)" ++ is.rest in
    let behind : List ℕ = codes "(|||" ++ (is.port ++ closing) in
    let apart : payload ≡ codes "229 " ++ (is.before ++ behind) =
    is.whole ∙ regrouped (codes "229 ") is.before (codes "(|||") is.port (codes "|)") is.rest in
    rw (
      apart,
      after_finds (codes "229 ") (is.before ++ behind),
      place_found is_before_parenthesis is.before behind (list_all-from_AllPass is_before_parenthesis is.before is.is_before) refl,
      drop-append_seam is.before behind,
      after_finds (codes "(|||") (is.port ++ closing),
      decimal_finds 5 65535 is.port closing end.port is.is_port refl,
      after_finds (codes "|)") is.rest,
    )
    (ap Some (naming_is _ end _ _ (end_is end None end.port is.at_server refl)
    (span_is (codes "229 " ++ (is.before ++ behind)) (is.port ++ closing) closing (codes "229 " ++ is.before ++ codes "(|||") is.port
    (length4 (codes "229 ") is.before (codes "(|||") (is.port ++ closing)) (length2 is.port closing))))
