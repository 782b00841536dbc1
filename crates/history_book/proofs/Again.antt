-- What is live at two points of a legal history.
use Rattle.std.proofs.Common.{◌≡◌, ℕ, ◌+◌, ◌<◌, ◌≤◌, zero, suc, Bool, true, false, cond, List, [], ◌∷◌, take, refl, sym, ap, subst, ◌∙◌, Option, Some, None, arith}
use Rattle.std.specs.List.{AllByRecursion, find, slice_get}
use Rattle.std.specs.Prelude.{◌≢◌}
use Rattle.std.proofs.lemmas.Bool.{and_parts, eqb-false, eqb-true, not-true, or_left, or_parts, or_right}
use Rattle.tuple_core.specs.declared.Direction.{Direction}
use Rattle.tuple_core.specs.declared.Direction.TheVariants.{Original, Reply}
use Rattle.tuple_core.specs.declared.Proto.{Proto}
use Rattle.tuple_core.specs.declared.Proto.TheVariants as proto
use Rattle.tuple_core.specs.declared.Segment.{Segment}
use Rattle.tuple_core.specs.declared.Segment.TheVariants as segment
use Rattle.tuple_core.specs.declared.Tuple.{Tuple}
use Rattle.proto_rules.specs.declared.PartKind.{PartKind}
use Rattle.proto_rules.specs.declared.PartKind.TheVariants as kind
use Rattle.proto_rules.specs.declared.TcpState.TheVariants.{Close}
use Rattle.proto_rules.specs.Laws.{AcceptedGoOn, SamePartIsEquality}
use Rattle.proto_rules.specs.Protocol.{is_of_protocol, proto_of}
use Rattle.history_book.specs.declared.event.Event.{Event}
use Rattle.history_book.specs.declared.event.Event.TheVariants.{Confirm}
use Rattle.history_book.specs.declared.record.Record.{Record}
use Rattle.history_book.specs.declared.sizes.Sizes.{Sizes}
use Rattle.history_book.specs.Entry.{confirmed_by, is_of_entry, is_of_record}
use Rattle.history_book.specs.History.{after, is_legal, is_legal_from, run}
use Rattle.history_book.specs.Laws.{AreApart, IsConfirmed}
use Rattle.history_book.specs.Legality.{may_happen}
use Rattle.history_book.specs.Record.{has_id, has_original, has_reply, has_tuple}
use Rattle.history_book.specs.State.{Found, State, empty_state, live_under, next, original_first, record_of}
use Rattle.history_book.proofs.Entries.{each_fails}
use Rattle.history_book.proofs.Live.{absent_free, apart_absent}
use Rattle.history_book.proofs.OneFlow.{OneFlow, confirmed_protocol, live_holds, own_protocol, protocol_after}
use Rattle.history_book.proofs.Pairs.{Pairs}
use Rattle.history_book.proofs.Passing.{found_holds, found_passes, none_found}
use Rattle.history_book.proofs.Records.{apart_sym}
use Rattle.history_book.proofs.Sound.{IsDead, confirmed_after, dead_run, sound_after}
use Rattle.history_book.proofs.Tuples.{same_tuple-refl}

-- a test that no other record passes: what is found by it is the record, or nothing
module _ (p : Record → Bool) (id : ℕ) (r : Record) (others : (x : Record) → AreApart x r → p x ≡ false) where
  only_first : (x : Record) (rs : List Record) (b : Bool) → has_id id x ≡ b → AllByRecursion (AreApart x) rs
      → cond b (Some x) (find (has_id id) rs) ≡ Some r → p r ≡ true
      → (find (has_id id) rs ≡ Some r → find p rs ≡ Some r) → cond (p x) (Some x) (find p rs) ≡ Some r
  only_first x rs true is apart at passes rest =
      let same : x ≡ r = cc in
      ap (λ b. cond b (Some x) (find p rs)) (ap p same ∙ passes) ∙ ap Some same
  only_first x rs false is apart at passes rest =
      let fails : p x ≡ false = others x (found_holds (AreApart x) (has_id id) rs r apart at) in
      ap (λ b. cond b (Some x) (find p rs)) fails ∙ rest at

  find_only : (rs : List Record) → Pairs rs → find (has_id id) rs ≡ Some r → p r ≡ true → find p rs ≡ Some r
  find_only [] apart at passes = cc
  find_only (x ∷ rs) (a, apart) at passes =
      only_first x rs (has_id id x) refl a at passes (λ h. find_only rs apart h passes)

  rest_absent : (rs : List Record) → AllByRecursion (λ x. AreApart x r) rs → find p rs ≡ None
  rest_absent [] h = refl
  rest_absent (x ∷ rs) (h, hs) = ap (λ b. cond b (Some x) (find p rs)) (others x h) ∙ rest_absent rs hs

  each_sym : (x : Record) (rs : List Record) → x ≡ r → AllByRecursion (AreApart x) rs → AllByRecursion (λ y. AreApart y r) rs
  each_sym x [] same h = tt
  each_sym x (y ∷ rs) same (h, hs) =
      (subst (λ (z : Record). AreApart y z) same (apart_sym x y h), each_sym x rs same hs)

  none_first : (x : Record) (rs : List Record) (b : Bool) → has_id id x ≡ b → AllByRecursion (AreApart x) rs
      → cond b (Some x) (find (has_id id) rs) ≡ Some r → p r ≡ false
      → (find (has_id id) rs ≡ Some r → find p rs ≡ None) → cond (p x) (Some x) (find p rs) ≡ None
  none_first x rs true is apart at fails rest =
      let same : x ≡ r = cc in
      ap (λ b. cond b (Some x) (find p rs)) (ap p same ∙ fails) ∙ rest_absent rs (each_sym x rs same apart)
  none_first x rs false is apart at fails rest =
      ap (λ b. cond b (Some x) (find p rs)) (others x (found_holds (AreApart x) (has_id id) rs r apart at)) ∙ rest at

  find_none : (rs : List Record) → Pairs rs → find (has_id id) rs ≡ Some r → p r ≡ false → find p rs ≡ None
  find_none [] apart at fails = cc
  find_none (x ∷ rs) (a, apart) at fails =
      none_first x rs (has_id id x) refl a at fails (λ h. find_none rs apart h fails)

-- what is live under a tuple, by the direction
record IsLiveBy (t : Tuple) (s : State) (r : Record) (d : Direction) : Type 0 where
  pub original : d ≡ Original → has_original t r ≡ true
  pub reply : d ≡ Reply → (find (has_original t) s.records ≡ None) × (has_reply t r ≡ true)

live_by : (t : Tuple) (s : State) (o q : Option Record) (f : Found) → find (has_original t) s.records ≡ o
    → find (has_reply t) s.records ≡ q → original_first o q ≡ Some f → IsLiveBy t s f.subject f.direction
live_by t s (Some a) q f e g h =
    let same : record { subject = a; direction = Original } ≡ f = cc in
    subst (λ (x : Found). IsLiveBy t s x.subject x.direction) same
    (record { original = λ d. found_passes (has_original t) s.records a e; reply = λ d. cc })
live_by t s None (Some b) f e g h =
    let same : record { subject = b; direction = Reply } ≡ f = cc in
    subst (λ (x : Found). IsLiveBy t s x.subject x.direction) same
    (record { original = λ d. cc; reply = λ d. (e, found_passes (has_reply t) s.records b g) })
live_by t s None None f e g h = cc

-- two records of one id that were confirmed in one history are one entry
pub record IsOneEntry (r s : Record) : Type 0 where
  pub original : r.original ≡ s.original
  pub reply : r.reply ≡ s.reply

one_entry : (log : List Event) (r s : Record) → r.id ≡ s.id → IsConfirmed log r → IsConfirmed log s → IsOneEntry r s
one_entry log r s ids a b =
    let same : a.subject ≡ b.subject = let e = a.event in let f = b.event in cc in
    record {
      original = a.same.original ∙ ap (λ (x : Record). x.original) same ∙ sym b.same.original;
      reply = a.same.reply ∙ ap (λ (x : Record). x.reply) same ∙ sym b.same.reply;
    }

-- an entry that is live under the tuple, in the state where it is this record
module _ (t : Tuple) (s : State) (id : ℕ) (r : Record) (apart : Pairs s.records) (at : find (has_id id) s.records ≡ Some r) where
  elsewhere : has_tuple t r ≡ true → (x : Record) → AreApart x r → (has_original t x ≡ false) × (has_reply t x ≡ false)
  elsewhere has x a = or_parts (has_original t x) (has_reply t x) (apart_absent t r x has (apart_sym x r a))

  live_original : has_original t r ≡ true → live_under t s ≡ Some (record { subject = r; direction = Original })
  live_original h =
      let has = or_left (has_original t r) (has_reply t r) h in
      ap (λ o. original_first o (find (has_reply t) s.records))
      (find_only (has_original t) id r (λ x a. (elsewhere has x a).0) s.records apart at h)

  live_reply : has_original t r ≡ false → has_reply t r ≡ true → live_under t s ≡ Some (record { subject = r; direction = Reply })
  live_reply unnamed h =
      let has = or_right (has_original t r) (has_reply t r) h in
      ap (λ o. original_first o (find (has_reply t) s.records))
      (find_none (has_original t) id r (λ x a. (elsewhere has x a).0) s.records apart at unnamed)
      ∙ ap (λ o. original_first None o)
      (find_only (has_reply t) id r (λ x a. (elsewhere has x a).1) s.records apart at h)

-- where no record is found by a test, each that the state has fails it
pub none_passes : (p : Record → Bool) (rs : List Record) → find p rs ≡ None → AllByRecursion (λ r. p r ≡ false) rs
none_passes p rs h = each_fails p rs (none_found p rs h)

again_by : (t : Tuple) (s : State) (before : State) (id : ℕ) (found : Found) (r : Record) (d : Direction) → found.direction ≡ d
    → Pairs s.records → find (has_id id) s.records ≡ Some r → IsOneEntry found.subject r
    → live_under t before ≡ Some found → IsLiveBy t before found.subject found.direction
    → live_under t s ≡ Some (record { subject = r; direction = d })
again_by t s before id found r Original is apart at one live by =
    live_original t s id r apart at
    (subst (λ (u : Tuple). has_original t (record r { original = u }) ≡ true) one.original (by.original is))
again_by t s before id found r Reply is apart at one live by =
    let parts = by.reply is in
    let fails : has_original t found.subject ≡ false =
    live_holds (λ x. has_original t x ≡ false) t before found (none_passes (has_original t) before.records parts.0) live in
    live_reply t s id r apart at
    (subst (λ (u : Tuple). has_original t (record r { original = u }) ≡ false) one.original fails)
    (subst (λ (u : Tuple). has_reply t (record r { reply = u }) ≡ true) one.reply parts.1)

-- a record found by its id is confirmed, and has the id
pub found_confirmed : (sizes : Sizes) (log : List Event) (q id : ℕ) (r : Record) → is_legal sizes log ≡ true
    → record_of id (after log q) ≡ Some r → IsConfirmed log r × (r.id ≡ id)
found_confirmed sizes log q id r legal at = (
  found_holds (IsConfirmed log) (has_id id) (after log q).records r (confirmed_after sizes q log legal) at,
  eqb-true r.id id (found_passes (has_id id) (after log q).records r at),
)

pub found_again : (sizes : Sizes) (log : List Event) (p q : ℕ) (t : Tuple) (found : Found) (r : Record) → is_legal sizes log ≡ true
    → live_under t (after log p) ≡ Some found → record_of found.subject.id (after log q) ≡ Some r
    → live_under t (after log q) ≡ Some (record { subject = r; direction = found.direction })
found_again sizes log p q t found r legal live at =
    let confirmed : IsConfirmed log found.subject =
    live_holds (IsConfirmed log) t (after log p) found (confirmed_after sizes p log legal) live in
    let other = found_confirmed sizes log q found.subject.id r legal at in
    again_by t (after log q) (after log p) found.subject.id found r found.direction refl
    (sound_after sizes q log legal).apart at (one_entry log found.subject r (sym other.1) confirmed other.0) live
    (live_by t (after log p) (find (has_original t) (after log p).records) (find (has_reply t) (after log p).records) found
    refl refl live)

-- an id that is not live stays so, once an event could have had it
dead_later : (sizes : Sizes) (n p q id : ℕ) (s : State) (log : List Event) → is_legal_from sizes s n log ≡ true
    → id < n + p → p ≤ q → IsDead id (run s (take p log)) → IsDead id (run s (take q log))
dead_later sizes n zero q id s log legal old le h = dead_run sizes n q id s log legal (omega arith) h
dead_later sizes n (suc p) zero id s log legal old le h = absurd (omega arith)
dead_later sizes n (suc p) (suc q) id s [] legal old le h = h
dead_later sizes n (suc p) (suc q) id s (e ∷ es) legal old le h =
    let parts = and_parts (may_happen sizes s n e) (is_legal_from sizes (next s e) (n + 1) es) legal in
    dead_later sizes (n + 1) p q id (next s e) es parts.1 (omega arith) (omega arith) h

pub dead_from : (sizes : Sizes) (p q id : ℕ) (log : List Event) → is_legal sizes log ≡ true → id < p → p ≤ q
    → IsDead id (after log p) → IsDead id (after log q)
unfolding is_legal after
dead_from sizes p q id log legal old le h = dead_later sizes 0 p q id empty_state log legal (omega arith) le h

-- no record of the id is live where none is found
pub dead_of : (id : ℕ) (rs : List Record) → AllByRecursion (λ r. has_id id r ≡ false) rs → AllByRecursion (λ r. r.id ≢ id) rs
dead_of id [] h = tt
dead_of id (r ∷ rs) (h, hs) = (eqb-false r.id id h, dead_of id rs hs)

older_is_live : (sizes : Sizes) (log : List Event) (p q : ℕ) (t : Tuple) (found : Found) (o : Option Record)
    → record_of found.subject.id (after log p) ≡ o → is_legal sizes log ≡ true → p ≤ q → live_under t (after log p) ≡ None
    → live_under t (after log q) ≡ Some found → found.subject.id < p → ⊥
older_is_live sizes log p q t found (Some r) at legal le absent live old =
    let again = found_again sizes log q p t found r legal live at in cc
older_is_live sizes log p q t found None at legal le absent live old =
    let dead : IsDead found.subject.id (after log p) =
    dead_of found.subject.id (after log p).records (none_passes (has_id found.subject.id) (after log p).records at) in
    live_holds (λ r. r.id ≢ found.subject.id) t (after log q) found
    (dead_from sizes p q found.subject.id log legal old le dead) live refl

pub late_is_new : (sizes : Sizes) (log : List Event) (p q : ℕ) (t : Tuple) (found : Found) → is_legal sizes log ≡ true → p ≤ q
    → live_under t (after log p) ≡ None → live_under t (after log q) ≡ Some found → p ≤ found.subject.id
late_is_new sizes log p q t found legal le absent live =
    not_below p found.subject.id
    (older_is_live sizes log p q t found (record_of found.subject.id (after log p)) refl legal le absent live)
  where
    not_below : (m n : ℕ) → (n < m → ⊥) → m ≤ n
    not_below m n h = omega (arith, h)

-- each Confirm of a legal history is of one flow
confirm_protocol : (sizes : Sizes) (n k : ℕ) (s : State) (log : List Event) (r : Record) → is_legal_from sizes s n log ≡ true
    → slice_get log k ≡ Some (Confirm r) → OneFlow r
confirm_protocol sizes n k s [] r legal at = cc
confirm_protocol sizes n zero s (e ∷ es) r legal at =
    let parts = and_parts (may_happen sizes s n e) (is_legal_from sizes (next s e) (n + 1) es) legal in
    let same : e ≡ Confirm r = cc in
    confirmed_protocol sizes n s r (subst (λ (x : Event). may_happen sizes s n x ≡ true) same parts.0)
confirm_protocol sizes n (suc k) s (e ∷ es) r legal at =
    let parts = and_parts (may_happen sizes s n e) (is_legal_from sizes (next s e) (n + 1) es) legal in
    confirm_protocol sizes (n + 1) k (next s e) es r parts.1 at

confirm_protocol_at : (sizes : Sizes) (k : ℕ) (log : List Event) (r : Record) → is_legal sizes log ≡ true
    → slice_get log k ≡ Some (Confirm r) → OneFlow r
unfolding is_legal
confirm_protocol_at sizes k log r legal at = confirm_protocol sizes 0 k empty_state log r legal at

-- the test of a segment and an entry reads the entry's protocol alone
by_proto : Segment → Proto → Bool
by_proto s proto.Tcp = is_of_protocol s (kind.Tcp Close)
by_proto s proto.Udp = is_of_protocol s kind.Udp
by_proto s proto.Icmp = is_of_protocol s kind.Icmp

reads_proto : (s : Segment) (k : PartKind) → is_of_protocol s k ≡ by_proto s (proto_of k)
unfolding by_proto
reads_proto (segment.Tcp k) (kind.Tcp state) = refl
reads_proto segment.Udp (kind.Tcp state) = refl
reads_proto (segment.Icmp type) (kind.Tcp state) = refl
reads_proto s kind.Udp = refl
reads_proto s kind.Icmp = refl

own_proto : (r : Record) → OneFlow r → proto_of r.part.kind ≡ r.original.proto
own_proto r h = own_protocol r.original r h (or_left (has_original r.original r) (has_reply r.original r) (same_tuple-refl r.original))

-- a record that was confirmed and is of one flow is of the protocol of its Confirm
kept_by : (sizes : Sizes) (log : List Event) (r : Record) (segment : Segment) → is_legal sizes log ≡ true → IsConfirmed log r
    → OneFlow r → is_of_entry segment r.id log ≡ is_of_protocol segment r.part.kind
kept_by sizes log r segment legal confirmed live =
    let s : Record = confirmed.subject in
    let same : proto_of s.part.kind ≡ proto_of r.part.kind =
    own_proto s (confirm_protocol_at sizes r.id log s legal confirmed.event)
    ∙ ap (λ (t : Tuple). t.proto) (sym confirmed.same.original) ∙ sym (own_proto r live) in
    ap (λ o. is_of_record segment (confirmed_by o)) confirmed.event
    ∙ reads_proto segment s.part.kind ∙ ap (by_proto segment) same ∙ sym (reads_proto segment r.part.kind)

module _ (go_on : AcceptedGoOn) (equal : SamePartIsEquality) where
  pub kept_protocol : (sizes : Sizes) (log : List Event) (p id : ℕ) (r : Record) (segment : Segment) → is_legal sizes log ≡ true
      → record_of id (after log p) ≡ Some r → is_of_entry segment id log ≡ is_of_protocol segment r.part.kind
  kept_protocol sizes log p id r segment legal at =
      let confirmed = found_confirmed sizes log p id r legal at in
      ap (λ n. is_of_entry segment n log) (sym confirmed.1)
      ∙ kept_by sizes log r segment legal confirmed.0
      (found_holds OneFlow (has_id id) (after log p).records r (protocol_after go_on equal sizes p log legal) at)

  pub found_protocol : (sizes : Sizes) (log : List Event) (p : ℕ) (t : Tuple) (found : Found) (segment : Segment)
      → is_legal sizes log ≡ true → live_under t (after log p) ≡ Some found
      → is_of_entry segment found.subject.id log ≡ is_of_protocol segment found.subject.part.kind
  found_protocol sizes log p t found segment legal live =
      kept_by sizes log found.subject segment legal
      (live_holds (IsConfirmed log) t (after log p) found (confirmed_after sizes p log legal) live)
      (live_holds OneFlow t (after log p) found (protocol_after go_on equal sizes p log legal) live)

-- where nothing is live under a tuple, no live record has it
pub nobodys : (t u : Tuple) (s : State) (found : Found) → live_under t s ≡ None → live_under u s ≡ Some found
    → has_tuple t found.subject ≡ false
nobodys t u s found absent live =
    live_holds (λ r. has_tuple t r ≡ false) u s found
    (each_fails (has_tuple t) s.records (not-true _ (absent_free t s absent))) live
