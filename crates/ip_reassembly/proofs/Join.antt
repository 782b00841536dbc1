-- What is known of a group once one piece more is in it.
use Rattle.std.proofs.Common.{◌≡◌, ℕ, Bool, true, false, ◌&&◌, ◌||◌, not, List, [], ◌∷◌, ◌++◌, refl, sym, ◌∙◌, ap, subst, arith}
use Rattle.std.specs.Prelude.{◌==◌, nat_le, if◌then◌else◌, Option, Some, None}
use Rattle.std.specs.List.{list_all}
use Rattle.std.proofs.lemmas.Bool.Decides.{nat_tests}
use Rattle.std.proofs.lemmas.Bool.{and_parts}
use Rattle.std.proofs.lemmas.List.Folds.{list_all-append}
use Rattle.ip_reassembly.specs.declared.piece.Part.{Part}
use Rattle.ip_reassembly.specs.declared.piece.Piece.{Piece}
use Rattle.ip_reassembly.specs.declared.gathering.Gathering.{Gathering}
use Rattle.ip_reassembly.specs.Part.{byte_at, covers, give_one_value, same_bytes, value}
use Rattle.ip_reassembly.specs.Group.{agree, end_of, fit_end, fits_end, parts_of}
use Rattle.ip_reassembly.specs.Datagram.{header_of}
use Rattle.ip_reassembly.specs.Internal.Filling.{fill}
use Rattle.ip_reassembly.specs.Internal.Gathering.{Begun, Gathers, IsSound, Joined, end_fits, first_end, first_header, higher, leader_moment}
use Rattle.ip_reassembly.proofs.Same.{equal_tests, fit_alike, is_same, same_is}
use Rattle.ip_reassembly.proofs.Order.{order_agrees}
use Rattle.ip_reassembly.proofs.Fill.{fill_bytes}

-- ---- lists with one more
pub parts_more : (group : List Piece) (p : Piece) → parts_of (group ++ p ∷ []) ≡ parts_of group ++ p.part ∷ []
parts_more [] p = refl
parts_more (q ∷ group) p = ap (λ (ps : List Part). q.part ∷ ps) (parts_more group p)

same_turned : (bytes : List ℕ) (p q : Part) → same_bytes bytes p q ≡ same_bytes bytes q p
same_turned bytes p q = equal_tests _ _
    (λ h. is_same bytes q p (λ x in_q in_p. sym (same_is bytes p q h x in_p in_q)))
    (λ h. is_same bytes p q (λ x in_p in_q. sym (same_is bytes q p h x in_q in_p)))

shuffle : (a b c d : Bool) → ((a && (c && true)) && (b && d)) ≡ ((a && b) && (c && d))
shuffle true true true true = refl
shuffle true true true false = refl
shuffle true true false true = refl
shuffle true true false false = refl
shuffle true false true true = refl
shuffle true false true false = refl
shuffle true false false true = refl
shuffle true false false false = refl
shuffle false true true true = refl
shuffle false true true false = refl
shuffle false true false true = refl
shuffle false true false false = refl
shuffle false false true true = refl
shuffle false false true false = refl
shuffle false false false true = refl
shuffle false false false false = refl

pub one_value_more : (bytes : List ℕ) (parts : List Part) (r : Part) → give_one_value bytes (parts ++ r ∷ []) ≡ (give_one_value bytes parts && list_all (same_bytes bytes r) parts)
one_value_more bytes [] r = refl
one_value_more bytes (q ∷ parts) r =
    (λ i. list_all-append (same_bytes bytes q) parts (r ∷ []) i && one_value_more bytes parts r i)
    ∙ (λ i. (list_all (same_bytes bytes q) parts && (same_turned bytes q r i && true)) && (give_one_value bytes parts && list_all (same_bytes bytes r) parts))
    ∙ shuffle (list_all (same_bytes bytes q) parts) (give_one_value bytes parts) (same_bytes bytes r q) (list_all (same_bytes bytes r) parts)

first_of : (b : Bool) (h : ℕ) (o : Option ℕ) (p : Piece) → first_header (if b then Some h else o) p ≡ (if b then Some h else first_header o p)
first_of true h o p = refl
first_of false h o p = refl

pub header_more : (group : List Piece) (p : Piece) → header_of (group ++ p ∷ []) ≡ first_header (header_of group) p
header_more [] p = refl
header_more (q ∷ group) p =
    ap (λ (o : Option ℕ). if q.part.low == 0 then Some q.header else o) (header_more group p)
    ∙ sym (first_of (q.part.low == 0) q.header (header_of group) p)

first_end_of : (b : Bool) (h : ℕ) (o : Option ℕ) (p : Piece) → first_end (if b then Some h else o) p ≡ (if b then Some h else first_end o p)
first_end_of true h o p = refl
first_end_of false h o p = refl

pub end_more : (group : List Piece) (p : Piece) → end_of (group ++ p ∷ []) ≡ first_end (end_of group) p
end_more [] p = refl
end_more (q ∷ group) p =
    ap (λ (o : Option ℕ). if q.last then Some q.part.high else o) (end_more group p)
    ∙ sym (first_end_of q.last q.part.high (end_of group) p)

and_true : (b : Bool) → (b && true) ≡ b
and_true true = refl
and_true false = refl

-- ---- ends
ends_by_piece : ℕ → Piece → Bool
ends_by_piece h p = nat_le p.part.high h

-- where none is last, only the longest counts
none_last : (h : ℕ) (group : List Piece) → end_of group ≡ None → list_all (fits_end h) group ≡ list_all (λ (p : Piece). nat_le p.part.high h) group
none_last h [] none = refl
none_last h (q ∷ group) none = one (λ gone. none_last h group gone) q.last q.part.high refl none
  where
    one : (end_of group ≡ None → list_all (fits_end h) group ≡ list_all (λ (p : Piece). nat_le p.part.high h) group) → (last : Bool) (high : ℕ) → last ≡ q.last → (if last then Some high else end_of group) ≡ None
        → list_all (fits_end h) (q ∷ group) ≡ list_all (λ (p : Piece). nat_le p.part.high h) (q ∷ group)
    one deeper true high here gone = cc
    one deeper false high here gone =
        (λ i. (nat_le q.part.high h && (not (sym here i) || q.part.high == h)) && deeper gone i)
        ∙ ap (λ (b : Bool). b && list_all (λ (p : Piece). nat_le p.part.high h) group) (and_true (nat_le q.part.high h))

own_end : (p : Piece) → fits_end p.part.high p ≡ true
own_end p = grind (arith, nat_tests)

ends_more : (end : Option ℕ) (top : ℕ) (group : List Piece) (p : Piece) → end_of group ≡ end
    → ((h : ℕ) → list_all (λ (q : Piece). nat_le q.part.high h) group ≡ nat_le top h)
    → fit_end (first_end end p) (group ++ p ∷ []) ≡ (fit_end end group && end_fits end top p)
ends_more (Some end) top group p ends tops =
    list_all-append (fits_end end) group (p ∷ []) ∙ ap (λ (b : Bool). list_all (fits_end end) group && b) (and_true (fits_end end p))
ends_more None top group p ends tops = last_or_not p.last refl
  where
    last_or_not : (last : Bool) → last ≡ p.last → fit_end (if last then Some p.part.high else None) (group ++ p ∷ []) ≡ (true && (not last || nat_le top p.part.high))
    last_or_not true here =
        list_all-append (fits_end p.part.high) group (p ∷ [])
        ∙ (λ i. (none_last p.part.high group ends ∙ tops p.part.high) i && (own_end p i && true))
        ∙ and_true (nat_le top p.part.high)
    last_or_not false here = refl

pub higher_test : (top high h : ℕ) → (nat_le top h && (nat_le high h && true)) ≡ nat_le (higher top high) h
higher_test top high h = grind (arith, nat_tests)

-- ---- bytes
abbrev or_at : Option ℕ → Option ℕ → Option ℕ
or_at (Some v) o = Some v
or_at None o = o

byte_behind : (bytes : List ℕ) (parts : List Part) (r : Part) (x : ℕ) → byte_at bytes (parts ++ r ∷ []) x ≡ or_at (byte_at bytes parts x) (byte_at bytes (r ∷ []) x)
byte_behind bytes [] r x = refl
byte_behind bytes (q ∷ parts) r x =
    ap (λ (o : Option ℕ). if covers q x then Some (value bytes q x) else o) (byte_behind bytes parts r x)
    ∙ chosen (covers q x) (value bytes q x) (byte_at bytes parts x) (byte_at bytes (r ∷ []) x)
  where
    chosen : (b : Bool) (v : ℕ) (o rest : Option ℕ) → (if b then Some v else or_at o rest) ≡ or_at (if b then Some v else o) rest
    chosen true v o rest = refl
    chosen false v o rest = refl

pub byte_more : (bytes : List ℕ) (parts others : List Part) (r : Part) (x : ℕ) → byte_at bytes parts x ≡ byte_at bytes others x
    → byte_at bytes (parts ++ r ∷ []) x ≡ byte_at bytes (others ++ r ∷ []) x
byte_more bytes parts others r x h =
    byte_behind bytes parts r x ∙ ap (λ (o : Option ℕ). or_at o (byte_at bytes (r ∷ []) x)) h ∙ sym (byte_behind bytes others r x)

-- ---- the whole state
agree_more : (bytes : List ℕ) (group : List Piece) (p : Piece) (top : ℕ)
    → ((h : ℕ) → list_all (λ (q : Piece). nat_le q.part.high h) group ≡ nat_le top h)
    → agree bytes (group ++ p ∷ []) ≡ ((give_one_value bytes (parts_of group) && list_all (same_bytes bytes p.part) (parts_of group)) && (fit_end (end_of group) group && end_fits (end_of group) top p))
agree_more bytes group p top tops =
    (λ i. (ap (give_one_value bytes) (parts_more group p) ∙ one_value_more bytes (parts_of group) p.part) i
    && (ap (λ (o : Option ℕ). fit_end o (group ++ p ∷ [])) (end_more group p) ∙ ends_more (end_of group) top group p refl tops) i)

join_tests : (old g f e s t : Bool) → old ≡ (g && f) → (old ≡ true → s ≡ t) → (old && (e && s)) ≡ ((g && t) && (f && e))
join_tests old true true e s t is same = subst (λ (o : Bool). (o ≡ true → s ≡ t) → (o && (e && s)) ≡ (t && e)) (sym is) (λ h. turned e s t (h refl)) same
  where
    turned : (e s t : Bool) → s ≡ t → (e && s) ≡ (t && e)
    turned true true true h = refl
    turned true false false h = refl
    turned false true true h = refl
    turned false false false h = refl
    turned true true false h = h
    turned true false true h = h
    turned false true false h = refl
    turned false false true h = refl
join_tests old true false e s t is same = subst (λ (o : Bool). (o && (e && s)) ≡ (t && false)) (sym is) (nothing t)
  where
    nothing : (t : Bool) → false ≡ (t && false)
    nothing true = refl
    nothing false = refl
join_tests old false f e s t is same = subst (λ (o : Bool). (o && (e && s)) ≡ false) (sym is) refl

pub begun_gathers : (bytes : List ℕ) (p : Piece) (g : Gathering) → Begun p g → Gathers bytes (p ∷ []) g
begun_gathers bytes p g begun = record {
  began = λ i. Some (sym begun.began i);
  agrees = begun.agrees ∙ sym (alone p.last refl);
  header = begun.header;
  end = begun.end;
  top = λ h. and_true (nat_le p.part.high h) ∙ (λ i. nat_le (sym begun.top i) h);
  values = λ agrees place. λ i. byte_at bytes (begun.parts i) place;
}
  where
    alone : (last : Bool) → last ≡ p.last → fit_end (if last then Some p.part.high else None) (p ∷ []) ≡ true
    alone true here = and_true (fits_end p.part.high p) ∙ own_end p
    alone false here = refl

leads_still : (group : List Piece) (p : Piece) (m : ℕ) → leader_moment group ≡ Some m → leader_moment (group ++ p ∷ []) ≡ Some m
leads_still [] p m h = cc
leads_still (leader ∷ others) p m h = h

agreed_before : (old rest new : Bool) → new ≡ (old && rest) → new ≡ true → old ≡ true
agreed_before true rest new h holds = refl
agreed_before false rest new h holds = sym h ∙ holds

pub joined_gathers : (bytes : List ℕ) (group : List Piece) (p : Piece) (size : ℕ) (old new : Gathering)
    → Gathers bytes group old → IsSound size old → Joined bytes p old new → Gathers bytes (group ++ p ∷ []) new
joined_gathers bytes group p size old new so sound joined = record {
  began = leads_still group p old.began so.began ∙ (λ i. Some (sym joined.began i));
  agrees = joined.agrees
      ∙ (λ i. old.agrees && (end_fits (so.end i) old.top p && list_all (same_bytes bytes p.part) old.parts.items))
      ∙ join_tests old.agrees (give_one_value bytes (parts_of group)) (fit_end (end_of group) group) (end_fits (end_of group) old.top p)
      (list_all (same_bytes bytes p.part) old.parts.items) (list_all (same_bytes bytes p.part) (parts_of group)) so.agrees
      (λ agrees. fit_alike bytes p.part old.parts.items (parts_of group) (order_agrees bytes 0 old.parts.items sound.order)
      ((and_parts (give_one_value bytes (parts_of group)) (fit_end (end_of group) group) (sym so.agrees ∙ agrees)).0) (so.values agrees))
      ∙ sym (agree_more bytes group p old.top so.top);
  header = joined.header ∙ (λ i. first_header (so.header i) p) ∙ sym (header_more group p);
  end = joined.end ∙ (λ i. first_end (so.end i) p) ∙ sym (end_more group p);
  top = λ h. list_all-append (λ (q : Piece). nat_le q.part.high h) group (p ∷ [])
      ∙ (λ i. so.top h i && (nat_le p.part.high h && true))
      ∙ higher_test old.top p.part.high h
      ∙ (λ i. nat_le (sym joined.top i) h);
  values = λ agrees place.
      (λ i. byte_at bytes (joined.parts i) place)
      ∙ (λ i. byte_at bytes (if agrees i then fill p.part old.parts.items else old.parts.items) place)
      ∙ fill_bytes bytes 0 p.part old.parts.items place sound.order
      ∙ byte_more bytes old.parts.items (parts_of group) p.part place (so.values (agreed_before old.agrees _ new.agrees joined.agrees agrees) place)
      ∙ (λ i. byte_at bytes (sym (parts_more group p) i) place);
}
