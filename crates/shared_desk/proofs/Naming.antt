-- A link of a locked chain is that of a live record, and names its id; a tuple that is in no link is no live record's.
use Rattle.std.proofs.Common.{◌≡◌, ◌≢◌, ℕ, zero, suc, ◌+◌, ◌*◌, ◌<◌, Bool, true, false, Option, Some, None, List, [], ◌∷◌, refl, sym, ap, ◌∙◌, arith, ⊎_elim, ◌⊎◌, inl, inr}
use Rattle.std.specs.Prelude.{◌==◌, ◌&&◌, if◌then◌else◌}
use Rattle.std.proofs.lemmas.Bool.{and_from, and_parts, cases_Bool, eq-eqb, eqb-true, false≢true}
use Rattle.history_book.specs.Legality.{is_of_one_flow, is_of_one_zone, same_id, same_proto}
use Rattle.history_book.specs.declared.record.Record.{Record}
use Rattle.history_book.specs.declared.sizes.Sizes.{Sizes}
use Rattle.proto_rules.specs.Protocol.{proto_of}
use Rattle.tuple_core.specs.Laws.{WordsDetermineTheTuple}
use Rattle.tuple_core.specs.Tuple.{is_valid}
use Rattle.tuple_core.specs.Words.{address_word, flow_word}
use Rattle.tuple_core.specs.declared.Tuple.{Tuple}
use Rattle.track_rule.specs.Chains.{bucket_of, links_in, original_of, pair_of, reply_of, side}
use Rattle.track_rule.specs.Layout.{place_of, side_of}
use Rattle.track_rule.specs.Sums.{bit, total}
use Rattle.track_rule.specs.Walks.{rev_onto}
use Rattle.track_rule.specs.declared.view.ChainLink.{ChainLink}
use Rattle.track_rule.specs.declared.view.Pair.{Pair}
use Rattle.bucket_table.specs.Following.{bucket_in, has_words}
use Rattle.bucket_table.specs.LockedChain.{link_with}
use Rattle.shared_desk.proofs.Members.{IsIn, some_weighs, weighs_in}

-- a link of a chain with a tuple, in this direction
pub record IsLinkOf (a b d : ℕ) (chain : List ChainLink) (x : ℕ) : Type 0 where
  pub passed : List ChainLink
  pub entry : ChainLink
  pub rest : List ChainLink
  pub all : chain ≡ rev_onto passed (entry ∷ rest)
  pub words : has_words a b entry ≡ true
  pub sided : side_of entry.link ≡ d
  pub link : entry.link ≡ x

split_on : (a b d x : ℕ) (passed chain : List ChainLink) → link_with d a b chain ≡ Some x → IsLinkOf a b d (rev_onto passed chain) x
split_on a b d x passed [] e = cc
split_on a b d x passed (y ∷ ys) e =
    ⊎_elim
    (λ (t : (has_words a b y && side_of y.link == d) ≡ true).
    let parts = and_parts (has_words a b y) (side_of y.link == d) t in
    let same : Some y.link ≡ Some x = sym (ap (λ (k : Bool). if k then Some y.link else link_with d a b ys) t) ∙ e in
    record { passed = passed; entry = y; rest = ys; all = refl; words = parts.0; sided = eqb-true (side_of y.link) d parts.1; link = one same })
    (λ (t : (has_words a b y && side_of y.link == d) ≡ false).
    split_on a b d x (y ∷ passed) ys (sym (ap (λ (k : Bool). if k then Some y.link else link_with d a b ys) t) ∙ e))
    (cases_Bool (has_words a b y && side_of y.link == d))
  where
    one : Some y.link ≡ Some x → y.link ≡ x
    one same = cc

pub link_there : (a b d x : ℕ) (chain : List ChainLink) → link_with d a b chain ≡ Some x → IsLinkOf a b d chain x
link_there a b d x chain e = split_on a b d x [] chain e

-- where there is none, none weighs
pub none_there : (a b d : ℕ) (chain : List ChainLink) → link_with d a b chain ≡ None → total (λ (y : ChainLink). bit (has_words a b y && side_of y.link == d)) chain ≡ 0
none_there a b d [] e = refl
none_there a b d (y ∷ ys) e =
    ⊎_elim
    (λ (t : (has_words a b y && side_of y.link == d) ≡ true). absurd (some_none y.link (sym (ap (λ (k : Bool). if k then Some y.link else link_with d a b ys) t) ∙ e)))
    (λ (t : (has_words a b y && side_of y.link == d) ≡ false).
    omega (arith, ap bit t, none_there a b d ys (sym (ap (λ (k : Bool). if k then Some y.link else link_with d a b ys) t) ∙ e)))
    (cases_Bool (has_words a b y && side_of y.link == d))
  where
    some_none : (n : ℕ) → Some n ≡ None → ⊥
    some_none n g = cc

total_onto : (f : ChainLink → ℕ) (passed rest : List ChainLink) → total f (rev_onto passed rest) ≡ total f passed + total f rest
total_onto f [] rest = omega arith
total_onto f (p ∷ ps) rest = omega (arith, total_onto f ps (p ∷ rest))

-- this very entry: its link, its tuple and its id
abbrev is_link : ChainLink → ChainLink → Bool
is_link e y = (y.link == e.link && has_words e.pair.first e.pair.second y) && same_id y.id e.id

id_self : (o : Option ℕ) → same_id o o ≡ true
id_self None = refl
id_self (Some n) = eq-eqb n n refl

id_named : (n : ℕ) (o : Option ℕ) → same_id (Some n) o ≡ true → o ≡ Some n
id_named n None e = absurd (false≢true e)
id_named n (Some m) e = ap (λ (k : ℕ). Some k) (sym (eqb-true n m e))

link_self : (e : ChainLink) → is_link e e ≡ true
link_self e =
    and_from (e.link == e.link && has_words e.pair.first e.pair.second e) (same_id e.id e.id)
    (and_from (e.link == e.link) (has_words e.pair.first e.pair.second e) (eq-eqb e.link e.link refl)
    (and_from (e.pair.first == e.pair.first) (e.pair.second == e.pair.second) (eq-eqb e.pair.first e.pair.first refl) (eq-eqb e.pair.second e.pair.second refl)))
    (id_self e.id)

bit_set : (b : Bool) → 0 < bit b → b ≡ true
bit_set true e = refl
bit_set false e = absurd (omega (arith, e))

side_some : (z : Sizes) (b : ℕ) (w : ChainLink → ℕ) (e : ChainLink) → 0 < side z b w e → 0 < w e
side_some z b w e any =
    ⊎_elim
    (λ (t : (bucket_of z e.pair == b) ≡ true). omega (arith, any, ap (λ (k : Bool). if k then w e else 0) t))
    (λ (t : (bucket_of z e.pair == b) ≡ false). absurd (omega (arith, any, ap (λ (k : Bool). if k then w e else 0) t)))
    (cases_Bool (bucket_of z e.pair == b))

-- THE RECORDS OF A LOCKED CHAIN

-- a record of one flow has two valid tuples
pub valid_tuples : (r : Record) → is_of_one_flow r ≡ true → (is_valid r.original ≡ true) × (is_valid r.reply ≡ true)
valid_tuples r e =
    and_parts (is_valid r.original) (is_valid r.reply)
    (and_parts (is_valid r.original && is_valid r.reply) (is_of_one_zone r)
    (and_parts (is_valid r.original && is_valid r.reply && is_of_one_zone r) (same_proto r.original.proto (proto_of r.part.kind))
    (and_parts ((is_valid r.original && is_valid r.reply && is_of_one_zone r) && same_proto r.original.proto (proto_of r.part.kind)) (same_proto r.reply.proto (proto_of r.part.kind)) e).0).0).0

-- the chain weighs what these records weigh in the bucket of the tuple
abbrev pub AreLinked : Sizes → Tuple → List ChainLink → List Record → Type 0
AreLinked z t chain rs = (weight : ChainLink → ℕ) → total weight chain ≡ total (links_in z (bucket_in z t) weight) rs

module _ (z : Sizes) (t : Tuple) (chain : List ChainLink) (rs : List Record) (sums : AreLinked z t chain rs)
    (valid : (r : Record) → IsIn r rs → is_of_one_flow r ≡ true) (valid_t : is_valid t ≡ true) (words : WordsDetermineTheTuple) where
  -- the record of an entry of the chain
  owner : (passed : List ChainLink) (e : ChainLink) (rest : List ChainLink) → chain ≡ rev_onto passed (e ∷ rest)
      → (r : Record) × IsIn r rs × ((is_link e (original_of r) ≡ true) ⊎ (is_link e (reply_of r) ≡ true))
  owner passed e rest all =
      let w : ChainLink → ℕ = λ y. bit (is_link e y) in
      let found = some_weighs (links_in z (bucket_in z t) (λ y. bit (is_link e y))) rs
      (omega (arith, sums (λ y. bit (is_link e y)), ap (total (λ y. bit (is_link e y))) all, total_onto (λ y. bit (is_link e y)) passed (e ∷ rest), ap bit (link_self e))) in
      (found.0, found.1, by_side found.0 found.2)
    where
      by_side : (r : Record) → 0 < links_in z (bucket_in z t) (λ y. bit (is_link e y)) r → (is_link e (original_of r) ≡ true) ⊎ (is_link e (reply_of r) ≡ true)
      by_side r any = first (side z (bucket_in z t) (λ y. bit (is_link e y)) (original_of r)) refl
        where
          first : (n : ℕ) → side z (bucket_in z t) (λ y. bit (is_link e y)) (original_of r) ≡ n → (is_link e (original_of r) ≡ true) ⊎ (is_link e (reply_of r) ≡ true)
          first zero k = inr (bit_set (is_link e (reply_of r)) (side_some z (bucket_in z t) (λ y. bit (is_link e y)) (reply_of r) (omega (arith, any, k))))
          first (suc n) k = inl (bit_set (is_link e (original_of r)) (side_some z (bucket_in z t) (λ y. bit (is_link e y)) (original_of r) (omega (arith, k))))

  -- the tuple of the words
  by_words : (u : Tuple) (e : ChainLink) → is_valid u ≡ true → has_words (address_word t) (flow_word t) e ≡ true → has_words e.pair.first e.pair.second (record { link = 0; pair = pair_of u; id = None }) ≡ true → u ≡ t
  by_words u e valid_u has same =
      let p = and_parts (e.pair.first == address_word t) (e.pair.second == flow_word t) has in
      let q = and_parts (address_word u == e.pair.first) (flow_word u == e.pair.second) same in
      words u t valid_u valid_t (λ i. (eqb-true _ _ q.0 ∙ eqb-true _ _ p.0) i ∷ (eqb-true _ _ q.1 ∙ eqb-true _ _ p.1) i ∷ [])

  -- the live record that has the tuple in a direction, and its link
  pub record Owns (tuple_of : Record → Tuple) (x : ℕ) : Type 0 where
    pub subject : Record
    pub there : IsIn subject rs
    pub tuple : tuple_of subject ≡ t
    pub placed : subject.place ≡ place_of x
    pub passed : List ChainLink
    pub entry : ChainLink
    pub rest : List ChainLink
    pub all : chain ≡ rev_onto passed (entry ∷ rest)
    pub at : place_of entry.link ≡ place_of x
    pub named : entry.id ≡ Some subject.id

  -- an entry of a record is this link, so the record is that of the link
  owns : (tuple_of : Record → Tuple) (d x : ℕ) (l : IsLinkOf (address_word t) (flow_word t) d chain x) (r : Record) → IsIn r rs → (e : ChainLink)
      → is_link l.entry e ≡ true → e.pair ≡ pair_of (tuple_of r) → e.id ≡ Some r.id → place_of e.link ≡ r.place → is_valid (tuple_of r) ≡ true → Owns tuple_of x
  owns tuple_of d x l r there e here pair id place valid_u =
      let parts = and_parts (e.link == l.entry.link && has_words l.entry.pair.first l.entry.pair.second e) (same_id e.id l.entry.id) here in
      let inner = and_parts (e.link == l.entry.link) (has_words l.entry.pair.first l.entry.pair.second e) parts.0 in
      let link : e.link ≡ l.entry.link = eqb-true e.link l.entry.link inner.0 in
      record {
        subject = r;
        there = there;
        tuple = by_words (tuple_of r) l.entry valid_u l.words
            (ap (λ (p : Pair). p.first == l.entry.pair.first && p.second == l.entry.pair.second) (sym pair) ∙ inner.1);
        placed = sym place ∙ ap place_of (link ∙ l.link);
        passed = l.passed;
        entry = l.entry;
        rest = l.rest;
        all = l.all;
        at = ap place_of l.link;
        named = id_named r.id l.entry.id (ap (λ (o : Option ℕ). same_id o l.entry.id) (sym id) ∙ parts.1);
      }

  -- an entry on the other side is not this link
  other_side : (d : ℕ) (e y : ChainLink) → is_link e y ≡ true → side_of e.link ≡ d → side_of y.link ≢ d → ⊥
  other_side d e y here side other =
      let parts = and_parts (y.link == e.link && has_words e.pair.first e.pair.second y) (same_id y.id e.id) here in
      other (ap side_of (eqb-true y.link e.link (and_parts (y.link == e.link) (has_words e.pair.first e.pair.second y) parts.0).0) ∙ side)

  pub original_owner : (x : ℕ) → link_with 0 (address_word t) (flow_word t) chain ≡ Some x → Owns (λ r. r.original) x
  original_owner x e =
      let l = link_there (address_word t) (flow_word t) 0 x chain e in
      let o = owner l.passed l.entry l.rest l.all in
      ⊎_elim
      (λ (k : is_link l.entry (original_of o.0) ≡ true).
      owns (λ r. r.original) 0 x l o.0 o.1 (original_of o.0) k refl refl (omega arith) (valid_tuples o.0 (valid o.0 o.1)).0)
      (λ (k : is_link l.entry (reply_of o.0) ≡ true). absurd (other_side 0 l.entry (reply_of o.0) k l.sided (λ i. omega (arith, i))))
      o.2

  pub reply_owner : (x : ℕ) → link_with 1 (address_word t) (flow_word t) chain ≡ Some x → Owns (λ r. r.reply) x
  reply_owner x e =
      let l = link_there (address_word t) (flow_word t) 1 x chain e in
      let o = owner l.passed l.entry l.rest l.all in
      ⊎_elim
      (λ (k : is_link l.entry (original_of o.0) ≡ true). absurd (other_side 1 l.entry (original_of o.0) k l.sided (λ i. omega (arith, i))))
      (λ (k : is_link l.entry (reply_of o.0) ≡ true).
      owns (λ r. r.reply) 1 x l o.0 o.1 (reply_of o.0) k refl refl (omega arith) (valid_tuples o.0 (valid o.0 o.1)).1)
      o.2

  -- and where no link has it, none has
  pub original_free : link_with 0 (address_word t) (flow_word t) chain ≡ None → (r : Record) → IsIn r rs → r.original ≡ t → ⊥
  original_free e r i same =
      let w : ChainLink → ℕ = λ y. bit (has_words (address_word t) (flow_word t) y && side_of y.link == 0) in
      omega (
        arith,
        none_there (address_word t) (flow_word t) 0 chain e,
        sums (λ y. bit (has_words (address_word t) (flow_word t) y && side_of y.link == 0)),
        weighs_in (links_in z (bucket_in z t) (λ y. bit (has_words (address_word t) (flow_word t) y && side_of y.link == 0))) r rs i,
        ap (λ (k : Bool). if k then bit (has_words (address_word t) (flow_word t) (original_of r) && side_of (1 + 2 * r.place) == 0) else 0)
            (eq-eqb (bucket_in z r.original) (bucket_in z t) (ap (bucket_in z) same)),
        ap bit (and_from (has_words (address_word t) (flow_word t) (original_of r)) (side_of (1 + 2 * r.place) == 0)
            (and_from (address_word r.original == address_word t) (flow_word r.original == flow_word t) (eq-eqb _ _ (ap address_word same)) (eq-eqb _ _ (ap flow_word same)))
            (eq-eqb (side_of (1 + 2 * r.place)) 0 (omega arith))),
      )

  pub reply_free : link_with 1 (address_word t) (flow_word t) chain ≡ None → (r : Record) → IsIn r rs → r.reply ≡ t → ⊥
  reply_free e r i same =
      omega (
        arith,
        none_there (address_word t) (flow_word t) 1 chain e,
        sums (λ y. bit (has_words (address_word t) (flow_word t) y && side_of y.link == 1)),
        weighs_in (links_in z (bucket_in z t) (λ y. bit (has_words (address_word t) (flow_word t) y && side_of y.link == 1))) r rs i,
        ap (λ (k : Bool). if k then bit (has_words (address_word t) (flow_word t) (reply_of r) && side_of (2 + 2 * r.place) == 1) else 0)
            (eq-eqb (bucket_in z r.reply) (bucket_in z t) (ap (bucket_in z) same)),
        ap bit (and_from (has_words (address_word t) (flow_word t) (reply_of r)) (side_of (2 + 2 * r.place) == 1)
            (and_from (address_word r.reply == address_word t) (flow_word r.reply == flow_word t) (eq-eqb _ _ (ap address_word same)) (eq-eqb _ _ (ap flow_word same)))
            (eq-eqb (side_of (2 + 2 * r.place)) 1 (omega arith))),
      )
