-- A flow whose tuples are in no chain may become an entry, and becomes one.
use Rattle.std.proofs.Common.{◌≡◌, ◌≢◌, ℕ, ◌+◌, ◌<◌, ◌≤◌, Bool, true, false, Option, Some, None, List, [], ◌∷◌, ◌++◌, length, map, refl, sym, ap, subst, ◌∙◌, arith, ⊎_elim}
use Rattle.std.specs.Prelude.{◌==◌, ◌&&◌, ◌||◌, if◌then◌else◌, min, max}
use Rattle.std.proofs.lemmas.Bool.{and_parts, cases_Bool, cases_eq, eq-eqb, eqb-true}
use Rattle.history_book.specs.Entry.{is_lawful_flow, record_for}
use Rattle.history_book.specs.History.{is_legal}
use Rattle.history_book.specs.Legality.{is_of_one_zone, same_proto}
use Rattle.history_book.specs.declared.event.Event.TheVariants.{Confirm}
use Rattle.history_book.specs.declared.record.Flow.{Flow}
use Rattle.history_book.specs.declared.record.Record.{Record}
use Rattle.history_book.specs.declared.sizes.Sizes.{Sizes}
use Rattle.proto_rules.specs.Protocol.{proto_of}
use Rattle.tuple_core.specs.Tuple.{is_valid}
use Rattle.tuple_core.specs.Words.{address_word, flow_word}
use Rattle.tuple_core.specs.declared.Tuple.{Tuple}
use Rattle.track_rule.specs.History.{IsNumber}
use Rattle.track_rule.specs.BucketSteps.{put_in, raise}
use Rattle.track_rule.specs.Chains.{bucket_of, chain_in, chain_link, pair_of, shuts_of, side}
use Rattle.track_rule.specs.CommitSteps.{CanConfirm, HasLink, MakesConfirm, confirmed, has_pair, held_for, shown_live, told_in}
use Rattle.track_rule.specs.Free.{taken_out, unlisted}
use Rattle.track_rule.specs.Layout.{side_of}
use Rattle.track_rule.specs.Links.{hook_of, hooks_of, is_down, is_raised}
use Rattle.track_rule.specs.Records.{has_hand}
use Rattle.track_rule.specs.References.{is_at, is_for_new, is_held, is_taken}
use Rattle.track_rule.specs.Sights.{PassSight, sizes_of}
use Rattle.track_rule.specs.Steps.{AreAll}
use Rattle.track_rule.specs.Sums.{bit, times, total}
use Rattle.track_rule.specs.declared.view.ChainLink.{ChainLink}
use Rattle.track_rule.specs.declared.view.HeldBuckets.{HeldBuckets}
use Rattle.track_rule.specs.declared.view.Hook.{Hook}
use Rattle.track_rule.specs.declared.view.Keep.{Keep}
use Rattle.track_rule.specs.declared.view.Middle.TheVariants.{Calm, Born}
use Rattle.track_rule.specs.declared.view.Pair.{Pair}
use Rattle.track_rule.specs.declared.view.Purpose.TheVariants.{For}
use Rattle.track_rule.specs.declared.view.Shut.{Shut}
use Rattle.track_rule.specs.declared.view.View.{View}
use Rattle.bucket_table.specs.Following.{bucket_in, has_words}
use Rattle.bucket_table.specs.LockedChain.{ChangesBuckets, IsReady, found_in, has_bucket, hook_bucket, link_with, linked_buckets, original_first, original_link, reply_link}
use Rattle.bucket_table.specs.Locks.{AreShut, Buckets, buckets_of}
use Rattle.shared_desk.specs.Commit.{AddsReference, CanCommit, Commits, shut_buckets}
use Rattle.shared_desk.specs.Tuples.{pair_at}
use Rattle.shared_desk.proofs.Linking.{both_gone, down_from, now_up, put_balance, raised_count, raised_pair, same_buckets, same_shuts, still_down, still_up}

-- TWO BUCKETS

pub has_first : (a b : ℕ) → has_bucket (buckets_of a b) a ≡ true
has_first a b =
    ⊎_elim (λ (e : min a b ≡ a). ap (λ (k : Bool). k || a == max a b) (eq-eqb a (min a b) (sym e)))
    (λ (e : min a b ≢ a). either (a == min a b) (a == max a b) (eq-eqb a (max a b) (omega (arith, e))))
    (cases_eq (min a b) a)
  where
    either : (x y : Bool) → y ≡ true → (x || y) ≡ true
    either true y e = refl
    either false y e = e

pub has_second : (a b : ℕ) → has_bucket (buckets_of a b) b ≡ true
has_second a b =
    ⊎_elim (λ (e : min a b ≡ b). ap (λ (k : Bool). k || b == max a b) (eq-eqb b (min a b) (sym e)))
    (λ (e : min a b ≢ b). either (b == min a b) (b == max a b) (eq-eqb b (max a b) (omega (arith, e))))
    (cases_eq (min a b) b)
  where
    either : (x y : Bool) → y ≡ true → (x || y) ≡ true
    either true y e = refl
    either false y e = e

-- either bucket of a flow is shut
pub either_shut : (locked : Buckets) (b : ℕ) (v : View) → AreShut locked v → has_bucket locked b ≡ true → 0 < shuts_of b v
either_shut locked b v shut e =
    ⊎_elim
    (λ (t : (b == locked.lower) ≡ true). subst (λ (k : ℕ). 0 < shuts_of k v) (sym (eqb-true b locked.lower t)) shut.lower)
    (λ (t : (b == locked.lower) ≡ false).
    subst (λ (k : ℕ). 0 < shuts_of k v) (sym (eqb-true b locked.upper (sym (ap (λ (k : Bool). k || b == locked.upper) t) ∙ e))) shut.upper)
    (cases_Bool (b == locked.lower))

-- THE FLOW

pub valid_original : (flow : Flow) → is_lawful_flow flow ≡ true → is_valid flow.original ≡ true
valid_original flow e =
    (and_parts (is_valid flow.original) (is_valid flow.reply)
    (and_parts (is_valid flow.original && is_valid flow.reply) (is_of_one_zone (record_for flow 0 0))
    (and_parts (is_valid flow.original && is_valid flow.reply && is_of_one_zone (record_for flow 0 0)) (same_proto flow.original.proto (proto_of flow.part.kind))
    (and_parts ((is_valid flow.original && is_valid flow.reply && is_of_one_zone (record_for flow 0 0)) && same_proto flow.original.proto (proto_of flow.part.kind))
    (same_proto flow.reply.proto (proto_of flow.part.kind)) e).0).0).0).0

pub valid_reply : (flow : Flow) → is_lawful_flow flow ≡ true → is_valid flow.reply ≡ true
valid_reply flow e =
    (and_parts (is_valid flow.original) (is_valid flow.reply)
    (and_parts (is_valid flow.original && is_valid flow.reply) (is_of_one_zone (record_for flow 0 0))
    (and_parts (is_valid flow.original && is_valid flow.reply && is_of_one_zone (record_for flow 0 0)) (same_proto flow.original.proto (proto_of flow.part.kind))
    (and_parts ((is_valid flow.original && is_valid flow.reply && is_of_one_zone (record_for flow 0 0)) && same_proto flow.original.proto (proto_of flow.part.kind))
    (same_proto flow.reply.proto (proto_of flow.part.kind)) e).0).0).0).1

-- a link with a valid tuple of a locked bucket may come into its chain
pub is_ready : (z : Sizes) (locked : Buckets) (x : ℕ) (t : Tuple) (hooks : List Hook) → is_valid t ≡ true → pair_at x hooks ≡ pair_of t
    → has_bucket locked (bucket_in z t) ≡ true → IsReady z locked x hooks
is_ready z locked x t hooks valid pair here = record {
  tuple = record { tuple = t; valid = valid; words = λ i. (sym pair i).first ∷ (sym pair i).second ∷ [] };
  its_bucket = ap (λ (p : Pair). has_bucket locked (bucket_of z p)) pair ∙ here;
}

-- A TUPLE THAT IS IN NO CHAIN

absent_parts : (o r : Option ℕ) → original_first o r ≡ None → (o ≡ None) × (r ≡ None)
absent_parts (Some x) r e = cc
absent_parts None (Some y) e = cc
absent_parts None None e = (refl, refl)

absent_sides : (a b : ℕ) (chain : List ChainLink) → link_with 0 a b chain ≡ None → link_with 1 a b chain ≡ None
    → total (has_pair (record { first = a; second = b })) chain ≡ 0
absent_sides a b [] e f = refl
absent_sides a b (x ∷ xs) e f =
    ⊎_elim
    (λ (t : has_words a b x ≡ true). absurd (one_side t))
    (λ (t : has_words a b x ≡ false).
    omega (
      arith,
      ap bit t,
      absent_sides a b xs (sym (ap (λ (k : Bool). if k && side_of x.link == 0 then Some x.link else link_with 0 a b xs) t) ∙ e)
          (sym (ap (λ (k : Bool). if k && side_of x.link == 1 then Some x.link else link_with 1 a b xs) t) ∙ f),
    ))
    (cases_Bool (has_words a b x))
  where
    some_none : (n : ℕ) → Some n ≡ None → ⊥
    some_none n g = cc

    one_side : has_words a b x ≡ true → ⊥
    one_side t =
        ⊎_elim
        (λ (k : side_of x.link ≡ 0).
        some_none x.link
        (sym (ap (λ (j : Bool). if j && side_of x.link == 0 then Some x.link else link_with 0 a b xs) t
        ∙ ap (λ (j : Bool). if j then Some x.link else link_with 0 a b xs) (eq-eqb (side_of x.link) 0 k))
        ∙ e))
        (λ (k : side_of x.link ≢ 0).
        some_none x.link
        (sym (ap (λ (j : Bool). if j && side_of x.link == 1 then Some x.link else link_with 1 a b xs) t
        ∙ ap (λ (j : Bool). if j then Some x.link else link_with 1 a b xs) (eq-eqb (side_of x.link) 1 (omega (arith, k))))
        ∙ f))
        (cases_eq (side_of x.link) 0)

pub absent_weighs : (t : Tuple) (chain : List ChainLink) → found_in (address_word t) (flow_word t) chain ≡ None → total (has_pair (pair_of t)) chain ≡ 0
absent_weighs t chain e =
    let parts = absent_parts (link_with 0 (address_word t) (flow_word t) chain) (link_with 1 (address_word t) (flow_word t) chain) e in
    absent_sides (address_word t) (flow_word t) chain parts.0 parts.1

-- BOTH LINKS COME UP

abbrev shuts_at : ℕ → List Shut → ℕ
shuts_at b shut = total (λ (k : Shut). bit (k.bucket == b)) shut

abbrev standing_weight : Sizes → ℕ → (ChainLink → ℕ) → List Hook → ℕ
standing_weight z c w hooks = total (λ (h : Hook). (if h.up then side z c w (chain_link h) else 0)) hooks

-- both links of a place, which are in no chain, each with a tuple of a bucket that is shut
record TwoLinks (z : Sizes) (place : ℕ) (flow : Flow) (s : HeldBuckets) : Type 0 where
  original : hooks_of (original_link place) s.hooks ≡ 1
  reply : hooks_of (reply_link place) s.hooks ≡ 1
  original_down : is_down (original_link place) s.hooks ≡ true
  reply_down : is_down (reply_link place) s.hooks ≡ true
  original_pair : pair_at (original_link place) s.hooks ≡ pair_of flow.original
  reply_pair : pair_at (reply_link place) s.hooks ≡ pair_of flow.reply
  original_shut : 0 < shuts_at (bucket_in z flow.original) s.shut
  reply_shut : 0 < shuts_at (bucket_in z flow.reply) s.shut

apart : (place : ℕ) → original_link place ≢ reply_link place
apart place = λ e. omega (arith, e)

apart' : (place : ℕ) → reply_link place ≢ original_link place
apart' place = λ e. omega (arith, e)

linked_balance : (z : Sizes) (place : ℕ) (flow : Flow) (s : HeldBuckets) → TwoLinks z place flow s → (c : ℕ) (w : ChainLink → ℕ)
    → total w (chain_in c (linked_buckets z place s).shut) + standing_weight z c w s.hooks
    ≡ total w (chain_in c s.shut) + standing_weight z c w (linked_buckets z place s).hooks
linked_balance z place flow s two c w =
    let first = put_balance z (hook_bucket z (reply_link place) s.hooks) (reply_link place) c w s refl two.reply two.reply_down
    (subst (λ (p : Pair). 0 < shuts_at (bucket_of z p) s.shut) (sym two.reply_pair) two.reply_shut) in
    let second = put_balance z (hook_bucket z (original_link place) s.hooks) (original_link place) c w (put_in (hook_bucket z (reply_link place) s.hooks) (reply_link place) s)
    (ap (bucket_of z) (sym (raised_pair (reply_link place) (original_link place) s.hooks)))
    (raised_count (reply_link place) (original_link place) s.hooks ∙ two.original)
    (still_down (reply_link place) (original_link place) s.hooks (apart place) ∙ two.original_down)
    (subst (λ (n : ℕ). 0 < n) (sym (same_shuts (hook_bucket z (original_link place) s.hooks) (put_in (hook_bucket z (reply_link place) s.hooks) (reply_link place) s).shut s.shut
    (same_buckets (hook_bucket z (reply_link place) s.hooks) (chain_link (hook_of (reply_link place) s.hooks) ∷ chain_in (hook_bucket z (reply_link place) s.hooks) s.shut) s.shut)))
    (subst (λ (p : Pair). 0 < shuts_at (bucket_of z p) s.shut) (sym two.original_pair) two.original_shut)) in
    omega (arith, first, second)

linked_shut : (z : Sizes) (place : ℕ) (s : HeldBuckets) → shut_buckets (linked_buckets z place s).shut ≡ shut_buckets s.shut
linked_shut z place s =
    same_buckets (hook_bucket z (original_link place) s.hooks)
    (chain_link (hook_of (original_link place) (map (raise (reply_link place)) s.hooks))
    ∷ chain_in (hook_bucket z (original_link place) s.hooks) (put_in (hook_bucket z (reply_link place) s.hooks) (reply_link place) s).shut)
    (put_in (hook_bucket z (reply_link place) s.hooks) (reply_link place) s).shut
    ∙ same_buckets (hook_bucket z (reply_link place) s.hooks) (chain_link (hook_of (reply_link place) s.hooks) ∷ chain_in (hook_bucket z (reply_link place) s.hooks) s.shut) s.shut

linked_pair : (z : Sizes) (place x : ℕ) (s : HeldBuckets) → pair_at x (linked_buckets z place s).hooks ≡ pair_at x s.hooks
linked_pair z place x s = raised_pair (original_link place) x (map (raise (reply_link place)) s.hooks) ∙ raised_pair (reply_link place) x s.hooks

-- a link with this tuple stands, and no other link in the chain of its bucket has it but such ones
record StandsIn (z : Sizes) (x : ℕ) (t : Tuple) (s : HeldBuckets) : Type 0 where
  up : is_raised x s.hooks ≡ true
  pair : pair_at x s.hooks ≡ pair_of t
  shut : 0 < shuts_at (bucket_in z t) s.shut
  clear : total (has_pair (pair_of t)) (chain_in (bucket_in z t) s.shut) ≤ standing_weight z (bucket_in z t) (has_pair (pair_of t)) s.hooks

original_stands : (z : Sizes) (place : ℕ) (flow : Flow) (s : HeldBuckets) → TwoLinks z place flow s
    → total (has_pair (pair_of flow.original)) (chain_in (bucket_in z flow.original) s.shut) ≡ 0
    → StandsIn z (original_link place) flow.original (linked_buckets z place s)
original_stands z place flow s two absent = record {
  up = now_up (original_link place) (map (raise (reply_link place)) s.hooks) (omega (arith, two.original, raised_count (reply_link place) (original_link place) s.hooks));
  pair = linked_pair z place (original_link place) s ∙ two.original_pair;
  shut = subst (λ (n : ℕ). 0 < n) (sym (same_shuts (bucket_in z flow.original) (linked_buckets z place s).shut s.shut (linked_shut z place s))) two.original_shut;
  clear = omega (arith, absent, linked_balance z place flow s two (bucket_in z flow.original) (has_pair (pair_of flow.original)));
}

reply_stands : (z : Sizes) (place : ℕ) (flow : Flow) (s : HeldBuckets) → TwoLinks z place flow s
    → total (has_pair (pair_of flow.reply)) (chain_in (bucket_in z flow.reply) s.shut) ≡ 0
    → StandsIn z (reply_link place) flow.reply (linked_buckets z place s)
reply_stands z place flow s two absent = record {
  up = still_up (original_link place) (reply_link place) (map (raise (reply_link place)) s.hooks) (now_up (reply_link place) s.hooks (omega (arith, two.reply)));
  pair = linked_pair z place (reply_link place) s ∙ two.reply_pair;
  shut = subst (λ (n : ℕ). 0 < n) (sym (same_shuts (bucket_in z flow.reply) (linked_buckets z place s).shut s.shut (linked_shut z place s))) two.reply_shut;
  clear = omega (arith, absent, linked_balance z place flow s two (bucket_in z flow.reply) (has_pair (pair_of flow.reply)));
}

has_link : (z : Sizes) (x : ℕ) (t : Tuple) (v : View) → z ≡ v.passes.sizes → StandsIn z x t v.buckets → HasLink x t v
has_link z x t v same stands =
    let s = subst (λ (y : Sizes). StandsIn y x t v.buckets) same stands in
    record { up = s.up; pair = s.pair; shut = s.shut; clear = s.clear }

two_links : (place : ℕ) (flow : Flow) (locked : Buckets) (v : PassSight) → CanCommit place flow locked v → TwoLinks (sizes_of v) place flow v.view.buckets
two_links place flow locked v can = record {
  original = can.original;
  reply = can.reply;
  original_down = down_from (original_link place) v.view.buckets.hooks (omega (arith, can.original)) can.down;
  reply_down = down_from (reply_link place) v.view.buckets.hooks (omega (arith, can.reply)) can.down;
  original_pair = can.original_pair;
  reply_pair = can.reply_pair;
  original_shut = either_shut locked (bucket_in (sizes_of v) flow.original) v.view can.shut
      (ap (λ (l : Buckets). has_bucket l (bucket_in (sizes_of v) flow.original)) can.locked_are ∙ has_first (bucket_in (sizes_of v) flow.original) (bucket_in (sizes_of v) flow.reply));
  reply_shut = either_shut locked (bucket_in (sizes_of v) flow.reply) v.view can.shut
      (ap (λ (l : Buckets). has_bucket l (bucket_in (sizes_of v) flow.reply)) can.locked_are ∙ has_second (bucket_in (sizes_of v) flow.original) (bucket_in (sizes_of v) flow.reply));
}

-- what the pass is once both links stand, and it carries the table's reference
entering : (place : ℕ) (v u w : PassSight) → ChangesBuckets (linked_buckets (sizes_of v) place v.view.buckets) v u → AddsReference place u w
    → w ≡ record v {
      view = record v.view {
        places = record v.view.places { carried = place ∷ v.view.places.carried };
        buckets = linked_buckets (sizes_of v) place v.view.buckets;
        walk = u.view.walk;
        readings = w.view.readings;
      };
    }
entering place v u w changes adds =
    adds.same ∙ ap (λ (k : PassSight). record k { view = record k.view { places = record k.view.places { carried = place ∷ k.view.places.carried }; readings = w.view.readings } }) changes.same

pub can_confirm : (place : ℕ) (flow : Flow) (locked : Buckets) (r : Record) (v u w : PassSight) → r ≡ record_for flow 0 place → CanCommit place flow locked v
    → ChangesBuckets (linked_buckets (sizes_of v) place v.view.buckets) v u → AddsReference place u w → CanConfirm r w.view
can_confirm place flow locked r v u w is can changes adds =
    let whole = entering place v u w changes adds in
    let two = two_links place flow locked v can in
    let sizes : sizes_of v ≡ w.view.passes.sizes = sym (ap sizes_of whole) in
    let buckets : linked_buckets (sizes_of v) place v.view.buckets ≡ w.view.buckets = sym (ap (λ (k : PassSight). k.view.buckets) whole) in
    let right : CanConfirm (record_for flow 0 place) w.view = record {
      taken = ap (λ (k : PassSight). is_taken place k.view.places.held) whole ∙ can.taken;
      turn = ap (λ (k : PassSight). has_hand place k.view) whole ∙ can.turn;
      calm = ap (λ (k : PassSight). k.view.commit.middle) whole ∙ can.calm;
      reference = omega (arith, ap (λ (k : PassSight). times place k.view.places.carried) whole, ap bit (eq-eqb place place refl));
      few = omega (arith, can.few, ap (λ (k : PassSight). length k.view.seen.own) whole);
      protocol = can.protocol;
      original = has_link (sizes_of v) (original_link place) flow.original w.view sizes
          (subst (StandsIn (sizes_of v) (original_link place) flow.original) buckets
          (original_stands (sizes_of v) place flow v.view.buckets two
          (absent_weighs flow.original (chain_in (bucket_in (sizes_of v) flow.original) v.view.buckets.shut) can.original_absent)));
      reply = has_link (sizes_of v) (reply_link place) flow.reply w.view sizes
          (subst (StandsIn (sizes_of v) (reply_link place) flow.reply) buckets
          (reply_stands (sizes_of v) place flow v.view.buckets two
          (absent_weighs flow.reply (chain_in (bucket_in (sizes_of v) flow.reply) v.view.buckets.shut) can.reply_absent)));
    } in
    subst (λ (q : Record). CanConfirm q w.view) (sym is) right

-- THE ENTRY

-- a place that was taken is held, and still is where it is held for an entry
pub held_still : (place id : ℕ) (held : List Keep) → is_taken place held ≡ true → is_held place (held_for place id held) ≡ true
held_still place id [] e = e
held_still place id (k ∷ ks) e =
    ⊎_elim
    (λ (t : (is_at place k && is_for_new k.purpose) ≡ true).
    ap (λ (b : Bool). is_held place (if b then record k { purpose = For id } ∷ ks else k ∷ held_for place id ks)) t
    ∙ ap (λ (b : Bool). b || is_held place ks) (and_parts (is_at place k) (is_for_new k.purpose) t).0)
    (λ (t : (is_at place k && is_for_new k.purpose) ≡ false).
    ap (λ (b : Bool). is_held place (if b then record k { purpose = For id } ∷ ks else k ∷ held_for place id ks)) t
    ∙ either (is_at place k) (is_held place (held_for place id ks)) (held_still place id ks (sym (ap (λ (b : Bool). b || is_taken place ks) t) ∙ e)))
    (cases_Bool (is_at place k && is_for_new k.purpose))
  where
    either : (x y : Bool) → y ≡ true → (x || y) ≡ true
    either true y e = refl
    either false y e = e

-- naming links leaves which buckets are shut
pub told_shut : (place : ℕ) (id : Option ℕ) (shut : List Shut) → shut_buckets (told_in place id shut) ≡ shut_buckets shut
told_shut place id [] = refl
told_shut place id (s ∷ rest) = ap (λ bs. s.bucket ∷ bs) (told_shut place id rest)

pub taken_front : (place : ℕ) (places : List ℕ) → taken_out place (place ∷ places) ≡ places
taken_front place places = ap (λ (b : Bool). if b then places else place ∷ taken_out place places) (eq-eqb place place refl)

-- the Confirm and LIVE, after the links and the table's reference
pub committed : (place : ℕ) (flow : Flow) (locked : Buckets) (n : ℕ) (r : Record) (v u w x y : PassSight) → r ≡ record_for flow 0 place → CanCommit place flow locked v
    → ChangesBuckets (linked_buckets (sizes_of v) place v.view.buckets) v u → AddsReference place u w
    → MakesConfirm r w.view (IsNumber n) x.view → x ≡ record w { view = x.view }
    → ((q : Record) → x.view.commit.middle ≡ Born q → y ≡ record x { view = shown_live place n q x.view })
    → Commits place flow n v y
committed place flow locked n r v u w x y is can changes adds confirms kept shows =
    let whole = entering place v u w changes adds in
    let has : MakesConfirm (record_for flow 0 place) w.view (IsNumber n) x.view = subst (λ (q : Record). MakesConfirm q w.view (IsNumber n) x.view) is confirms in
    let live : y ≡ record x { view = shown_live place n (record_for flow (length has.log) place) x.view } =
    shows (record_for flow (length has.log) place) (ap (λ (k : View). k.commit.middle) has.view) in
    let born_view : x.view ≡ confirmed has.log (record_for flow 0 place) (record v.view {
      places = record v.view.places { carried = place ∷ v.view.places.carried };
      buckets = linked_buckets (sizes_of v) place v.view.buckets;
      walk = u.view.walk;
      readings = w.view.readings;
    }) = has.view ∙ ap (λ (k : PassSight). confirmed has.log (record_for flow 0 place) k.view) whole in
    let view : y.view ≡ shown_live place n (record_for flow (length has.log) place) (confirmed has.log (record_for flow 0 place) (record v.view {
      places = record v.view.places { carried = place ∷ v.view.places.carried };
      buckets = linked_buckets (sizes_of v) place v.view.buckets;
      walk = u.view.walk;
      readings = w.view.readings;
    })) = ap (λ (k : PassSight). k.view) live ∙ ap (shown_live place n (record_for flow (length has.log) place)) born_view in
    let all : AreAll (record v.view {
      places = record v.view.places { carried = place ∷ v.view.places.carried };
      buckets = linked_buckets (sizes_of v) place v.view.buckets;
      walk = u.view.walk;
      readings = w.view.readings;
    }) has.log = subst (λ (k : PassSight). AreAll k.view has.log) whole has.all in
    let num : length has.log ≡ n = sym has.told in
    record {
      log = has.log;
      all = record { front = all.front; told = all.told; legal = all.legal; few = all.few; passes = all.passes; shares = all.shares; alone = all.alone };
      number = has.told;
      legal = subst (λ (k : ℕ). is_legal (sizes_of v) (has.log ++ Confirm (record_for flow k place) ∷ []) ≡ true) num
          (subst (λ (k : PassSight). is_legal (sizes_of k) (has.log ++ Confirm (record_for flow (length has.log) place) ∷ []) ≡ true) whole has.legal);
      same = ap (λ (k : PassSight). record k { view = y.view }) live ∙ ap (λ (k : PassSight). record k { view = y.view }) kept ∙ ap (λ (k : PassSight). record k { view = y.view }) whole
          ∙ ap (λ (k : View). record v { view = k }) (view ∙ (λ i. record v.view {
            seen = record v.view.seen {
              front = has.log ++ Confirm (record_for flow (num i) place) ∷ [];
              own = v.view.seen.own ++ record { number = num i; event = Confirm (record_for flow (num i) place) } ∷ [];
            };
            places = record v.view.places {
              held = held_for place (num i) v.view.places.held;
              owned = unlisted (place ∷ []) v.view.places.owned;
              carried = taken_front place v.view.places.carried i;
            };
            buckets = sym (ap (λ (k : View). k.buckets) view) i;
            commit = record { hand = Some (record { place = place; phase = 3 + n; subject = Some (record_for flow (num i) place) }); middle = Calm };
            walk = None;
            readings = sym (ap (λ (k : View). k.readings) view) i;
          }));
      hooks = ap (λ (k : View). k.buckets.hooks) view
          ∙ both_gone (original_link place) (reply_link place) v.view.buckets.hooks (apart' place) can.original can.reply;
      buckets = ap (λ (k : View). shut_buckets k.buckets.shut) view ∙ told_shut place (Some (length has.log)) (linked_buckets (sizes_of v) place v.view.buckets).shut
          ∙ linked_shut (sizes_of v) place v.view.buckets;
    }

-- the place is held after the Confirm
pub held_after : (place : ℕ) (flow : Flow) (locked : Buckets) (n : ℕ) (r : Record) (v u w x : PassSight) → r ≡ record_for flow 0 place → CanCommit place flow locked v
    → ChangesBuckets (linked_buckets (sizes_of v) place v.view.buckets) v u → AddsReference place u w → MakesConfirm r w.view (IsNumber n) x.view
    → is_held place x.view.places.held ≡ true
held_after place flow locked n r v u w x is can changes adds confirms =
    let has : MakesConfirm (record_for flow 0 place) w.view (IsNumber n) x.view = subst (λ (q : Record). MakesConfirm q w.view (IsNumber n) x.view) is confirms in
    ap (λ (k : View). is_held place k.places.held) has.view
    ∙ held_still place (length has.log) w.view.places.held (ap (λ (k : PassSight). is_taken place k.view.places.held) (entering place v u w changes adds) ∙ can.taken)
