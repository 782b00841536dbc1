-- An entry is destroyed while both buckets of its tuples are locked.
use Rattle.std.proofs.Common.{◌≡◌, ℕ, ◌<◌, Bool, true, false, Some, None, List, [], ◌∷◌, ◌++◌, length, map, refl, sym, ap, subst, ◌∙◌, arith}
use Rattle.std.specs.Prelude.{◌==◌, if◌then◌else◌}
use Rattle.std.proofs.lemmas.Bool.{eq-eqb, ne_eqb}
use Rattle.std.proofs.lemmas.List.Elements.{recursion_from_All}
use Rattle.history_book.specs.History.{is_legal}
use Rattle.history_book.specs.Laws.{RecordsAreOfOneFlow}
use Rattle.history_book.specs.Legality.{is_of_one_flow, is_reason}
use Rattle.history_book.specs.Record.{has_id}
use Rattle.history_book.specs.State.{record_of}
use Rattle.history_book.specs.declared.event.Event.{Event}
use Rattle.history_book.specs.declared.event.Event.TheVariants.{Destroy}
use Rattle.history_book.specs.declared.event.Why.{Why}
use Rattle.history_book.specs.declared.record.Record.{Record}
use Rattle.history_book.specs.declared.sizes.Sizes.{Sizes}
use Rattle.track_rule.specs.BucketSteps.{lower, taken_from, without_link}
use Rattle.track_rule.specs.Chains.{chain_in, pair_of}
use Rattle.track_rule.specs.History.{IsNumber, records_after, state_after}
use Rattle.track_rule.specs.Commits.{HasItsTurn}
use Rattle.track_rule.specs.KillSteps.{CanDestroy, HasDestroyed, MakesDestroy, MayDestroy, MayDie, OfDying, ShowsDead, destroy_in, destroyed, loose_hook, shown_dead, without_its}
use Rattle.track_rule.specs.Links.{hook_of, is_up}
use Rattle.track_rule.specs.Sights.{PassSight, sizes_of}
use Rattle.track_rule.specs.Steps.{AreAll, hooks_else}
use Rattle.track_rule.specs.TouchSteps.{known_record}
use Rattle.track_rule.specs.declared.view.HeldBuckets.{HeldBuckets}
use Rattle.track_rule.specs.declared.view.Hook.{Hook}
use Rattle.track_rule.specs.declared.view.Middle.TheVariants.{Dying}
use Rattle.track_rule.specs.declared.view.View.{View}
use Rattle.bucket_table.specs.Following.{bucket_in}
use Rattle.bucket_table.specs.LockedChain.{ChangesBuckets, IsReady, has_bucket, hook_bucket, original_link, reply_link, unlinked_buckets}
use Rattle.bucket_table.specs.Locks.{AreShut, Buckets}
use Rattle.shared_desk.specs.Commit.{is_any_up, shut_buckets}
use Rattle.shared_desk.specs.Confirm.{IsLocked}
use Rattle.shared_desk.specs.Killing.{DestroysLocked, HasEnded, KnowsRecord, dead_commit, destroy_of, flow_of}
use Rattle.shared_desk.specs.Tuples.{pair_at}
use Rattle.shared_desk.proofs.Entering.{either_shut, has_first, has_second, is_ready, told_shut, valid_original, valid_reply}
use Rattle.shared_desk.proofs.Linking.{none_up, same_buckets, same_shuts}
use Rattle.shared_desk.proofs.Lowering.{both_down, else_all, else_gone, lowered_else}
use Rattle.shared_desk.proofs.Members.{find_in, holds_in}

-- a live record is of one flow
of_protocol : RecordsAreOfOneFlow → (z : Sizes) (log : List Event) (id : ℕ) (r : Record) → is_legal z log ≡ true → record_of id (state_after log) ≡ Some r
    → is_of_one_flow r ≡ true
of_protocol law z log id r legal live =
    holds_in (λ r. is_of_one_flow r ≡ true) r (records_after log)
    (recursion_from_All (λ r. is_of_one_flow r ≡ true) (records_after log) (law z log (length log) legal)) (find_in (has_id id) r (records_after log) live)

-- the buckets that are shut are the same ones
unlinked_shut : (z : Sizes) (place : ℕ) (s : HeldBuckets) → shut_buckets (unlinked_buckets z place s).shut ≡ shut_buckets s.shut
unlinked_shut z place s =
    same_buckets (hook_bucket z (reply_link place) s.hooks)
    (without_link (reply_link place) (chain_in (hook_bucket z (reply_link place) s.hooks)
    (taken_from (hook_bucket z (original_link place) s.hooks) (original_link place) s).shut))
    (taken_from (hook_bucket z (original_link place) s.hooks) (original_link place) s).shut
    ∙ same_buckets (hook_bucket z (original_link place) s.hooks)
    (without_link (original_link place) (chain_in (hook_bucket z (original_link place) s.hooks) s.shut)) s.shut

module _ (place : ℕ) (r : Record) (why : Why) (locked : Buckets) (v : PassSight) (k : KnowsRecord place r v) (is : IsLocked (flow_of r) locked v) where
  has_original : has_bucket locked (bucket_in (sizes_of v) r.original) ≡ true
  has_original =
      ap (λ (l : Buckets). has_bucket l (bucket_in (sizes_of v) r.original)) is.locked_are ∙ has_first (bucket_in (sizes_of v) r.original) (bucket_in (sizes_of v) r.reply)

  has_reply : has_bucket locked (bucket_in (sizes_of v) r.reply) ≡ true
  has_reply =
      ap (λ (l : Buckets). has_bucket l (bucket_in (sizes_of v) r.reply)) is.locked_are ∙ has_second (bucket_in (sizes_of v) r.original) (bucket_in (sizes_of v) r.reply)

  pub may_die : HasItsTurn r v.view.expected → MayDie v.view (known_record v.view.commit.hand)
  may_die helped = subst (MayDie v.view) (sym k.known) (record {
    original = either_shut locked (bucket_in (sizes_of v) r.original) v.view is.shut has_original;
    reply = either_shut locked (bucket_in (sizes_of v) r.reply) v.view is.shut has_reply;
    helped = helped;
  })

  -- the place is DEAD
  module _ (u : PassSight) (shows : (q : Record) → known_record v.view.commit.hand ≡ Some q → ShowsDead place q v.view u.view) (kept : u ≡ record v { view = u.view }) where
    dead : ShowsDead place r v.view u.view
    dead = shows r k.known

    dying : u.view.commit.middle ≡ Dying r
    dying = ap (λ (x : View). x.commit.middle) dead.view

    pub may_destroy : is_reason why r ≡ true → CanDestroy (destroy_in (Destroy r.id why)) u.view
    may_destroy reason = subst (OfDying (MayDestroy (record { id = r.id; why = why }) u.view)) (sym dying) (record {
      same = refl;
      reason = reason;
      few = omega (arith, k.clear.few, ap (λ (x : View). length x.seen.own) dead.view);
      down = λ p. ap (λ (x : View). is_up p x.buckets.hooks) dead.view ∙ none_up p v.view.buckets.hooks k.clear.down;
    })

    -- the Destroy is made
    module _ (n : ℕ) (w : PassSight) (adds : HasDestroyed (destroy_in (Destroy r.id why)) u.view n w.view) (kept' : w ≡ record u { view = w.view }) where
      has : MakesDestroy (record { id = r.id; why = why }) u.view (IsNumber n) w.view r
      has = subst (OfDying (MakesDestroy (record { id = r.id; why = why }) u.view (IsNumber n) w.view)) dying adds

      abbrev after : View
      after = destroyed has.log (record { id = r.id; why = why }) r (shown_dead place r v.view)

      view_is : w.view ≡ destroyed has.log (record { id = r.id; why = why }) r (shown_dead place r v.view)
      view_is = has.view ∙ ap (destroyed has.log (record { id = r.id; why = why }) r) dead.view

      whole : w ≡ record v { view = destroyed has.log (record { id = r.id; why = why }) r (shown_dead place r v.view) }
      whole = kept' ∙ (λ i. record (kept i) { view = view_is i })

      hooks_are : w.view.buckets.hooks ≡ loose_hook (original_link place) r.original ∷ loose_hook (reply_link place) r.reply ∷ v.view.buckets.hooks
      hooks_are =
          ap (λ (x : View). x.buckets.hooks) view_is
          ∙ ap (λ (p : ℕ). loose_hook (original_link p) r.original ∷ loose_hook (reply_link p) r.reply ∷ v.view.buckets.hooks) dead.placed

      same_names : shut_buckets w.view.buckets.shut ≡ shut_buckets v.view.buckets.shut
      same_names = ap (λ (x : View). shut_buckets x.buckets.shut) view_is ∙ told_shut r.place None v.view.buckets.shut

      sizes : sizes_of w ≡ sizes_of v
      sizes = ap sizes_of whole

      pub still_shut : AreShut locked w.view
      still_shut = record {
        lower = subst (λ (m : ℕ). 0 < m) (sym (same_shuts locked.lower w.view.buckets.shut v.view.buckets.shut same_names)) is.shut.lower;
        upper = subst (λ (m : ℕ). 0 < m) (sym (same_shuts locked.upper w.view.buckets.shut v.view.buckets.shut same_names)) is.shut.upper;
      }

      apart : (original_link place == reply_link place) ≡ false
      apart = ne_eqb (original_link place) (reply_link place) (λ e. omega (arith, e))

      here : (x : ℕ) → (x == x) ≡ true
      here x = eq-eqb x x refl

      pub original_pair : pair_at (original_link place) w.view.buckets.hooks ≡ pair_of r.original
      original_pair =
          ap (pair_at (original_link place)) hooks_are
          ∙ ap (λ (b : Bool). (if b then loose_hook (original_link place) r.original else hook_of (original_link place) (loose_hook (reply_link place) r.reply ∷ v.view.buckets.hooks)).pair)
          (here (original_link place))

      pub reply_pair : pair_at (reply_link place) w.view.buckets.hooks ≡ pair_of r.reply
      reply_pair =
          ap (pair_at (reply_link place)) hooks_are
          ∙ ap (λ (b : Bool). (if b then loose_hook (original_link place) r.original else hook_of (reply_link place) (loose_hook (reply_link place) r.reply ∷ v.view.buckets.hooks)).pair) apart
          ∙ ap (λ (b : Bool). (if b then loose_hook (reply_link place) r.reply else hook_of (reply_link place) v.view.buckets.hooks).pair) (here (reply_link place))

      one_flow : RecordsAreOfOneFlow → is_of_one_flow r ≡ true
      one_flow law = of_protocol law u.view.passes.sizes has.log r.id r has.all.legal has.before

      pub original_ready : RecordsAreOfOneFlow → IsReady (sizes_of w) locked (original_link place) w.view.buckets.hooks
      original_ready law =
          is_ready (sizes_of w) locked (original_link place) r.original w.view.buckets.hooks (valid_original (flow_of r) (one_flow law)) original_pair
          (ap (λ (z : Sizes). has_bucket locked (bucket_in z r.original)) sizes ∙ has_original)

      pub reply_ready : RecordsAreOfOneFlow → IsReady (sizes_of w) locked (reply_link place) w.view.buckets.hooks
      reply_ready law =
          is_ready (sizes_of w) locked (reply_link place) r.reply w.view.buckets.hooks (valid_reply (flow_of r) (one_flow law)) reply_pair
          (ap (λ (z : Sizes). has_bucket locked (bucket_in z r.reply)) sizes ∙ has_reply)

      ended : HasEnded r why n v
      ended =
          let a = subst (λ (x : View). AreAll x has.log) dead.view has.all in
          record {
            log = has.log;
            all = record { front = a.front; told = a.told; legal = a.legal; few = a.few; passes = a.passes; shares = a.shares; alone = a.alone };
            number_is = has.told;
            legal = subst (λ (x : View). is_legal x.passes.sizes (has.log ++ destroy_of r why ∷ []) ≡ true) dead.view has.legal;
            found = has.before;
          }

      -- both links are out of their chains
      module _ (x : PassSight) (changes : ChangesBuckets (unlinked_buckets (sizes_of w) place w.view.buckets) w x) where
        buckets_are : x.view.buckets ≡ unlinked_buckets (sizes_of w) place w.view.buckets
        buckets_are = ap (λ (y : PassSight). y.view.buckets) changes.same

        abbrev lowered : List Hook → List Hook
        lowered hooks = map (lower (reply_link place)) (map (lower (original_link place)) hooks)

        hooks_then : x.view.buckets.hooks ≡ lowered (loose_hook (original_link place) r.original ∷ loose_hook (reply_link place) r.reply ∷ v.view.buckets.hooks)
        hooks_then = ap (λ (b : HeldBuckets). b.hooks) buckets_are ∙ ap lowered hooks_are

        names_then : shut_buckets x.view.buckets.shut ≡ shut_buckets w.view.buckets.shut
        names_then = ap (λ (b : HeldBuckets). shut_buckets b.shut) buckets_are ∙ unlinked_shut (sizes_of w) place w.view.buckets

        pub destroys : DestroysLocked place r why n v x
        unfolding ended
        destroys = record {
          ended = ended;
          same = changes.same
              ∙ ap (λ (y : PassSight). record y { view = record y.view { buckets = unlinked_buckets (sizes_of w) place w.view.buckets; walk = x.view.walk; readings = x.view.readings } }) whole
              ∙ (λ i. record v {
                view = record v.view {
                  seen = record v.view.seen {
                    front = has.log ++ destroy_of r why ∷ [];
                    own = v.view.seen.own ++ record { number = sym has.told i; event = destroy_of r why } ∷ [];
                  };
                  places = record v.view.places { carried = place ∷ v.view.places.carried; ended = dead.placed i ∷ v.view.places.ended };
                  buckets = sym buckets_are i;
                  commit = dead_commit place r;
                  expected = without_its r.id v.view.expected;
                  walk = x.view.walk;
                  readings = x.view.readings;
                };
              });
          down = ap is_any_up hooks_then
              ∙ both_down (original_link place) (reply_link place) (loose_hook (original_link place) r.original) (loose_hook (reply_link place) r.reply) v.view.buckets.hooks refl refl k.clear.down;
          others = ap (hooks_else place) hooks_then
              ∙ lowered_else place (reply_link place) (omega arith) (map (lower (original_link place)) (loose_hook (original_link place) r.original ∷ loose_hook (reply_link place) r.reply ∷ v.view.buckets.hooks))
              ∙ lowered_else place (original_link place) (omega arith) (loose_hook (original_link place) r.original ∷ loose_hook (reply_link place) r.reply ∷ v.view.buckets.hooks)
              ∙ else_gone place (loose_hook (original_link place) r.original) (loose_hook (reply_link place) r.reply ∷ v.view.buckets.hooks) (omega arith)
              ∙ else_gone place (loose_hook (reply_link place) r.reply) v.view.buckets.hooks (omega arith)
              ∙ else_all place v.view.buckets.hooks k.clear.bare;
          buckets = names_then ∙ same_names;
        }
