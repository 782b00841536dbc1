-- How the parts of ending an entry join: its buckets are locked and given back, and the table's reference is let go.
use Rattle.std.proofs.Common.{◌≡◌, ℕ, ◌<◌, Bool, true, false, [], ◌∷◌, ◌++◌, refl, sym, ap, subst, ◌∙◌}
use Rattle.std.specs.Prelude.{◌||◌, if◌then◌else◌}
use Rattle.std.proofs.lemmas.Bool.{eq-eqb}
use Rattle.history_book.specs.History.{is_legal}
use Rattle.history_book.specs.declared.event.Why.{Why}
use Rattle.history_book.specs.declared.record.Flow.{Flow}
use Rattle.history_book.specs.declared.record.Record.{Record}
use Rattle.track_rule.specs.Free.{is_among}
use Rattle.track_rule.specs.KillSteps.{without_its}
use Rattle.track_rule.specs.Links.{is_up}
use Rattle.track_rule.specs.References.{is_held}
use Rattle.track_rule.specs.Sights.{PassSight, sizes_of}
use Rattle.track_rule.specs.Steps.{AreAll, LowersRefs, hooks_else, let_go, let_go_of}
use Rattle.track_rule.specs.declared.view.Middle.TheVariants.{Calm}
use Rattle.track_rule.specs.declared.view.View.{View}
use Rattle.bucket_table.specs.Locks.{AreShut, AreWhole, Buckets, UnlocksTwo, open_both}
use Rattle.shared_desk.specs.Commit.{seen_with}
use Rattle.shared_desk.specs.Confirm.{IsLocked, LocksFlow}
use Rattle.shared_desk.specs.Killing.{DestroysLocked, EndsEntry, HasEnded, KnowsRecord, dead_commit, destroy_of, flow_of}
use Rattle.shared_desk.proofs.Entering.{taken_front}
use Rattle.shared_desk.proofs.Linking.{none_up, same_shuts}
use Rattle.shared_desk.proofs.Opening.{all_open, whole_from}

module _ (place : ℕ) (r : Record) (why : Why) (flow : Flow) (locked : Buckets) (v u : PassSight) (k : KnowsRecord place r v)
    (flow_is : flow ≡ flow_of r) (locks : LocksFlow flow locked v u) where
  pub locked_flow : IsLocked (flow_of r) locked u
  locked_flow = subst (λ (f : Flow). IsLocked f locked u) flow_is locks.is

  -- the record is known still
  pub still_known : KnowsRecord place r u
  still_known = subst (KnowsRecord place r) (sym locks.same) (record {
    below = k.below;
    held = k.held;
    turn = k.turn;
    live = k.live;
    known = k.known;
    calm = k.calm;
    clear = record { carried = k.clear.carried; down = k.clear.down; bare = k.clear.bare; few = k.clear.few };
  })

  -- the entry was destroyed
  module _ (n : ℕ) (w : PassSight) (d : DestroysLocked place r why n u w) where
    pub still_shut : AreShut locked w.view
    still_shut = record {
      lower = subst (λ (m : ℕ). 0 < m) (sym (same_shuts locked.lower w.view.buckets.shut u.view.buckets.shut d.buckets)) locks.is.shut.lower;
      upper = subst (λ (m : ℕ). 0 < m) (sym (same_shuts locked.upper w.view.buckets.shut u.view.buckets.shut d.buckets)) locks.is.shut.upper;
    }

    pub whole : AreWhole (sizes_of w) locked w.view
    whole = whole_from (sizes_of w) locked w.view d.down

    ended : HasEnded r why n v
    ended =
        let a = subst (λ (x : PassSight). AreAll x.view d.ended.log) locks.same d.ended.all in
        record {
          log = d.ended.log;
          all = record { front = a.front; told = a.told; legal = a.legal; few = a.few; passes = a.passes; shares = a.shares; alone = a.alone };
          number_is = d.ended.number_is;
          legal = subst (λ (x : PassSight). is_legal (sizes_of x) (d.ended.log ++ destroy_of r why ∷ []) ≡ true) locks.same d.ended.legal;
          found = d.ended.found;
        }

    -- both buckets are given back
    module _ (x : PassSight) (unlocks : UnlocksTwo locked w x) where
      abbrev freed : PassSight
      freed = record v {
        view = record v.view {
          seen = seen_with d.ended.log n (destroy_of r why) v.view.seen;
          places = record v.view.places { carried = place ∷ v.view.places.carried; ended = place ∷ v.view.places.ended };
          buckets = record { shut = []; hooks = w.view.buckets.hooks };
          commit = dead_commit place r;
          expected = without_its r.id v.view.expected;
          walk = w.view.walk;
          readings = x.view.readings;
        };
      }

      opens : x ≡ freed
      opens =
          unlocks.same
          ∙ ap (λ (y : PassSight). record y { view = record y.view { buckets = record y.view.buckets { shut = open_both locked y.view.buckets.shut }; readings = x.view.readings } }) d.same
          ∙ ap (λ (y : PassSight). record y {
            view = record y.view {
              seen = seen_with d.ended.log n (destroy_of r why) y.view.seen;
              places = record y.view.places { carried = place ∷ y.view.places.carried; ended = place ∷ y.view.places.ended };
              buckets = record { shut = open_both locked w.view.buckets.shut; hooks = w.view.buckets.hooks };
              commit = dead_commit place r;
              expected = without_its r.id y.view.expected;
              walk = w.view.walk;
              readings = x.view.readings;
            };
          }) locks.same
          ∙ ap (λ shut. record v {
            view = record v.view {
              seen = seen_with d.ended.log n (destroy_of r why) v.view.seen;
              places = record v.view.places { carried = place ∷ v.view.places.carried; ended = place ∷ v.view.places.ended };
              buckets = record { shut = shut; hooks = w.view.buckets.hooks };
              commit = dead_commit place r;
              expected = without_its r.id v.view.expected;
              walk = w.view.walk;
              readings = x.view.readings;
            };
          }) (all_open locked w.view.buckets.shut (d.buckets ∙ locks.is.names))

      pub held_then : is_held place x.view.places.held ≡ true
      held_then = ap (λ (y : PassSight). is_held place y.view.places.held) opens ∙ k.held

      pub down_then : is_up place x.view.buckets.hooks ≡ false
      down_then = ap (λ (y : PassSight). is_up place y.view.buckets.hooks) opens ∙ none_up place w.view.buckets.hooks d.down

      pub calm_then : x.view.commit.middle ≡ Calm
      calm_then = ap (λ (y : PassSight). y.view.commit.middle) opens

      -- the table's reference is let go
      module _ (m : ℕ) (y : PassSight) (shut : v.view.buckets.shut ≡ []) (lowers : LowersRefs place x.view m y.view) (kept : y ≡ record x { view = y.view }) where
        front_here : is_among place (place ∷ v.view.places.carried) ≡ true
        front_here = ap (λ (b : Bool). b || is_among place v.view.places.carried) (eq-eqb place place refl)

        hooks_are : (if is_among place (place ∷ v.view.places.ended) then hooks_else place w.view.buckets.hooks else w.view.buckets.hooks) ≡ v.view.buckets.hooks
        hooks_are =
            ap (λ (b : Bool). if b || is_among place v.view.places.ended then hooks_else place w.view.buckets.hooks else w.view.buckets.hooks) (eq-eqb place place refl)
            ∙ d.others ∙ ap (λ (z : PassSight). z.view.buckets.hooks) locks.same

        view_is : y.view ≡ let_go_of true place m freed.view
        view_is = lowers.view ∙ ap (λ (z : PassSight). let_go place m z.view) opens ∙ ap (λ (b : Bool). let_go_of b place m freed.view) front_here

        pub ends : EndsEntry place r why n v y
        unfolding ended
        ends = record {
          ended = ended;
          same = kept ∙ ap (λ (z : PassSight). record z { view = y.view }) opens ∙ ap (λ (z : View). record v { view = z }) (view_is ∙ (λ i. record v.view {
            seen = seen_with d.ended.log n (destroy_of r why) v.view.seen;
            places = record v.view.places {
              carried = taken_front place v.view.places.carried i;
              ended = sym (ap (λ (z : View). z.places.ended) view_is) i;
            };
            buckets = record { shut = sym shut i; hooks = hooks_are i };
            commit = dead_commit place r;
            expected = without_its r.id v.view.expected;
            walk = sym (ap (λ (z : View). z.walk) view_is) i;
            readings = sym (ap (λ (z : View). z.readings) view_is) i;
          }));
        }
