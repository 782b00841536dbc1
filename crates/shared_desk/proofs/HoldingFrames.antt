-- A pass that only looked: what it knew before, and what it knows after.
use Rattle.std.proofs.Common.{◌≡◌, ℕ, ◌+◌, ◌<◌, ◌≤◌, Option, List, [], ◌∷◌, ◌++◌, length, refl, sym, ap, subst, ◌∙◌, append-nil, append_assoc}
use Rattle.history_book.specs.Point.{StartsWith}
use Rattle.history_book.specs.declared.event.Event.{Event}
use Rattle.history_book.specs.declared.outcome.HoldOutcome.{HoldOutcome}
use Rattle.history_book.specs.declared.outcome.HoldOutcome.TheVariants.{Held, Empty}
use Rattle.history_book.specs.declared.sizes.Sizes.{Sizes}
use Rattle.track_rule.specs.KeptWords.{is_kept_for}
use Rattle.track_rule.specs.PhaseSteps.{holds_open}
use Rattle.track_rule.specs.References.{is_taken}
use Rattle.track_rule.specs.Sights.{PassSight, sizes_of}
use Rattle.track_rule.specs.Steps.{AreAll, Looks, at_point, found_history}
use Rattle.track_rule.specs.Sums.{times}
use Rattle.track_rule.specs.declared.view.Reading.{Reading}
use Rattle.track_rule.specs.declared.view.View.{View}
use Rattle.track_rule.specs.declared.view.Walk.{Walk}
use Rattle.shared_desk.specs.Holding.{CanHold, HoldsLive, OnlyLooks, but_newest}
use Rattle.shared_desk.specs.Rest.{AreSettled}

pub starts_same : (log : List Event) → StartsWith log log
starts_same log = ([], sym (append-nil log))

pub looks_from : (v x : PassSight) (log : List Event) (walk : Option Walk) (rs : List Reading)
    → x ≡ record v { view = record v.view { seen = record v.view.seen { front = log }; walk = walk; readings = rs } }
    → StartsWith log v.view.seen.front → OnlyLooks v x
looks_from v x log walk rs e starts = record {
  same = e ∙ (λ i. record v {
    view = record v.view {
      seen = record v.view.seen { front = sym (ap (λ (k : PassSight). k.view.seen.front) e) i };
      walk = sym (ap (λ (k : PassSight). k.view.walk) e) i;
      readings = sym (ap (λ (k : PassSight). k.view.readings) e) i;
    };
  });
  front = subst (λ (l : List Event). StartsWith l v.view.seen.front) (sym (ap (λ (k : PassSight). k.view.seen.front) e)) starts;
}

pub looks_none : (v : PassSight) → OnlyLooks v v
looks_none v = record { same = refl; front = starts_same v.view.seen.front }

pub looks_again : (v u w : PassSight) → OnlyLooks v u → OnlyLooks u w → OnlyLooks v w
looks_again v u w a b = record {
  same = b.same ∙ ap (λ (k : PassSight). record k {
    view = record k.view { seen = record k.view.seen { front = w.view.seen.front }; walk = w.view.walk; readings = w.view.readings };
  }) a.same;
  front = (
    a.front.0 ++ b.front.0,
    b.front.1 ∙ ap (λ (es : List Event). es ++ b.front.0) a.front.1 ∙ append_assoc v.view.seen.front a.front.0 b.front.0,
  );
}

-- what it sees later it has seen from before on
pub all_before : (v u : PassSight) (log : List Event) → OnlyLooks v u → AreAll u.view log → AreAll v.view log
all_before v u log l all =
    let a = subst (λ (k : PassSight). AreAll k.view log) l.same all in
    record {
      front = (
        l.front.0 ++ a.front.0,
        a.front.1 ∙ ap (λ (es : List Event). es ++ a.front.0) l.front.1 ∙ append_assoc v.view.seen.front l.front.0 a.front.0,
      );
      told = a.told;
      legal = a.legal;
      few = a.few;
      passes = a.passes;
      shares = a.shares;
      alone = a.alone;
    }

-- its newest reference is nothing to that
pub all_but_newest : (v : PassSight) (log : List Event) → AreAll v.view log → AreAll (but_newest v).view log
all_but_newest v log a =
    record { front = a.front; told = a.told; legal = a.legal; few = a.few; passes = a.passes; shares = a.shares; alone = a.alone }

pub can_still : (place : ℕ) (v w : PassSight) → CanHold place v → OnlyLooks v w → CanHold place w
can_still place v w h l = record {
  free = record {
    below = subst (λ (z : Sizes). place < z.entries) (sym (ap sizes_of l.same)) h.free.below;
    hand = ap (λ (k : PassSight). k.view.commit.hand) l.same ∙ h.free.hand;
    expected = ap (λ (k : PassSight). k.view.expected) l.same ∙ h.free.expected;
    shut = ap (λ (k : PassSight). k.view.buckets.shut) l.same ∙ h.free.shut;
    calm = ap (λ (k : PassSight). k.view.commit.middle) l.same ∙ h.free.calm;
    free = ap (λ (k : PassSight). k.view.free) l.same ∙ h.free.free;
    closed = ap (λ (k : PassSight). holds_open k.view.places.held) l.same ∙ h.free.closed;
  };
  settled = subst (λ (k : PassSight). AreSettled k.view.places k.view.buckets.hooks) (sym l.same) h.settled;
  carried = ap (λ (k : PassSight). k.view.places.carried) l.same ∙ h.carried;
  few = subst (λ (k : PassSight). length k.view.places.held + length k.view.places.owed ≤ 3) (sym l.same) h.few;
}

-- an answer after some looking
pub holds_after : (place : ℕ) (o : HoldOutcome) (v u w : PassSight) → OnlyLooks v u → HoldsLive place o u w → HoldsLive place o v w
holds_after place (Held id at) v u w l h = record {
  newest = h.newest;
  looks = looks_again v u (but_newest w) l h.looks;
  all = all_before v u w.view.seen.front l h.all;
  point = h.point;
  live = h.live;
  was = h.was;
  unowed = sym (ap (λ (k : PassSight). times place k.view.places.owed) l.same) ∙ h.unowed;
  untaken = sym (ap (λ (k : PassSight). is_taken place k.view.places.held) l.same) ∙ h.untaken;
  agreed = λ i kept. h.agreed i (ap (λ (k : PassSight). is_kept_for place i k.view.places.held) l.same ∙ kept);
}
holds_after place (Empty at) v u w l h = record {
  looks = looks_again v u w l h.looks;
  all = all_before v u w.view.seen.front l h.all;
  point = h.point;
  unused = h.unused;
}

-- a load of the history word
module _ (word : ℕ) (u x : PassSight) (looks : Looks u.view word x.view) (kept : x ≡ record u { view = x.view }) where
  pub looked : x ≡ record u {
    view = record u.view {
      seen = record u.view.seen { front = x.view.seen.front };
      walk = at_point (length x.view.seen.front) u.view.walk;
      readings = u.view.readings ++ found_history word u.view ∷ [];
    };
  }
  looked = kept ∙ ap (λ (k : View). record u { view = k }) looks.same

  pub history_looks : OnlyLooks u x
  history_looks =
      looks_from u x x.view.seen.front (at_point (length x.view.seen.front) u.view.walk) (u.view.readings ++ found_history word u.view ∷ []) looked looks.all.front
