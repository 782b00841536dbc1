-- What a pass of two knows and answers, where the other pass came between.
use Rattle.std.proofs.Common.{◌≡◌, ℕ, ◌+◌, ◌-◌, ◌<◌, ◌≤◌, Bool, true, false, cond, List, [], ◌∷◌, ◌++◌, length, Option, Some, None, refl, sym, ap, subst, ◌∙◌, arith, append_assoc, length-append, zero, suc}
use Rattle.std.specs.List.{find as find_in, slice_get}
use Rattle.std.specs.Prelude.{◌&&◌, ◌||◌}
use Rattle.std.proofs.lemmas.Bool.{eq-eqb, eqb-true}
use Rattle.std.proofs.lemmas.List.{append-nil}
use Rattle.std.proofs.lemmas.List.Elements.{All-push}
use Rattle.std.proofs.lemmas.List.Quantifiers.{all_pairs_push}
use Rattle.std.proofs.lemmas.Option.{slice_get_within}
use Rattle.expect_table.specs.declared.expectation.Expectation.{Expectation}
use Rattle.expect_table.specs.declared.expectation.Want.{Want}
use Rattle.tuple_core.specs.declared.Direction.{Direction}
use Rattle.tuple_core.specs.declared.Segment.{Segment}
use Rattle.tuple_core.specs.declared.Tuple.{Tuple}
use Rattle.history_book.specs.declared.desk.Hold.{Hold}
use Rattle.history_book.specs.declared.event.Event.{Event}
use Rattle.history_book.specs.declared.event.Note.{Note}
use Rattle.history_book.specs.declared.event.Why.{Why}
use Rattle.history_book.specs.declared.outcome.ConfirmOutcome.{ConfirmOutcome}
use Rattle.history_book.specs.declared.outcome.ConfirmOutcome.TheVariants as confirm
use Rattle.history_book.specs.declared.outcome.ExpectOutcome.{ExpectOutcome}
use Rattle.history_book.specs.declared.outcome.ExpectOutcome.TheVariants as expect
use Rattle.history_book.specs.declared.outcome.FindOutcome.{FindOutcome}
use Rattle.history_book.specs.declared.outcome.FindOutcome.TheVariants as find
use Rattle.history_book.specs.declared.outcome.HoldOutcome.{HoldOutcome}
use Rattle.history_book.specs.declared.outcome.HoldOutcome.TheVariants as hold
use Rattle.history_book.specs.declared.outcome.PeekOutcome.{PeekOutcome}
use Rattle.history_book.specs.declared.outcome.PeekOutcome.TheVariants as peek
use Rattle.history_book.specs.declared.outcome.ReleaseOutcome.{ReleaseOutcome}
use Rattle.history_book.specs.declared.outcome.ReleaseOutcome.TheVariants as release
use Rattle.history_book.specs.declared.outcome.TouchOutcome.{TouchOutcome}
use Rattle.history_book.specs.declared.outcome.TouchOutcome.TheVariants as touch
use Rattle.history_book.specs.declared.record.Flow.{Flow}
use Rattle.history_book.specs.declared.sizes.Sizes.{Sizes}
use Rattle.history_book.specs.Desk.{ConfirmSays, Destroys, FindSays, FindsFull, HoldSays, IsRecord, PeekSays, ReleaseSays, SamePlaces, Takes, TouchSays, Touches}
use Rattle.expect_table.specs.declared.table.AddOutcome.{AddOutcome}
use Rattle.history_book.specs.DeskExpectations.{AddGives, AddsNothing, ExpectSays, MakesExpect, expectation_at}
use Rattle.history_book.specs.Entry.{confirmed_by, is_helped_entry, is_of_entry, zone_of, zone_of_entry}
use Rattle.history_book.specs.Held.{held_for, held_id, is_at, is_held, is_owed, without}
use Rattle.history_book.specs.Point.{At, StartsWith}
use Rattle.history_book.specs.Sight.{IsKnown, Sight, risen}
use Rattle.history_book.specs.Record.{has_id}
use Rattle.history_book.specs.History.{after, is_legal, is_legal_from}
use Rattle.history_book.specs.Laws.{EntriesKeepTheirProtocol, EntriesKeepTheirZone}
use Rattle.history_book.specs.Legality.{has_helper, may_happen}
use Rattle.history_book.specs.State.{State, empty_state, next, record_of}
use Rattle.history_book.specs.WentOn.{IsSamePass, MadeEvent, Saw}
use Rattle.history_book.specs.declared.event.Event.TheVariants.{Claim, Confirm, Destroy, Expect, Touch, Unexpect}
use Rattle.history_book.specs.declared.record.Record.{Record}
use Rattle.proto_rules.specs.declared.Outcome.TheVariants.{Accept}
use Rattle.proto_rules.specs.declared.Part.{Part}
use Rattle.proto_rules.specs.Protocol.{is_of_protocol}
use Rattle.proto_rules.specs.Step.{step_of}
use Rattle.desk_tests.specs.Busy.{IsBusy, Went, seen_by}

starts_refl : (l : List Event) → StartsWith l l
starts_refl l = ([], sym (append-nil l))

starts_trans : (c b a : List Event) → StartsWith c b → StartsWith b a → StartsWith c a
starts_trans c b a (r, e) (q, f) = (q ++ r, e ∙ ap (λ (l : List Event). l ++ r) f ∙ append_assoc a q r)

starts_longer : (b a : List Event) → StartsWith b a → length a ≤ length b
starts_longer b a (r, e) = omega (arith, ap length e, length-append a r)

get_append : {X : Type 0} (xs ys : List X) (i : ℕ) (x : X) → slice_get xs i ≡ Some x → slice_get (xs ++ ys) i ≡ Some x
get_append [] ys i x h = cc
get_append (y ∷ xs) ys zero x h = h
get_append (y ∷ xs) ys (suc i) x h = get_append xs ys i x h

get_grows : (b a : List Event) (i : ℕ) (e : Event) → StartsWith b a → slice_get a i ≡ Some e → slice_get b i ≡ Some e
get_grows b a i e (r, same) h = ap (λ (l : List Event). slice_get l i) same ∙ get_append a r i e h

-- The other pass's calls.

pub went_refl : (s : Sight) (b a : ℕ) → a ≤ b → IsKnown s → Went s s b a
went_refl s b a le known = record {
  known = known;
  front = starts_refl s.front;
  held = refl;
  owed = refl;
  sizes = refl;
  fewer = le;
  spare = omega (arith, le);
}

pub went_saw : (old new : Sight) → Saw old new → SamePlaces old new → IsKnown new → Went old new 1 0
went_saw old new saw same known = record {
  known = known;
  front = saw.went.front;
  held = same.held;
  owed = same.owed;
  sizes = saw.went.pass.sizes;
  fewer = omega arith;
  spare = omega (arith, saw.spare);
}

pub went_made : (old new : Sight) (n : ℕ) (e : Event) → MadeEvent old new n e → SamePlaces old new → IsKnown new → Went old new 1 0
went_made old new n e made same known = record {
  known = known;
  front = made.went.front;
  held = same.held;
  owed = same.owed;
  sizes = made.went.pass.sizes;
  fewer = omega arith;
  spare = omega (arith, made.spare);
}

pub went_after : (old mid new : Sight) (b a : ℕ) → Saw old mid → SamePlaces old mid → Went mid new b a → Went old new b a
went_after old mid new b a saw same went = record {
  known = went.known;
  front = starts_trans new.front mid.front old.front went.front saw.went.front;
  held = went.held ∙ same.held;
  owed = went.owed ∙ same.owed;
  sizes = went.sizes ∙ saw.went.pass.sizes;
  fewer = went.fewer;
  spare = omega (arith, went.spare, saw.spare);
}

pub went_touch : (place : ℕ) (d : Direction) (segment : Segment) (moment : ℕ) (old new : Sight) (r : TouchOutcome)
    → TouchSays place d segment moment old new r → IsKnown new → Went old new 1 0
went_touch place d segment moment old new (touch.Touched n before) says known = went_made old new n _ says.made says.same known
went_touch place d segment moment old new (touch.Ignored at) says known = went_saw old new says.0.saw says.1 known
went_touch place d segment moment old new (touch.Invalid at) says known = went_saw old new says.0.saw says.1 known
went_touch place d segment moment old new (touch.Reopen at) says known = went_saw old new says.0.saw says.1 known
went_touch place d segment moment old new (touch.Reset at) says known = went_saw old new says.0.saw says.1 known
went_touch place d segment moment old new (touch.Expired at) says known = went_saw old new says.0.saw says.1 known
went_touch place d segment moment old new (touch.Gone at) says known = went_saw old new says.0.saw says.1 known

pub went_expect : (place : ℕ) (want : Want) (moment : ℕ) (old new : Sight) (r : ExpectOutcome) → ExpectSays place want moment old new r
    → IsKnown new → Went old new 1 0
went_expect place want moment old new (expect.Expected id replaced) says known = went_made old new id _ says.0 says.1 known
went_expect place want moment old new (expect.MasterGone at) says known = went_saw old new says.0.saw says.1 known
went_expect place want moment old new (expect.Clash id at) says known = went_saw old new says.0.saw says.1 known
went_expect place want moment old new (expect.ExpectFull at) says known = went_saw old new says.0.saw says.1 known

pub went_then : (old mid new : Sight) (b a : ℕ) → Went old mid b a → Saw mid new → SamePlaces mid new → IsKnown new → Went old new b a
went_then old mid new b a went saw same known = record {
  known = known;
  front = starts_trans new.front mid.front old.front saw.went.front went.front;
  held = same.held ∙ went.held;
  owed = same.owed ∙ went.owed;
  sizes = saw.went.pass.sizes ∙ went.sizes;
  fewer = went.fewer;
  spare = omega (arith, went.spare, saw.spare);
}

-- a packet of the protocol of what was read is one of the entry
pub read_protocol : EntriesKeepTheirProtocol → (place : ℕ) (segment : Segment) (old new : Sight) (subject : Record) (at : ℕ) → IsKnown new
    → PeekSays place old new (peek.Seen subject at) → is_of_protocol segment subject.part.kind ≡ true
    → is_of_entry segment (held_id place new.held) new.front ≡ true
read_protocol keep place segment old new subject at known says of =
    ap (λ (l : List Hold). is_of_entry segment (held_id place l) new.front) says.1.held
    ∙ keep new.sizes new.front at (held_id place old.held) subject segment known.legal says.0.fact.fact ∙ of

-- the other pass holds one place more
pub record Holding (place : ℕ) (old s : Sight) : Type 0 where
  pub front : StartsWith s.front old.front
  pub id : Option ℕ
  pub held : s.held ≡ record { place = place; id = id } ∷ old.held
  pub owed : s.owed ≡ old.owed
  pub sizes : s.sizes ≡ old.sizes
  pub spare : old.spare ≤ s.spare + 1

-- references to other places stay as they are
for_others : (place id : ℕ) (held : List Hold) → is_held place held ≡ false → held_for place id held ≡ held
for_others place id [] none = refl
for_others place id (h ∷ hs) none = first (is_at place h) refl none (for_others place id hs)
  where
    first : (b : Bool) → is_at place h ≡ b → (b || is_held place hs) ≡ false
        → (is_held place hs ≡ false → held_for place id hs ≡ hs) → held_for place id (h ∷ hs) ≡ h ∷ hs
    first true e none rest = cc
    first false e none rest =
        ap (λ (b : Bool). cond b (record h { id = Some id }) h ∷ held_for place id hs) e
        ∙ ap (λ (l : List Hold). h ∷ l) (rest none)

pub holding_confirmed : (place : ℕ) (flow : Flow) (old mid new : Sight) (r : ConfirmOutcome) → Takes old mid place
    → ConfirmSays place flow mid new r → Holding place old new
holding_confirmed place flow old mid new (confirm.Confirmed id) taken says = record {
  front = starts_trans new.front mid.front old.front says.made.went.front taken.saw.went.front;
  id = Some id;
  held = says.held ∙ ap (held_for place id) taken.holds.held
      ∙ ap (λ (b : Bool). cond b (record { place = place; id = Some id }) (record { place = place; id = None }) ∷ held_for place id old.held) (eq-eqb place place refl)
      ∙ ap (λ (l : List Hold). record { place = place; id = Some id } ∷ l) (for_others place id old.held taken.unheld);
  owed = says.owed ∙ taken.holds.owed;
  sizes = says.made.went.pass.sizes ∙ taken.saw.went.pass.sizes;
  spare = omega (arith, says.made.spare, taken.saw.spare);
}
holding_confirmed place flow old mid new (confirm.Clash id d both at) taken says = record {
  front = starts_trans new.front mid.front old.front says.0.saw.went.front taken.saw.went.front;
  id = None;
  held = says.1.held ∙ taken.holds.held;
  owed = says.1.owed ∙ taken.holds.owed;
  sizes = says.0.saw.went.pass.sizes ∙ taken.saw.went.pass.sizes;
  spare = omega (arith, says.0.saw.spare, taken.saw.spare);
}

pub holding_found : (t : Tuple) (place id : ℕ) (d : Direction) (at : ℕ) (old mid new : Sight)
    → FindSays t old mid (find.Found place id d at) → Went mid new 1 0 → Holding place old new
holding_found t place id d at old mid new says went = record {
  front = starts_trans new.front mid.front old.front went.front says.0.saw.went.front;
  id = Some id;
  held = went.held ∙ says.1.held;
  owed = went.owed ∙ says.1.owed;
  sizes = went.sizes ∙ says.0.saw.went.pass.sizes;
  spare = omega (arith, went.spare, says.0.saw.spare);
}

let_go : (place : ℕ) (id : Option ℕ) (held : List Hold) → without place (record { place = place; id = id } ∷ held) ≡ held
let_go place id held = ap (λ (b : Bool). cond b held (record { place = place; id = id } ∷ without place held)) (eq-eqb place place refl)

pub went_back : (place : ℕ) (old mid new : Sight) → Holding place old mid → Saw mid new → new.held ≡ without place mid.held
    → new.owed ≡ mid.owed → IsKnown new → Went old new 1 0
went_back place old mid new holds saw held owed known = record {
  known = known;
  front = starts_trans new.front mid.front old.front saw.went.front holds.front;
  held = held ∙ ap (without place) holds.held ∙ let_go place holds.id old.held;
  owed = owed ∙ holds.owed;
  sizes = saw.went.pass.sizes ∙ holds.sizes;
  fewer = omega arith;
  spare = omega (arith, saw.spare, holds.spare);
}

-- This pass's calls.

found_has : {X : Type 0} (p : X → Bool) (xs : List X) (y : X) → find_in p xs ≡ Some y → p y ≡ true
found_has p [] y h = cc
found_has p (x ∷ xs) y h = first_has p x y xs (p x) refl h (found_has p xs y)
  where
    first_has : {X : Type 0} (p : X → Bool) (x y : X) (xs : List X) (b : Bool) → p x ≡ b
        → cond b (Some x) (find_in p xs) ≡ Some y → (find_in p xs ≡ Some y → p y ≡ true) → p y ≡ true
    first_has p x y xs true e h rest = cc
    first_has p x y xs false e h rest = rest h

has_id_of : (id : ℕ) (s : State) (r : Record) → record_of id s ≡ Some r → r.id ≡ id
has_id_of id s r h = eqb-true r.id id (found_has (has_id id) s.records r h)

accepted : (p q : Part) → Accept p ≡ Accept q → p ≡ q
accepted p q e = cc

same_pass : (taken : ℕ) (old mid new : Sight) (notes items : List Note) (spare spare' b a : ℕ) → Went old mid b a → IsSamePass mid new
    → IsSamePass (seen_by taken old notes spare) (seen_by taken new items spare')
same_pass taken old mid new notes items spare spare' b a went pass = record {
  tracker = refl;
  sizes = ap (λ (z : Sizes). record z { passes = 2 }) (pass.sizes ∙ went.sizes);
  shares = refl;
  returned = refl;
  gathered = refl;
}

pub saw_went : (taken : ℕ) (old mid new : Sight) (notes : List Note) (spare b a : ℕ) → Went old mid b a → Saw mid new
    → Saw (seen_by taken old notes spare) (seen_by taken new notes spare)
saw_went taken old mid new notes spare b a went saw = record {
  went = record {
    front = starts_trans new.front mid.front old.front saw.went.front went.front;
    own = sym (append-nil notes);
    spare = omega arith;
    pass = same_pass taken old mid new notes notes spare spare b a went saw.went.pass;
  };
  spare = refl;
  taken = refl;
}

event_went : (taken : ℕ) (old mid new : Sight) (notes items : List Note) (spare spare' b a n : ℕ) (e : Event) → Went old mid b a
    → MadeEvent mid new n e → items ≡ notes ++ record { number = n; event = e } ∷ [] → spare ≡ spare' + 1
    → MadeEvent (seen_by taken old notes spare) (seen_by taken new items spare') n e
event_went taken old mid new notes items spare spare' b a n e went made pushed one = record {
  went = record {
    front = starts_trans new.front mid.front old.front made.went.front went.front;
    own = pushed;
    spare = omega (arith, one);
    pass = same_pass taken old mid new notes items spare spare' b a went made.went.pass;
  };
  spare = one;
  low = omega (arith, made.low, starts_longer mid.front old.front went.front);
  high = made.high;
  happened = made.happened;
  taken = refl;
}

pub took_went : (taken : ℕ) (old mid new : Sight) (notes : List Note) (spare b a place : ℕ) → Went old mid b a → Takes mid new place
    → Takes (seen_by taken old notes spare) (seen_by (risen taken) new notes spare) place
took_went taken old mid new notes spare b a place went says = record {
  saw = saw_went taken old mid (record new { taken = mid.taken }) notes spare b a went says.saw;
  taken = refl;
  below = subst (λ (z : Sizes). place < z.entries) went.sizes says.below;
  unheld = ap (is_held place) (sym went.held) ∙ says.unheld;
  unowed = ap (is_owed place) (sym went.owed) ∙ says.unowed;
  holds = record {
    held = says.holds.held ∙ ap (λ (l : List Hold). record { place = place; id = None } ∷ l) went.held;
    owed = says.holds.owed ∙ went.owed;
  };
  alone = λ one. absurd (omega (arith, one));
}

pub full_went : (taken : ℕ) (old mid new : Sight) (notes : List Note) (spare b a at : ℕ) → Went old mid b a
    → old.sizes.passes ≡ 1 → FindsFull mid new at → FindsFull (seen_by taken old notes spare) (seen_by taken new notes spare) at
full_went taken old mid new notes spare b a at went lone says = record {
  looked = record {
    saw = saw_went taken old mid new notes spare b a went says.looked.saw;
    low = omega (arith, says.looked.low, starts_longer mid.front old.front went.front);
    fact = record {
      within = says.looked.fact.within;
      fact = omega (
        arith,
        says.looked.fact.fact,
        lone,
        ap (λ (z : Sizes). z.entries) went.sizes,
        ap (λ (z : Sizes). z.passes) went.sizes,
        ap length went.held,
        ap length went.owed,
      );
    };
  };
  same = record { held = says.same.held ∙ went.held; owed = says.same.owed ∙ went.owed };
  alone = λ one place below. absurd (omega (arith, one));
}

-- which events may happen does not depend on the number of passes
may_two : (z : Sizes) (k : ℕ) (s : State) (n : ℕ) (e : Event) → may_happen (record z { passes = k }) s n e ≡ may_happen z s n e
may_two z k s n (Confirm r) = refl
may_two z k s n (Touch id direction segment moment after) = refl
may_two z k s n (Destroy id why) = refl
may_two z k s n (Expect expectation replaced moment) = refl
may_two z k s n (Claim expectation master tuple moment) = refl
may_two z k s n (Unexpect expectation moment) = refl

legal_from_two : (z : Sizes) (k : ℕ) (s : State) (n : ℕ) (log : List Event)
    → is_legal_from (record z { passes = k }) s n log ≡ is_legal_from z s n log
legal_from_two z k s n [] = refl
legal_from_two z k s n (e ∷ es) =
    ap (λ b. b && is_legal_from (record z { passes = k }) (next s e) (n + 1) es) (may_two z k s n e)
    ∙ ap (λ b. may_happen z s n e && b) (legal_from_two z k (next s e) (n + 1) es)

legal_two : (z : Sizes) (k : ℕ) (log : List Event) → is_legal (record z { passes = k }) log ≡ is_legal z log
unfolding is_legal
legal_two z k log = legal_from_two z k empty_state 0 log

-- the front is a legal history of a tracker of two passes too
pub legal_seen : (z : Sizes) (log : List Event) → is_legal z log ≡ true → is_legal (record z { passes = 2 }) log ≡ true
legal_seen z log legal = legal_two z 2 log ∙ legal

-- What this pass knows.

pub known_seen : (taken : ℕ) (inner : Sight) (notes : List Note) (capacity spare others : ℕ) → IsBusy inner notes capacity spare others
    → IsKnown (seen_by taken inner notes spare)
known_seen taken inner notes capacity spare others b = record {
  legal = legal_seen inner.sizes inner.front b.known.legal;
  few = b.known.few;
  own = b.own;
  ordered = b.ordered;
  held = b.known.held;
  agreed = b.known.agreed;
  owed = b.known.owed;
  unowed = b.known.unowed;
  once = b.known.once;
  places = b.known.places;
  spared = b.few;
  shared = omega arith;
  passes = omega arith;
  gathered = λ i d short. absurd (omega (arith, short));
  gathered_few = omega arith;
  alone = λ one. absurd (omega (arith, one));
}

pub busy_went : (old new : Sight) (notes : List Note) (capacity spare b a : ℕ) → IsBusy old notes capacity spare b → Went old new b a
    → IsBusy new notes capacity spare a
busy_went old new notes capacity spare b a busy went = record {
  known = went.known;
  lone = ap (λ (z : Sizes). z.passes) went.sizes ∙ busy.lone;
  own = λ i d h. get_grows new.front old.front _ _ went.front (busy.own i d h);
  ordered = busy.ordered;
  room = busy.room;
  few = busy.few;
  left = omega (arith, busy.left, went.spare);
}

pub busy_saw : (old new : Sight) (notes : List Note) (capacity spare a : ℕ) → IsBusy old notes capacity spare a → Saw old new
    → IsKnown new → IsBusy new notes capacity spare a
busy_saw old new notes capacity spare a busy saw known = record {
  known = known;
  lone = ap (λ (z : Sizes). z.passes) saw.went.pass.sizes ∙ busy.lone;
  own = λ i d h. get_grows new.front old.front _ _ saw.went.front (busy.own i d h);
  ordered = busy.ordered;
  room = busy.room;
  few = busy.few;
  left = omega (arith, busy.left, saw.spare);
}

pub busy_took : (old new : Sight) (notes : List Note) (capacity spare a place : ℕ) → IsBusy old notes capacity spare a → Takes old new place
    → IsKnown new → IsBusy new notes capacity spare a
busy_took old new notes capacity spare a place busy takes known = record {
  known = known;
  lone = ap (λ (z : Sizes). z.passes) takes.saw.went.pass.sizes ∙ busy.lone;
  own = λ i d h. get_grows new.front old.front _ _ takes.saw.went.front (busy.own i d h);
  ordered = busy.ordered;
  room = busy.room;
  few = busy.few;
  left = omega (arith, busy.left, takes.saw.spare);
}

pub busy_made : (old new : Sight) (notes : List Note) (capacity spare spare' a n : ℕ) (e : Event) → IsBusy old notes capacity spare a
    → MadeEvent old new n e → IsKnown new → spare ≡ spare' + 1
    → IsBusy new (notes ++ record { number = n; event = e } ∷ []) capacity spare' a
busy_made old new notes capacity spare spare' a n e busy made known one =
    let longer : length (notes ++ record { number = n; event = e } ∷ []) ≡ length notes + 1 =
    length-append notes (record { number = n; event = e } ∷ []) in
    record {
      known = known;
      lone = ap (λ (z : Sizes). z.passes) made.went.pass.sizes ∙ busy.lone;
      own = All-push (λ (x : Note). slice_get new.front x.number ≡ Some x.event) notes (record { number = n; event = e })
          (λ i d h. get_grows new.front old.front _ _ made.went.front (busy.own i d h)) made.happened;
      ordered = all_pairs_push (λ (x y : Note). x.number < y.number) notes (record { number = n; event = e }) busy.ordered
          (λ i d h. omega (arith, slice_get_within old.front _ _ (busy.own i d h), made.low));
      room = omega (arith, busy.room, longer, one);
      few = omega (arith, busy.few, longer, one);
      left = omega (arith, busy.left, made.spare, one);
    }

-- After the other pass's turn and a call of this one.

pub busy_silent : (old mid new : Sight) (notes : List Note) (capacity spare b a : ℕ) → IsBusy old notes capacity spare b → Went old mid b a
    → Saw mid new → IsKnown new → IsBusy new notes capacity spare a
busy_silent old mid new notes capacity spare b a busy went saw known =
    busy_saw mid new notes capacity spare a (busy_went old mid notes capacity spare b a busy went) saw known

pub busy_pushed : (old mid new : Sight) (notes items : List Note) (capacity room spare spare' b a n : ℕ) (e : Event)
    → IsBusy old notes capacity spare b → Went old mid b a → MadeEvent mid new n e → IsKnown new
    → items ≡ notes ++ record { number = n; event = e } ∷ [] → room ≡ capacity → spare ≡ spare' + 1
    → IsBusy new items room spare' a
busy_pushed old mid new notes items capacity room spare spare' b a n e busy went made known pushed same one =
    subst (λ (l : List Note). IsBusy new l room spare' a) (sym pushed)
    (subst (λ (r : ℕ). IsBusy new (notes ++ record { number = n; event = e } ∷ []) r spare' a) (sym same)
    (busy_made mid new notes capacity spare spare' a n e (busy_went old mid notes capacity spare b a busy went) made known one))

pub touch_made : (id : ℕ) (d : Direction) (segment : Segment) (moment : ℕ) (mid new : Sight) (n : ℕ) (before : Record) (later : Part)
    → Touches id d segment moment mid new n before → step_of before.part d segment moment ≡ Accept later
    → MadeEvent mid new n (Touch before.id d segment moment later)
touch_made id d segment moment mid new n before later says step =
    subst (λ i. MadeEvent mid new n (Touch i d segment moment later)) (sym (has_id_of id (after new.front n) before says.found.fact))
    (subst (λ (p : Part). MadeEvent mid new n (Touch id d segment moment p)) (accepted says.after later (sym says.step ∙ step)) says.made)

pub kill_made : (id : ℕ) (w : Why) (mid new : Sight) (n : ℕ) (subject : Record) → Destroys id w mid new n subject
    → MadeEvent mid new n (Destroy subject.id w)
kill_made id w mid new n subject says =
    subst (λ i. MadeEvent mid new n (Destroy i w)) (sym (has_id_of id (after new.front n) subject says.found.fact)) says.made

pub touched_went : (taken : ℕ) (place : ℕ) (old mid new : Sight) (notes items : List Note) (spare spare' b a : ℕ) (d : Direction) (segment : Segment)
    (moment n : ℕ) (before : Record) (later : Part) → Went old mid b a
    → Touches (held_id place mid.held) d segment moment mid new n before → step_of before.part d segment moment ≡ Accept later
    → items ≡ notes ++ record { number = n; event = Touch before.id d segment moment later } ∷ [] → spare ≡ spare' + 1
    → Touches (held_id place old.held) d segment moment (seen_by taken old notes spare) (seen_by taken new items spare') n before
touched_went taken place old mid new notes items spare spare' b a d segment moment n before later went says step pushed one =
    let named : before.id ≡ held_id place mid.held = has_id_of (held_id place mid.held) (after new.front n) before says.found.fact in
    subst (λ i. Touches i d segment moment (seen_by taken old notes spare) (seen_by taken new items spare') n before)
    (named ∙ ap (held_id place) went.held)
    (record {
      after = later;
      made = event_went taken old mid new notes items spare spare' b a n (Touch before.id d segment moment later) went
          (touch_made (held_id place mid.held) d segment moment mid new n before later says step) pushed one;
      found = subst (λ i. At new.front n (IsRecord i before)) (sym named) says.found;
      step = step;
      same = record { held = says.same.held ∙ went.held; owed = says.same.owed ∙ went.owed };
    })

pub killed_went : (taken : ℕ) (place : ℕ) (old mid new : Sight) (notes items : List Note) (spare spare' b a : ℕ) (w : Why) (n : ℕ)
    (subject : Record) → Went old mid b a → Destroys (held_id place mid.held) w mid new n subject
    → items ≡ notes ++ record { number = n; event = Destroy subject.id w } ∷ [] → spare ≡ spare' + 1
    → Destroys (held_id place old.held) w (seen_by taken old notes spare) (seen_by taken new items spare') n subject
killed_went taken place old mid new notes items spare spare' b a w n subject went says pushed one =
    let named : subject.id ≡ held_id place mid.held = has_id_of (held_id place mid.held) (after new.front n) subject says.found.fact in
    subst (λ i. Destroys i w (seen_by taken old notes spare) (seen_by taken new items spare') n subject)
    (named ∙ ap (held_id place) went.held)
    (record {
      made = event_went taken old mid new notes items spare spare' b a n (Destroy subject.id w) went
          (kill_made (held_id place mid.held) w mid new n subject says) pushed one;
      found = subst (λ i. At new.front n (IsRecord i subject)) (sym named) says.found;
      reason = says.reason;
      same = record { held = says.same.held ∙ went.held; owed = says.same.owed ∙ went.owed };
    })

-- an event of this pass after the other's turn
pub made_went : (taken : ℕ) (old mid new : Sight) (notes items : List Note) (spare spare' b a n : ℕ) (e : Event) → Went old mid b a
    → MadeEvent mid new n e → SamePlaces mid new
    → items ≡ notes ++ record { number = n; event = e } ∷ [] → spare ≡ spare' + 1
    → MadeEvent (seen_by taken old notes spare) (seen_by taken new items spare') n e × SamePlaces (seen_by taken old notes spare) (seen_by taken new items spare')
made_went taken old mid new notes items spare spare' b a n e went event same pushed one = (
  event_went taken old mid new notes items spare spare' b a n e went event pushed one,
  record { held = same.held ∙ went.held; owed = same.owed ∙ went.owed },
)

-- the id of what was read is that for which the place is held
pub read_id : (place : ℕ) (mid seen : Sight) (subject : Record) (at : ℕ) → PeekSays place mid seen (peek.Seen subject at)
    → held_id place seen.held ≡ subject.id
read_id place mid seen subject at says =
    ap (held_id place) says.1.held
    ∙ sym (has_id_of (held_id place mid.held) (after seen.front at) subject says.0.fact.fact)

-- and it was confirmed in the zone of what was read
pub read_zone : EntriesKeepTheirZone → (place : ℕ) (mid seen : Sight) (subject : Record) (at : ℕ) → IsKnown seen
    → PeekSays place mid seen (peek.Seen subject at) → zone_of_entry (held_id place seen.held) seen.front ≡ subject.original.zone
read_zone keep place mid seen subject at known says =
    ap (λ (held : List Hold). zone_of_entry (held_id place held) seen.front) says.1.held
    ∙ keep seen.sizes seen.front at (held_id place mid.held) subject known.legal says.0.fact.fact

pub expect_made : EntriesKeepTheirZone → (place : ℕ) (want : Want) (moment : ℕ) (mid seen new : Sight) (subject : Record) (at id : ℕ) (replaced : Option ℕ)
    → IsKnown seen → PeekSays place mid seen (peek.Seen subject at) → ExpectSays place want moment seen new (expect.Expected id replaced)
    → MadeEvent seen new id (Expect (expectation_at id subject.id subject.original.zone want moment) replaced moment)
expect_made keep place want moment mid seen new subject at id replaced known read says =
    subst (λ m. MadeEvent seen new id (Expect (expectation_at id m subject.original.zone want moment) replaced moment))
    (read_id place mid seen subject at read)
    (subst (λ z. MadeEvent seen new id (Expect (expectation_at id (held_id place seen.held) z want moment) replaced moment))
    (read_zone keep place mid seen subject at known read) says.0)

-- the note of what is expected
pub expect_noted : (items notes : List Note) (id : ℕ) (noted e : Expectation) (replaced : Option ℕ) (moment : ℕ)
    → items ≡ notes ++ record { number = id; event = Expect noted replaced moment } ∷ [] → noted ≡ e
    → items ≡ notes ++ record { number = id; event = Expect e replaced moment } ∷ []
expect_noted items notes id noted e replaced moment pushed same =
    pushed ∙ ap (λ (x : Expectation). notes ++ record { number = id; event = Expect x replaced moment } ∷ []) same

-- an entry that has the helper is in its zone when the history goes on
zone_grows : (id : ℕ) (log front : List Event) → StartsWith log front → is_helped_entry id front ≡ true → zone_of_entry id log ≡ zone_of_entry id front
zone_grows id log front start helped = by_event (slice_get front id) refl helped
  where
    by_event : (o : Option Event) → slice_get front id ≡ o → has_helper (confirmed_by o) ≡ true → zone_of_entry id log ≡ zone_of_entry id front
    by_event None same helped = cc
    by_event (Some e) same helped =
        ap (λ (x : Option Event). zone_of (confirmed_by x)) (get_grows log front id e start same ∙ sym same)

-- of the entry for which the place is held this is so after the other's turn and a look
pub still_zoned : (place : ℕ) (old mid seen : Sight) (b a : ℕ) → Went old mid b a → Saw mid seen → SamePlaces mid seen
    → is_helped_entry (held_id place old.held) old.front ≡ true
    → zone_of_entry (held_id place seen.held) seen.front ≡ zone_of_entry (held_id place old.held) old.front
still_zoned place old mid seen b a went saw same helped =
    ap (λ (held : List Hold). zone_of_entry (held_id place held) seen.front) (same.held ∙ went.held)
    ∙ zone_grows (held_id place old.held) seen.front old.front (starts_trans seen.front mid.front old.front saw.went.front went.front) helped

-- it was not added, in the zone that the desk knew
pub refused_went : (taken place : ℕ) (want : Want) (moment : ℕ) (outcome : AddOutcome) (old mid seen new : Sight) (notes : List Note) (spare b a at : ℕ)
    → Went old mid b a → Saw mid seen → SamePlaces mid seen → IsKnown seen → is_helped_entry (held_id place old.held) old.front ≡ true
    → AddsNothing (held_id place seen.held) want moment outcome seen new at
    → AddsNothing (held_id place old.held) want moment outcome (seen_by taken old notes spare) (seen_by taken new notes spare) at
refused_went taken place want moment outcome old mid seen new notes spare b a at went saw same known helped (looked, places) =
    let later : Went old seen b a = went_then old mid seen b a went saw same known in
    let named : held_id place seen.held ≡ held_id place old.held = ap (held_id place) (same.held ∙ went.held) in
    let zoned = still_zoned place old mid seen b a went saw same helped in (
      record {
        saw = saw_went taken old seen new notes spare b a later looked.saw;
        low = omega (arith, looked.low, starts_longer seen.front old.front later.front);
        fact =
            subst (λ m. At new.front at (AddGives new.sizes.expectations at m (zone_of_entry (held_id place old.held) old.front) want moment outcome)) named
            (subst (λ z. At new.front at (AddGives new.sizes.expectations at (held_id place seen.held) z want moment outcome)) zoned looked.fact);
      },
      record { held = places.held ∙ later.held; owed = places.owed ∙ later.owed },
    )

pub expected_went : EntriesKeepTheirZone → (taken : ℕ) (place : ℕ) (want : Want) (moment : ℕ) (old mid seen new : Sight) (notes items : List Note) (spare spare' b a : ℕ)
    (subject : Record) (at id : ℕ) (replaced : Option ℕ) → Went old mid b a → IsKnown seen
    → PeekSays place mid seen (peek.Seen subject at) → ExpectSays place want moment seen new (expect.Expected id replaced)
    → is_helped_entry (held_id place old.held) old.front ≡ true
    → items ≡ notes ++ record { number = id; event = Expect (expectation_at id subject.id subject.original.zone want moment) replaced moment } ∷ []
    → spare ≡ spare' + 1
    → MakesExpect (held_id place old.held) want moment (seen_by taken old notes spare) (seen_by taken new items spare') id replaced
expected_went keep taken place want moment old mid seen new notes items spare spare' b a subject at id replaced went known read says helped pushed one =
    let named : subject.id ≡ held_id place old.held =
    sym (read_id place mid seen subject at read) ∙ ap (held_id place) (read.1.held ∙ went.held) in
    let zoned : subject.original.zone ≡ zone_of_entry (held_id place old.held) old.front =
    sym (read_zone keep place mid seen subject at known read) ∙ still_zoned place old mid seen b a went read.0.saw read.1 helped in
    subst (λ m. MadeEvent (seen_by taken old notes spare) (seen_by taken new items spare') id
    (Expect (expectation_at id m (zone_of_entry (held_id place old.held) old.front) want moment) replaced moment)
    × SamePlaces (seen_by taken old notes spare) (seen_by taken new items spare')) named
    (subst (λ z. MadeEvent (seen_by taken old notes spare) (seen_by taken new items spare') id
    (Expect (expectation_at id subject.id z want moment) replaced moment)
    × SamePlaces (seen_by taken old notes spare) (seen_by taken new items spare')) zoned
    (made_went taken old seen new notes items spare spare' b a id (Expect (expectation_at id subject.id subject.original.zone want moment) replaced moment)
    (went_then old mid seen b a went read.0.saw read.1 known)
    (expect_made keep place want moment mid seen new subject at id replaced known read says) says.1 pushed one))

-- an entry that has the helper is one that has it when the history goes on
helped_grows : (id : ℕ) (log front : List Event) → StartsWith log front → is_helped_entry id front ≡ true → is_helped_entry id log ≡ true
helped_grows id log front start helped = by_event (slice_get front id) refl helped
  where
    by_event : (o : Option Event) → slice_get front id ≡ o → has_helper (confirmed_by o) ≡ true → is_helped_entry id log ≡ true
    by_event None same helped = cc
    by_event (Some e) same helped = ap (λ (x : Option Event). has_helper (confirmed_by x)) (get_grows log front id e start same) ∙ helped

pub still_helped : (place : ℕ) (old mid seen : Sight) (b a : ℕ) → Went old mid b a → Saw mid seen → SamePlaces mid seen
    → is_helped_entry (held_id place old.held) old.front ≡ true → is_helped_entry (held_id place seen.held) seen.front ≡ true
still_helped place old mid seen b a went saw same helped =
    subst (λ (held : List Hold). is_helped_entry (held_id place held) seen.front ≡ true) (sym (same.held ∙ went.held))
    (helped_grows (held_id place old.held) seen.front old.front (starts_trans seen.front mid.front old.front saw.went.front went.front) helped)

pub one_less : (seen : Sight) (spare : ℕ) → spare ≡ seen.spare → 1 ≤ seen.spare → spare ≡ (spare - 1) + 1
one_less seen spare same some = omega (arith, same, some)

-- A call that makes no event of this pass.

pub find_saw : (t : Tuple) (old new : Sight) (r : FindOutcome) → FindSays t old new r → Saw old new
find_saw t old new (find.Found place id d at) says = says.0.saw
find_saw t old new (find.Absent at) says = says.0.saw

pub peek_saw : (place : ℕ) (old new : Sight) (r : PeekOutcome) → PeekSays place old new r → Saw old new
peek_saw place old new (peek.Seen subject at) says = says.0.saw
peek_saw place old new (peek.Gone at) says = says.0.saw

pub hold_saw : (place : ℕ) (old new : Sight) (r : HoldOutcome) → HoldSays place old new r → Saw old new
hold_saw place old new (hold.Held id at) says = says.0.saw
hold_saw place old new (hold.Empty at) says = says.0.saw

pub release_saw : (place : ℕ) (old new : Sight) (r : ReleaseOutcome) → ReleaseSays place old new r → Saw old new
release_saw place old new release.Kept says = says.saw
release_saw place old new release.Last says = says.saw

-- what this pass knows after such a call
pub known_saw : (taken : ℕ) (old new : Sight) (notes : List Note) (capacity spare a : ℕ) → IsBusy old notes capacity spare a → Saw old new
    → IsKnown new → IsKnown (seen_by taken new notes spare)
known_saw taken old new notes capacity spare a busy saw known =
    known_seen taken new notes capacity spare a (busy_saw old new notes capacity spare a busy saw known)
