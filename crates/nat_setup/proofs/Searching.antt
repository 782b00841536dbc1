-- A search goes on: what was taken stays so.
use Rattle.std.proofs.Common.{◌≡◌, ℕ, ◌+◌, ◌≤◌, Bool, true, false, List, length, Some, None, refl, ap, subst, sym, ◌∙◌, length-append, arith, ⊎_elim}
use Rattle.std.proofs.lemmas.Bool.{cases_eq, cases_lt}
use Rattle.tuple_core.specs.declared.Tuple.{Tuple}
use Rattle.tuple_core.specs.declared.Direction.{Direction}
use Rattle.history_book.specs.Desk.{IsLiveUnder, SamePlaces}
use Rattle.history_book.specs.declared.event.Event.{Event}
use Rattle.history_book.specs.Laws.{StatesStay}
use Rattle.history_book.specs.Point.{At, StartsWith}
use Rattle.history_book.specs.Sight.{Sight}
use Rattle.history_book.specs.State.{Found, State, is_free, live_under}
use Rattle.history_book.specs.StateLaws.{FreeIsAbsent}
use Rattle.history_book.specs.SightLaws.{SeeingAddsUp}
use Rattle.history_book.specs.WentOn.{Looked, Saw}
use Rattle.nat_setup.specs.declared.rule.Rule.{Rule}
use Rattle.nat_setup.specs.declared.search.Search.{Search}
use Rattle.nat_setup.specs.declared.search.Search.TheVariants as search
use Rattle.nat_setup.specs.declared.search.Stretch.{Stretch}
use Rattle.nat_setup.specs.Internal.Search.{IsSearching, SearchSays}
use Rattle.nat_setup.specs.Reply.{reply_with}
use Rattle.nat_setup.specs.Translation.{AtSomePoint, IsTaken}

-- a fact at a point stays as the history goes on
pub at_grows : StatesStay → (longer log : List Event) (p : ℕ) (F : State → Type 0) → StartsWith longer log
    → At log p F → At longer p F
at_grows stay longer log p F starts fact =
    let same = stay longer log p starts fact.within in
    record { within = same.0; fact = subst F (sym same.1) fact.fact }

pub starts_longer : (b a : List Event) → StartsWith b a → length a ≤ length b
starts_longer b a (r, e) = omega (arith, ap length e, length-append a r)

pub same_trans : (a b c : Sight) → SamePlaces a b → SamePlaces b c → SamePlaces a c
same_trans a b c f g = record { held = g.held ∙ f.held; owed = g.owed ∙ f.owed }

looked_so : (old new : Sight) (at : ℕ) (F G : State → Type 0) → ((s : State) → F s → G s) → Looked old new at F → Looked old new at G
looked_so old new at F G so looked = record {
  saw = looked.saw;
  low = looked.low;
  fact = record { within = looked.fact.within; fact = so _ looked.fact.fact };
}

-- nothing was live under the tuple: it was free
pub looked_free : FreeIsAbsent → (old new : Sight) (t : Tuple) (at : ℕ) → Looked old new at (λ s. live_under t s ≡ None)
    → Looked old new at (λ s. is_free t s ≡ true)
looked_free law old new t at looked = looked_so old new at (λ s. live_under t s ≡ None) (λ s. is_free t s ≡ true) (λ s. (law t s).0) looked

live_is_taken : FreeIsAbsent → (t : Tuple) (s : State) (f : Found) (free : Bool) → is_free t s ≡ free → live_under t s ≡ Some f → free ≡ false
live_is_taken law t s f false is live = refl
live_is_taken law t s f true is live = let none = (law t s).1 is in absurd (cc)

-- an entry was live under the tuple when it was found, and then its place was given up
pub looked_taken : FreeIsAbsent → StatesStay → SeeingAddsUp → (old mid new : Sight) (t : Tuple) (place id at : ℕ) (d : Direction) → Looked old mid at (IsLiveUnder t place id d)
    → Saw mid new → Looked old new at (IsTaken t)
looked_taken law stay twice old mid new t place id at d looked saw = looked_so old new at (IsLiveUnder t place id d) (IsTaken t)
    (λ s live. live_is_taken law t s _ (is_free t s) refl live.live) (record {
      saw = twice old mid new looked.saw saw;
      low = looked.low;
      fact = at_grows stay new.front mid.front at (IsLiveUnder t place id d) saw.went.front looked.fact;
    })

module _ (stay : StatesStay) (twice : SeeingAddsUp) where
  -- what was so between two points was so when more is known, and the last point is later
  pub some_point_grows : (longer log : List Event) (from to later : ℕ) (F : State → Type 0) → StartsWith longer log → to ≤ later
      → AtSomePoint log from to F → AtSomePoint longer from later F
  some_point_grows longer log from to later F starts le b = record {
    point = b.point;
    low = b.low;
    high = omega (arith, b.high, le);
    fact = at_grows stay longer log b.point F starts b.fact;
  }

  -- one number more was taken
  pub goes_on : (rule : Rule) (t reply : Tuple) (stretch : Stretch) (old mid new : Sight) (to at : ℕ)
      → IsSearching rule t stretch old mid to → SamePlaces mid new → reply ≡ reply_with rule t stretch.end
      → Looked mid new at (IsTaken reply) → IsSearching rule t (record stretch { end = stretch.end + 1 }) old new at
  goes_on rule t reply stretch old mid new to at is same gives looked = record {
    saw = twice old mid new is.saw looked.saw;
    same = same_trans old mid new is.same same;
    ordered = omega (arith, is.ordered, is.seen, looked.low);
    later = omega (arith, is.later, is.seen, looked.low);
    seen = looked.fact.within;
    taken = λ n low high untried. ⊎_elim
        (λ e. subst (λ m. AtSomePoint new.front stretch.from at (IsTaken (reply_with rule t m))) (sym e)
        (subst (λ u. AtSomePoint new.front stretch.from at (IsTaken u)) gives (record {
          point = at;
          low = omega (arith, is.ordered, is.seen, looked.low);
          high = omega arith;
          fact = looked.fact;
        })))
        (λ other. some_point_grows new.front mid.front stretch.from to at (IsTaken (reply_with rule t n)) looked.saw.went.front
        (omega (arith, is.seen, looked.low)) (is.taken n low (omega (arith, high, other)) untried))
        (cases_eq n stretch.end);
  }

-- two searches, the second one below the first, are one
pub both : StatesStay → SeeingAddsUp → (rule : Rule) (t : Tuple) (stretch : Stretch) (old mid new : Sight) (middle to : ℕ) (result : Search)
    → stretch.lowest ≤ middle → middle ≤ stretch.end → IsSearching rule t (record stretch { lowest = middle }) old mid to
    → Saw mid new → SamePlaces mid new → SearchSays rule t (record stretch { end = middle; since = to }) mid new result
    → SearchSays rule t stretch old new result
both stay twice rule t stretch old mid new middle to (search.Found reply at) above up is saw same f = record {
  number = f.number;
  low = f.low;
  high = omega (arith, f.high, up);
  other = f.other;
  gives = f.gives;
  valid = f.valid;
  later = omega (arith, f.later, starts_longer mid.front old.front is.saw.went.front);
  free = f.free;
}
both stay twice rule t stretch old mid new middle to (search.AllTaken later) above up is saw same f = record {
  saw = twice old mid new is.saw saw;
  same = same_trans old mid new is.same same;
  ordered = f.ordered;
  later = omega (arith, is.later, f.later);
  seen = f.seen;
  taken = λ n low high untried. ⊎_elim
      (λ below. f.taken n low below untried)
      (λ past. some_point_grows stay twice new.front mid.front stretch.from to later (IsTaken (reply_with rule t n)) saw.went.front f.later
      (is.taken n past high untried))
      (cases_lt n middle);
}
