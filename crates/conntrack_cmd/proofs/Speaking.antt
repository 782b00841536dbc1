-- What is said to a command, from what the desk answered.
use Rattle.std.proofs.Common.{◌≡◌, ℕ, [], refl, sym, subst, Some, arith}
use Rattle.tuple_core.specs.declared.Direction.{Direction}
use Rattle.tuple_core.specs.declared.Tuple.{Tuple}
use Rattle.history_book.specs.declared.answer.Said.{Said}
use Rattle.history_book.specs.declared.answer.Said.TheVariants as said
use Rattle.history_book.specs.declared.record.Record.{Record}
use Rattle.history_book.specs.Desk.{IsLiveUnder, IsRecord}
use Rattle.history_book.specs.SightLaws.{GoingOnAddsUp}
use Rattle.history_book.specs.WentOn.{Looked, Saw}
use Rattle.history_book.specs.History.{after}
use Rattle.history_book.specs.Laws.{FoundAreFoundAgain, StatesStay}
use Rattle.history_book.specs.Places.{HoldsNothing}
use Rattle.history_book.specs.Point.{At, StartsWith}
use Rattle.history_book.specs.Sight.{IsKnown, Sight}
use Rattle.history_book.specs.State.{State, live_under, record_of}
use Rattle.conntrack_cmd.specs.declared.command.Command.{Command}
use Rattle.conntrack_cmd.specs.declared.command.Command.TheVariants as command
use Rattle.conntrack_cmd.specs.Answer.{FitsCommandFrom}
use Rattle.conntrack_cmd.specs.Internal.Spoken.{Speaks}
use Rattle.conntrack_cmd.proofs.Growth.{at_grows}
use Rattle.conntrack_cmd.proofs.Fronts.{starts_longer, starts_trans}

-- one answer of the desk, at whose point this was so
pub one_look : (asked : Command) (said : Said) (old new : Sight) (at : ℕ) (F : State → Type 0) → Looked old new at F → HoldsNothing new
    → FitsCommandFrom new.front asked [] said at at → Speaks asked old new (record { said = said; from = at; to = at })
one_look asked said old new at F looked empty fits = record {
  own = [];
  went = looked.saw.went;
  few = omega arith;
  fits = record { later = looked.low; order = omega arith; within = looked.fact.within; events = tt; fits = fits };
  taken = looked.saw.taken;
  empty = empty;
}

-- what was live under the tuple when it was found is so where it is read
pub present : GoingOnAddsUp → StatesStay → FoundAreFoundAgain → (old mid then new : Sight) (t : Tuple) (place id at seen : ℕ) (d : Direction) (r : Record)
    → IsKnown new → Looked old mid at (IsLiveUnder t place id d) → Looked mid then seen (IsRecord id r) → Saw then new → HoldsNothing new
    → Speaks (command.Get t) old new (record { said = said.Got (Some (record { subject = r; at = seen })); from = seen; to = seen })
present going states again old mid then new t place id at seen d r known found read saw empty =
    let starts : StartsWith new.front mid.front = starts_trans new.front then.front mid.front saw.went.front read.saw.went.front in
    let was : At new.front at (IsLiveUnder t place id d) = at_grows states new.front mid.front at (IsLiveUnder t place id d) starts found.fact in
    let is : At new.front seen (IsRecord id r) = at_grows states new.front then.front seen (IsRecord id r) saw.went.front read.fact in
    let live : live_under t (after new.front seen) ≡ Some (record { subject = r; direction = d }) =
    again new.sizes new.front at seen t (record { subject = was.fact.subject; direction = d }) r known.legal was.fact.live
    (subst (λ i. record_of i (after new.front seen) ≡ Some r) (sym was.fact.named) is.fact) in
    one_look (command.Get t) (said.Got (Some (record { subject = r; at = seen }))) old new seen (IsRecord id r)
    (record {
      saw = going.seen old mid new found.saw (going.seen mid then new read.saw saw);
      low = omega (arith, starts_longer mid.front old.front found.saw.went.front, read.low);
      fact = is;
    })
    empty
    (record {
      row = Some (record { subject = r; at = seen });
      is = refl;
      no_event = refl;
      one = refl;
      found = record { within = is.within; fact = (record { subject = r; direction = d }, live, refl, refl) };
    })
