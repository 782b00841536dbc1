-- What a desk knows, one step after the other.
use Rattle.std.proofs.Common.{ℕ, List, [], ◌∷◌, ◌++◌, refl, sym, ap, ◌∙◌, arith, append_assoc, append-nil, length-append}
use Rattle.history_book.specs.declared.event.Event.{Event}
use Rattle.history_book.specs.declared.event.Note.{Note}
use Rattle.history_book.specs.Sight.{Sight}
use Rattle.history_book.specs.WentOn.{IsSamePass, MadeEvent, Saw, WentOn}
use Rattle.history_book.proofs.Points.{get_grows, length_grows, starts_refl, starts_trans}

same_pass : (a b c : Sight) → IsSamePass a b → IsSamePass b c → IsSamePass a c
same_pass a b c first then = record {
  tracker = then.tracker ∙ first.tracker;
  sizes = then.sizes ∙ first.sizes;
  shares = then.shares ∙ first.shares;
  returned = then.returned ∙ first.returned;
  gathered = then.gathered ∙ first.gathered;
}

pub went_on_twice : (a b c : Sight) (first then : List Note) → WentOn a b first → WentOn b c then → WentOn a c (first ++ then)
went_on_twice a b c first then one two = record {
  front = starts_trans c.front b.front a.front two.front one.front;
  own = two.own ∙ ap (λ l. l ++ then) one.own ∙ append_assoc a.own first then;
  spare = omega (arith, one.spare, two.spare, length-append first then);
  pass = same_pass a b c one.pass two.pass;
}

-- no event before some, and none after some
pub after_none : (a b c : Sight) (made : List Note) → Saw a b → WentOn b c made → WentOn a c made
after_none a b c made saw went = went_on_twice a b c [] made saw.went went

pub before_none : (a b c : Sight) (made : List Note) → WentOn a b made → Saw b c → WentOn a c made
before_none a b c made went saw =
    let both : WentOn a c (made ++ []) = went_on_twice a b c made [] went saw.went in
    record {
      front = both.front;
      own = both.own ∙ ap (λ l. a.own ++ l) (append-nil made);
      spare = omega (arith, both.spare, length-append made []);
      pass = both.pass;
    }

pub saw_twice : (a b c : Sight) → Saw a b → Saw b c → Saw a c
saw_twice a b c one two = record {
  went = after_none a b c [] one two.went;
  spare = two.spare ∙ one.spare;
  taken = two.taken ∙ one.taken;
}

pub saw_then_made : (a b c : Sight) (n : ℕ) (e : Event) → Saw a b → MadeEvent b c n e → MadeEvent a c n e
saw_then_made a b c n e saw made = record {
  went = after_none a b c (record { number = n; event = e } ∷ []) saw made.went;
  spare = omega (arith, saw.spare, made.spare);
  low = omega (arith, length_grows b.front a.front saw.went.front, made.low);
  high = made.high;
  happened = made.happened;
  taken = made.taken ∙ saw.taken;
}

pub made_then_saw : (a b c : Sight) (n : ℕ) (e : Event) → MadeEvent a b n e → Saw b c → MadeEvent a c n e
made_then_saw a b c n e made saw = record {
  went = before_none a b c (record { number = n; event = e } ∷ []) made.went saw;
  spare = omega (arith, saw.spare, made.spare);
  low = made.low;
  high = omega (arith, made.high, length_grows c.front b.front saw.went.front);
  happened = get_grows c.front b.front n e saw.went.front made.happened;
  taken = saw.taken ∙ made.taken;
}

pub resting : (s : Sight) → Saw s s
resting s = record {
  went = record {
    front = starts_refl s.front;
    own = sym (append-nil s.own);
    spare = omega arith;
    pass = record { tracker = refl; sizes = refl; shares = refl; returned = refl; gathered = refl };
  };
  spare = refl;
  taken = refl;
}
