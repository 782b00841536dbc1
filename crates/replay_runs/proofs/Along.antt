-- What threads tell a listener, one after the other.
use Rattle.std.proofs.Common.{◌≡◌, ℕ, zero, suc, ◌+◌, ◌<◌, ◌≤◌, List, [], ◌∷◌, ◌++◌, length, map, refl, sym, ap, subst, ◌∙◌, arith, append_assoc, length-append}
use Rattle.std.specs.Prelude.{All, None, Ok, OnOk, Option, option_map, Some}
use Rattle.std.specs.List.{AllZip, flat_map}
use Rattle.std.specs.Borrow.{Bor}
use Rattle.std.proofs.lemmas.List.{append-nil}
use Rattle.atomic_table.specs.Seated.{TableId}
use Rattle.event_listen.specs.declared.sending.Pumped.{Pumped}
use Rattle.event_listen.specs.declared.sending.Pumped.TheVariants as pumped
use Rattle.event_listen.specs.Line.{IsSendingOf, LineSight, SendingSight}
use Rattle.event_listen.specs.Pump.{BeginsWith, PumpSays}
use Rattle.history_book.specs.declared.event.Note.{Note}
use Rattle.replay_runs.specs.Internal.Telling.{Between, HasTold, IsAlong, IsNew, line_now}

-- an end that was pumped has told
pub told_by_pump : (own : List Note) (line : LineSight) (old new : SendingSight) (answer : Pumped) → IsAlong own line old → PumpSays own old new answer
    → HasTold own line new
told_by_pump own line old new pumped.All along says =
    subst (HasTold own line) (sym says) (record {
      of = record { queue = along.of.queue; capacity = along.of.capacity };
      first = ([], sym (append-nil own));
      enough = omega arith;
    })
told_by_pump own line old new pumped.Full along says = record {
  of = subst (IsSendingOf line) (sym says.end) (record { queue = along.of.queue; capacity = along.of.capacity });
  first = says.next;
  enough = omega (arith, says.full, along.of.capacity);
}

-- it sends to the same queue
pub queue_by_pump : (own : List Note) (old new : SendingSight) (answer : Pumped) → PumpSays own old new answer → new.queue ≡ old.queue
queue_by_pump own old new pumped.All says = ap (λ (s : SendingSight). s.queue) says
queue_by_pump own old new pumped.Full says = ap (λ (s : SendingSight). s.queue) says.end

-- what follows of an end that is there
pub between_so : (P Q : LineSight → SendingSight → Type 0) → ((l : LineSight) (s : SendingSight) → P l s → Q l s) → (line : Option LineSight)
    (end : Option SendingSight) → Between P line end → Between Q line end
between_so P Q so None None h = tt
between_so P Q so None (Some s) h = absurd h
between_so P Q so (Some l) None h = absurd h
between_so P Q so (Some l) (Some s) h = so l s h

-- what has told of a thread's events is along when that makes more
pub along_more : (own more made : List Note) → more ≡ own ++ made → (line : Option LineSight) (end : Option SendingSight)
    → Between (HasTold own) line end → Between (IsAlong more) line end
along_more own more made goes line end =
    between_so (HasTold own) (IsAlong more) (λ l s told. record {
      of = told.of;
      first = (told.first.0 ++ made, goes ∙ ap (λ xs. xs ++ made) told.first.1 ∙ append_assoc s.sent told.first.0 made);
    }) line end

-- an end that has sent nothing has told of no event
pub told_nothing : (own : List Note) → own ≡ [] → (line : Option LineSight) (end : Option SendingSight) → Between IsNew line end
    → Between (HasTold own) line end
told_nothing own none line end =
    between_so IsNew (HasTold own) (λ l s new. record {
      of = new.of;
      first = (own, ap (λ xs. xs ++ own) (sym new.none));
      enough = omega (arith, ap length none);
    }) line end

-- where there is no line, a thread without an end has told
pub no_line : (P : LineSight → SendingSight → Type 0) (lent : Option (Bor LineSight)) (end : Option SendingSight) → lent ≡ None → end ≡ None
    → Between P (line_now lent) end
no_line P lent end none given =
    subst (λ (l : Option (Bor LineSight)). Between P (line_now l) end) (sym none)
    (subst (λ (e : Option SendingSight). Between P None e) (sym given) tt)
