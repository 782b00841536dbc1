-- A clerk whose entry expects a connection, or is refused.
use Rattle.std.specs.Prelude.{◌^◌}
use Rattle.std.proofs.Common.{◌≡◌, ℕ, ◌≤◌, true, Option, None, map, sym, ap, subst, arith}
use Rattle.room_list.specs.Roomed.{Roomed}
use Rattle.expect_table.specs.declared.expectation.Want.{Want}
use Rattle.expect_table.specs.declared.table.AddOutcome.{AddOutcome}
use Rattle.expect_table.specs.declared.table.AddOutcome.TheVariants as add
use Rattle.history_book.specs.DeskExpectations.{AddGives, AddsNothing, ExpectSays, MakesExpect, expectation_at}
use Rattle.history_book.specs.Desk.{SamePlaces}
use Rattle.history_book.specs.Entry.{is_helped_entry, zone_of_entry}
use Rattle.history_book.specs.Held.{held_id, is_held_for_entry}
use Rattle.history_book.specs.State.{record_of}
use Rattle.history_book.specs.WentOn.{Looked}
use Rattle.history_book.specs.declared.event.Event.TheVariants.{Expect}
use Rattle.history_book.specs.declared.event.Note.{Note}
use Rattle.history_book.specs.declared.outcome.ExpectOutcome.{ExpectOutcome}
use Rattle.history_book.specs.declared.outcome.ExpectOutcome.TheVariants as expect
use Rattle.history_book.specs.declared.sizes.Sizes.{Sizes}
use Rattle.track_rule.specs.Sights.{PassSight, sizes_of}
use Rattle.shared_desk.specs.Expecting.{Expects, IsRefused, SuitsExpect}
use Rattle.shared_desk.specs.Noting.{room_after, with_note}
use Rattle.shared_desk.specs.Rest.{IsAtRest}
use Rattle.shared_desk.specs.Sights.{hold_of, sight_of}
use Rattle.shared_desk.specs.Touching.{IsLeft, IsNotLive, Notes}
use Rattle.shared_desk.proofs.Noted.{looks_left, rest_left, rest_made, says_made}
use Rattle.shared_desk.proofs.Peeking.{kept}
use Rattle.shared_desk.proofs.Resting.{clerk_at, then_of}

module _ (v : PassSight) (notes : Roomed Note) (spare place : ℕ) (h : IsAtRest v notes spare)
    (held : is_held_for_entry place (map hold_of v.view.places.held) ≡ true) (room : 1 ≤ spare) where
  pub suits_expect : (moment : ℕ) → is_helped_entry (held_id place (map hold_of v.view.places.held)) v.view.seen.front ≡ true → moment ≤ 10 ^ 16
      → SuitsExpect place moment v
  suits_expect moment helped timely = record {
    id = held_id place (map hold_of v.view.places.held);
    kept = kept v notes spare place h held;
    helped = helped;
    timely = timely;
    few = omega (arith, room, h.knows.spared);
  }

  module _ (want : Want) (moment : ℕ) (w : PassSight) (made : Option Note) (is : Notes made v.view.seen.own w.view.seen.own) where
    pub rest_expecting : (o : ExpectOutcome) → Expects place want moment o v w → IsAtRest w (with_note made notes) (room_after made spare)
    rest_expecting (expect.Expected id replaced) e =
        rest_made v notes spare h room id (Expect (expectation_at id e.master (zone_of_entry e.master v.view.seen.front) want moment) replaced moment) w e.made made is
    rest_expecting (expect.MasterGone at) l = rest_left v notes spare place h held at IsNotLive w l made is
    rest_expecting (expect.Clash id at) l =
        rest_left v notes spare place h held at (IsRefused (sizes_of v).expectations at v.view.seen.front want moment (add.Clash id)) w l made is
    rest_expecting (expect.ExpectFull at) l =
        rest_left v notes spare place h held at (IsRefused (sizes_of v).expectations at v.view.seen.front want moment add.Full) w l made is

    refused_says : (o : AddOutcome) (at : ℕ) → IsLeft place at (IsRefused (sizes_of v).expectations at v.view.seen.front want moment o) v w
        → AddsNothing (held_id place (map hold_of v.view.places.held)) want moment o (sight_of (clerk_at v spare)) (then_of v (clerk_at w (room_after made spare))) at
    refused_says o at l =
        subst (λ (z : Sizes). Looked (sight_of (clerk_at v spare)) (then_of v (clerk_at w (room_after made spare))) at
        (AddGives z.expectations at (held_id place (map hold_of v.view.places.held))
        (zone_of_entry (held_id place (map hold_of v.view.places.held)) v.view.seen.front) want moment o)
        × SamePlaces (sight_of (clerk_at v spare)) (then_of v (clerk_at w (room_after made spare)))) (sym (ap sizes_of l.same))
        (looks_left v notes spare place h held at (IsRefused (sizes_of v).expectations at v.view.seen.front want moment o) w l made is
        (AddGives (sizes_of v).expectations at (held_id place (map hold_of v.view.places.held))
        (zone_of_entry (held_id place (map hold_of v.view.places.held)) v.view.seen.front) want moment o) (λ fact. fact))

    pub says_expecting : (o : ExpectOutcome) → Expects place want moment o v w
        → ExpectSays place want moment (sight_of (clerk_at v spare)) (then_of v (clerk_at w (room_after made spare))) o
    says_expecting (expect.Expected id replaced) e =
        subst (λ (master : ℕ). MakesExpect master want moment (sight_of (clerk_at v spare)) (then_of v (clerk_at w (room_after made spare))) id replaced)
        (sym (e.its (held_id place (map hold_of v.view.places.held)) (kept v notes spare place h held)))
        (says_made v notes spare h room id (Expect (expectation_at id e.master (zone_of_entry e.master v.view.seen.front) want moment) replaced moment) w e.made made is)
    says_expecting (expect.MasterGone at) l =
        looks_left v notes spare place h held at IsNotLive w l made is (λ s. record_of (held_id place (map hold_of v.view.places.held)) s ≡ None) (λ fact. fact)
    says_expecting (expect.Clash id at) l = refused_says (add.Clash id) at l
    says_expecting (expect.ExpectFull at) l = refused_says add.Full at l
