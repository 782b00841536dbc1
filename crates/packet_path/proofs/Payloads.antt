-- What comes of the payload of a packet that an entry accepted.
use Rattle.std.proofs.Common.{◌≡◌, ℕ, ◌<◌, ◌≤◌, [], ◌∷◌, length, Option, Some, None, refl, subst, arith}
use Rattle.std.specs.List.{AllByRecursion}
use Rattle.std.specs.Prelude.{slice_get}
use Rattle.expect_table.specs.declared.expectation.Want.{Want}
use Rattle.expect_table.specs.declared.table.AddOutcome.{AddOutcome}
use Rattle.expect_table.specs.declared.table.AddOutcome.TheVariants as add
use Rattle.history_book.specs.declared.sizes.Sizes.{Sizes}
use Rattle.history_book.specs.declared.verdict.Ftp.{Ftp}
use Rattle.history_book.specs.declared.verdict.Ftp.TheVariants as ftp
use Rattle.history_book.specs.Desk.{IsGoneAt}
use Rattle.history_book.specs.Entry.{zone_of_entry}
use Rattle.history_book.specs.declared.event.Event.TheVariants.{Expect}
use Rattle.history_book.specs.WentOn.{Saw, WentOn}
use Rattle.history_book.specs.DeskExpectations.{AddGives, AddsNothing, MakesExpect, expectation_at}
use Rattle.history_book.specs.Point.{At}
use Rattle.history_book.specs.Sight.{Sight}
use Rattle.history_book.specs.SightLaws.{RestingIsSeeing}
use Rattle.history_book.specs.State.{Found}
use Rattle.packet_path.specs.Packet.{FlowPacket}
use Rattle.packet_path.specs.FtpPart.{Asks, NamesNone, FtpFits, RefusesEnd, expect_by}
use Rattle.packet_path.specs.Internal.Attempt.{Follows}
use Rattle.history_book.specs.Mark.{ftp_points}

module _ (packet : FlowPacket) (found : Found) (touched : ℕ) where
  -- no event was made
  silently : (old new : Sight) (part : Ftp) → Saw old new → AllByRecursion (λ p. p ≤ length new.front) (ftp_points part)
      → FtpFits old.sizes new.front packet found touched [] part → Follows packet found touched old new part
  silently old new part saw points fits = record {
    further = [];
    went = saw.went;
    few = omega arith;
    points = points;
    fits = fits;
  }

  pub follows_nothing : RestingIsSeeing → (s : Sight) → NamesNone packet found → Follows packet found touched s s ftp.Nothing
  follows_nothing resting s asks = silently s s ftp.Nothing (resting s) tt (refl, asks)

  pub follows_foreign : RestingIsSeeing → (s : Sight) → Asks packet found None → Follows packet found touched s s ftp.Address
  follows_foreign resting s asks = silently s s ftp.Address (resting s) tt (refl, asks)

  module _ (old new : Sight) (want : Want) (asked : Asks packet found (Some want)) (later : touched < length old.front)
      (zone : zone_of_entry found.subject.id old.front ≡ found.subject.original.zone) where
    -- the entry expects it
    pub follows_expected : (id : ℕ) (replaced : Option ℕ) → MakesExpect found.subject.id want packet.moment old new id replaced
        → Follows packet found touched old new (ftp.Expected id)
    follows_expected id replaced (made, same) = record {
      further = expect_by packet found id want replaced ∷ [];
      went = subst (λ (z : ℕ). WentOn old new
          (record { number = id; event = Expect (expectation_at id found.subject.id z want packet.moment) replaced packet.moment } ∷ []))
          zone made.went;
      few = omega arith;
      points = tt;
      fits = record {
        want = want;
        asked = asked;
        replaced = replaced;
        own = refl;
        happened = record {
          event = subst (λ (z : ℕ). slice_get new.front id ≡ Some (Expect (expectation_at id found.subject.id z want packet.moment) replaced packet.moment))
              zone made.happened;
          later = omega (arith, later, made.low);
        };
      };
    }

    refused : (outcome : AddOutcome) (at : ℕ) → AddsNothing found.subject.id want packet.moment outcome old new at
        → RefusesEnd old.sizes new.front packet found touched [] outcome at
    refused outcome at (looked, same) = record {
      want = want;
      asked = asked;
      own = refl;
      later = omega (arith, later, looked.low);
      gives = subst (λ (z : Sizes). At new.front at (AddGives z.expectations at found.subject.id found.subject.original.zone want packet.moment outcome))
          looked.saw.went.pass.sizes
          (subst (λ (k : ℕ). At new.front at (AddGives new.sizes.expectations at found.subject.id k want packet.moment outcome)) zone looked.fact);
    }

    pub follows_clash : (id at : ℕ) → AddsNothing found.subject.id want packet.moment (add.Clash id) old new at
        → Follows packet found touched old new (ftp.Clash id at)
    follows_clash id at h =
        silently old new (ftp.Clash id at) h.0.saw (h.0.fact.within, tt) (refused (add.Clash id) at h)

    pub follows_full : (at : ℕ) → AddsNothing found.subject.id want packet.moment add.Full old new at
        → Follows packet found touched old new (ftp.Full at)
    follows_full at h = silently old new (ftp.Full at) h.0.saw (h.0.fact.within, tt) (refused add.Full at h)

    pub follows_gone : (at : ℕ) → IsGoneAt found.subject.id old new at → Follows packet found touched old new (ftp.Gone at)
    follows_gone at (looked, same) =
        silently old new (ftp.Gone at) looked.saw (looked.fact.within, tt)
        (record { want = want; asked = asked; own = refl; later = omega (arith, later, looked.low); gone = looked.fact })
