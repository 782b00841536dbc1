-- The points of a verdict that fits are within the history: one case for each class.
use Rattle.std.proofs.Common.{ℕ, ◌<◌, ◌≤◌, List, [], ◌∷◌, ◌++◌, length, Option, Some, None, sym, subst, arith, inl, inr}
use Rattle.std.specs.List.{AllByRecursion}
use Rattle.std.specs.Prelude.{option_to_list}
use Rattle.std.proofs.lemmas.Option.{slice_get_within}
use Rattle.history_book.specs.declared.event.Event.{Event}
use Rattle.history_book.specs.declared.event.Event.TheVariants.{Confirm}
use Rattle.history_book.specs.declared.event.Note.{Note}
use Rattle.history_book.specs.declared.sizes.Sizes.{Sizes}
use Rattle.history_book.specs.declared.verdict.Class.{Class}
use Rattle.history_book.specs.declared.verdict.Class.TheVariants as class
use Rattle.history_book.specs.declared.verdict.Ftp.{Ftp}
use Rattle.history_book.specs.declared.verdict.Ftp.TheVariants as ftp
use Rattle.history_book.specs.declared.verdict.Translated.{Translated}
use Rattle.history_book.specs.declared.verdict.Translated.TheVariants as translated
use Rattle.history_book.specs.Mark.{ftp_points, mark_past, points_of, translated_points}
use Rattle.nat_setup.specs.declared.rule.Rule.{Rule}
use Rattle.nat_setup.specs.Translation.{AccountsForOwn, WasTranslated}
use Rattle.tuple_core.specs.declared.Tuple.{Tuple}
use Rattle.packet_path.specs.Claim.{ClaimsIfExpected}
use Rattle.packet_path.specs.FtpPart.{FtpFits}
use Rattle.packet_path.specs.Made.{Makes, Making}
use Rattle.packet_path.specs.Packet.{FlowPacket, Given}
use Rattle.packet_path.specs.Passed.{IsPassing, Passes, Passing}
use Rattle.packet_path.specs.Room.{Dropping, StaysFull}
use Rattle.packet_path.specs.Unchanged.{IsToEnd}
use Rattle.packet_path.specs.Verdict.{AnswersFlow, FitsFrame}
use Rattle.packet_path.specs.declared.setup.Setup.{Setup}
use Rattle.packet_path.specs.Winner.{Meeting, MeetsWinner}
use Rattle.history_book.specs.State.{Found}

-- all of these points are within a history of this length
abbrev pub AreWithin : ℕ → List ℕ → Type 0
AreWithin n points = AllByRecursion (λ (p : ℕ). p ≤ n) points

within_append : (n : ℕ) (xs ys : List ℕ) → AreWithin n xs → AreWithin n ys → AreWithin n (xs ++ ys)
within_append n [] ys h k = k
within_append n (x ∷ xs) ys (h, hs) k = (h, within_append n xs ys hs k)

module _ (log : List Event) where
  own_within : (rule : Rule) (t : Tuple) (number : ℕ) (taken_at : Option ℕ) → AccountsForOwn log rule t number taken_at
      → AreWithin (length log) (option_to_list taken_at)
  own_within rule t number None h = tt
  own_within rule t number (Some p) (barred, taken) = (taken.within, tt)

  translated_within : (first : Option Rule) (t : Tuple) (from upto : ℕ) (said : Translated) (reply : Tuple)
      → WasTranslated log first t from upto said reply → AreWithin (length log) (translated_points said)
  translated_within first t from upto translated.Plain reply h = tt
  translated_within None t from upto (translated.Chosen chosen taken_at) reply h = absurd h
  translated_within (Some rule) t from upto (translated.Chosen chosen taken_at) reply (same, h) =
      own_within rule t h.lawful.number taken_at h.lawful.own

  claimed_within : (packet : FlowPacket) (claims : List Note) (unclaimed master : Option ℕ) (from upto : ℕ)
      → ClaimsIfExpected log packet claims unclaimed master from upto → AreWithin (length log) (option_to_list unclaimed)
  claimed_within packet claims None master from upto h = tt
  claimed_within packet claims (Some p) master from upto h = (h.unmatched.within, tt)

  flow_within : (mark : ℕ) (given : Given) (own : List Note) (P : FlowPacket → ℕ → List Note → Type 0) (points : List ℕ)
      → ((packet : FlowPacket) (k : ℕ) (rest : List Note) → P packet k rest → AreWithin (length log) points)
      → AnswersFlow log mark given own P → AreWithin (length log) points
  flow_within mark given own P points then f = then f.packet (mark_past mark f.kills) f.rest f.fits

  makes_within : (setup : Setup) (sizes : Sizes) (k : ℕ) (packet : FlowPacket) (rest : List Note) (said : Making) → Makes setup sizes log k packet rest said
      → AreWithin (length log) (said.at ∷ (option_to_list said.unclaimed ++ translated_points said.translated))
  makes_within setup sizes k packet rest said h =
      let below : said.id < length log = slice_get_within log said.id (Confirm h.subject) h.happened.event in (
        omega (arith, below, h.point),
        within_append (length log) (option_to_list said.unclaimed) (translated_points said.translated)
            (claimed_within packet h.placed.claims said.unclaimed h.subject.master h.placed.placed_at said.id h.placed.claimed)
            (translated_within _ packet.tuple h.placed.begun.absent.at h.placed.found_at said.translated h.subject.reply h.placed.begun.found),
      )

  meets_within : (setup : Setup) (sizes : Sizes) (k : ℕ) (packet : FlowPacket) (rest : List Note) (said : Meeting)
      → MeetsWinner setup sizes log k packet rest said → AreWithin (length log) (said.at ∷ translated_points said.translated)
  meets_within setup sizes k packet rest said h = (
    h.live.within,
    translated_within _ packet.tuple h.placed.begun.absent.at h.placed.found_at said.translated h.reply h.placed.begun.found,
  )

  ftp_within : (sizes : Sizes) (packet : FlowPacket) (found : Found) (touched : ℕ) (further : List Note) (said : Ftp)
      → FtpFits sizes log packet found touched further said → AreWithin (length log) (ftp_points said)
  ftp_within sizes packet found touched further ftp.Nothing h = tt
  ftp_within sizes packet found touched further ftp.Address h = tt
  ftp_within sizes packet found touched further (ftp.Expected id) h = tt
  ftp_within sizes packet found touched further (ftp.Clash id at) h = (h.gives.within, tt)
  ftp_within sizes packet found touched further (ftp.Full at) h = (h.gives.within, tt)
  ftp_within sizes packet found touched further (ftp.Gone at) h = (h.gone.within, tt)

  passing_within : (sizes : Sizes) (packet : FlowPacket) (found : Found) (note : Note) (further : List Note) (said : Ftp)
      → IsPassing sizes log packet found note further said → AreWithin (length log) (ftp_points said)
  passing_within sizes packet found note further said (inl h) = ftp_within sizes packet found note.number further said h.payload
  passing_within sizes packet found note further said (inr h) =
      subst (λ (f : Ftp). AreWithin (length log) (ftp_points f)) (sym h.payload) tt

  passes_within : (sizes : Sizes) (k : ℕ) (packet : FlowPacket) (rest : List Note) (said : Passing)
      → Passes sizes log k packet rest said → AreWithin (length log) (said.at ∷ ftp_points said.ftp)
  passes_within sizes k packet rest said h =
      let below : h.note.number < length log = slice_get_within log h.note.number h.note.event h.happened.event in (
        omega (arith, below, h.point),
        passing_within sizes packet h.found h.note h.further said.ftp h.passing,
      )

  ends_within : (k : ℕ) (packet : FlowPacket) (rest : List Note) (id at : ℕ) → IsToEnd log k packet rest id at
      → AreWithin (length log) (at ∷ [])
  ends_within k packet rest id at (inl h) = (h.live.within, tt)
  ends_within k packet rest id at (inr h) = (h.live.within, tt)

  stays_within : (sizes : Sizes) (packet : FlowPacket) (from : ℕ) (o : Option Dropping) (at : ℕ) → StaysFull sizes log packet from o at
      → AreWithin (length log) (from ∷ at ∷ [])
  stays_within sizes packet from None at h = (h.full.within, (h.within, tt))
  stays_within sizes packet from (Some d) at h = (h.room.full.within, (h.full.within, tt))

  module _ (setup : Setup) (sizes : Sizes) (mark : ℕ) (given : Given) (own : List Note) where
    pub points_within : (verdict : Class) → FitsFrame setup sizes log mark given own verdict
        → AllByRecursion (λ (p : ℕ). p ≤ length log) (points_of verdict)
    points_within (class.Untracked why) f = tt
    points_within class.BadHeader f = tt
    points_within (class.NoEntry at) f = flow_within mark given own _ (at ∷ []) (λ packet k rest h. (h.absent.within, tt)) f
    points_within (class.BadState id at) f = flow_within mark given own _ (at ∷ []) (λ packet k rest h. (h.live.within, tt)) f
    points_within (class.ErrorLost at) f = (f.fits.live.within, tt)
    points_within (class.ErrorAddress id at) f = (f.fits.looked.live.within, tt)
    points_within (class.Error direction id at) f = (f.fits.looked.live.within, tt)
    points_within (class.Made id at translated unclaimed) f =
        flow_within mark given own _ (at ∷ (option_to_list unclaimed ++ translated_points translated))
        (λ packet k rest h. makes_within setup sizes k packet rest _ h) f
    points_within (class.Passed label id at ftp) f =
        flow_within mark given own _ (at ∷ ftp_points ftp) (λ packet k rest h. passes_within sizes k packet rest _ h) f
    points_within (class.Ignored id at) f = flow_within mark given own _ (at ∷ []) (λ packet k rest h. (h.live.within, tt)) f
    points_within (class.Merged id at translated) f =
        flow_within mark given own _ (at ∷ translated_points translated) (λ packet k rest h. meets_within setup sizes k packet rest _ h) f
    points_within (class.Clash id at translated) f =
        flow_within mark given own _ (at ∷ translated_points translated) (λ packet k rest h. meets_within setup sizes k packet rest _ h) f
    points_within (class.NoPort from to) f =
        flow_within mark given own _ (from ∷ to ∷ [])
        (λ packet k rest h. (omega (arith, h.taken.ordered, h.taken.within), (h.taken.within, tt))) f
    points_within (class.Full from at) f =
        flow_within mark given own _ (from ∷ at ∷ [])
        (λ packet k rest h. stays_within sizes packet from h.dropped at h.stays) f
    points_within (class.Contended id at) f =
        flow_within mark given own _ (at ∷ []) (λ packet k rest h. ends_within k packet rest id at h) f.stands
