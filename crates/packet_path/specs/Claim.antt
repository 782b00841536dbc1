-- Whether the packet of a new flow was expected.
use Rattle.std.specs.Prelude.{◌≡◌, ℕ, ◌<◌, ◌≤◌, Option, Some, None, List, [], ◌∷◌}
use Rattle.expect_table.specs.Expectations.{matching}
use Rattle.history_book.specs.declared.event.Event.{Event}
use Rattle.history_book.specs.declared.event.Event.TheVariants.{Claim}
use Rattle.history_book.specs.declared.event.Note.{Note}
use Rattle.history_book.specs.Notes.{Happened}
use Rattle.history_book.specs.Point.{At}
use Rattle.packet_path.specs.Packet.{FlowPacket}

-- the packet's Claim of an expectation of this master, as this event
abbrev pub claim_by : FlowPacket → (number expectation master : ℕ) → Note
claim_by packet number expectation master =
    record { number = number; event = Claim expectation master packet.tuple packet.moment }

-- there is no Claim: no expectation matched the packet at this point, from the first to the last, and the entry has no
-- master
pub record IsUnclaimed (log : List Event) (packet : FlowPacket) (claims : List Note) (master : Option ℕ)
    (from p upto : ℕ) : Type 0 where
  pub none : claims ≡ []
  pub alone : master ≡ None
  pub low : from ≤ p
  pub high : p ≤ upto
  pub unmatched : At log p (λ s. matching packet.tuple packet.moment s.expects ≡ None)

-- the packet claimed an expectation, from the first point on and before the last, and the entry's master is that of
-- the expectation
pub record IsClaimed (log : List Event) (packet : FlowPacket) (claims : List Note) (master : Option ℕ)
    (from upto : ℕ) : Type 0 where
  pub number : ℕ
  pub expectation : ℕ
  pub by : ℕ
  pub own : claims ≡ claim_by packet number expectation by ∷ []
  pub related : master ≡ Some by
  pub happened : Happened log from (claim_by packet number expectation by)
  pub before : number < upto

-- The packet was looked for among the expectations between these points: where a point is named none matched it
-- there, and where none is it made one Claim.
abbrev pub ClaimsIfExpected : List Event → FlowPacket → List Note → Option ℕ → Option ℕ → ℕ → ℕ → Type 0
ClaimsIfExpected log packet claims (Some p) master from upto = IsUnclaimed log packet claims master from p upto
ClaimsIfExpected log packet claims None master from upto = IsClaimed log packet claims master from upto
