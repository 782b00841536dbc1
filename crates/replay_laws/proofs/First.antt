-- The first event of a packet that fits its verdict is no earlier than the mark: one case for each class.
use Rattle.std.proofs.Common.{◌≡◌, ℕ, ◌≤◌, List, [], ◌∷◌, ◌++◌, Option, Some, None, ap, refl, sym, ◌∙◌, arith, ⊎_elim}
use Rattle.std.proofs.lemmas.List.{append-nil}
use Rattle.history_book.specs.declared.event.Event.{Event}
use Rattle.history_book.specs.declared.event.Event.TheVariants.{Confirm}
use Rattle.history_book.specs.declared.event.Note.{Note}
use Rattle.history_book.specs.declared.sizes.Sizes.{Sizes}
use Rattle.history_book.specs.declared.verdict.Class.{Class}
use Rattle.history_book.specs.declared.verdict.Class.TheVariants as class
use Rattle.history_book.specs.Mark.{mark_past}
use Rattle.proto_rules.specs.declared.Outcome.{Outcome}
use Rattle.packet_path.specs.Absent.{WasAbsent}
use Rattle.packet_path.specs.Claim.{claim_by, ClaimsIfExpected}
use Rattle.packet_path.specs.Made.{Makes, Making}
use Rattle.packet_path.specs.Packet.{FlowPacket, Given}
use Rattle.packet_path.specs.Placed.{HasPlace, Placing}
use Rattle.packet_path.specs.Room.{Dropping, HasRoom, StaysFull, drop_by, drops_by}
use Rattle.packet_path.specs.Unchanged.{LeavesEntry}
use Rattle.packet_path.specs.Verdict.{AnswersFlow, FitsFrame, KillsAll}
use Rattle.packet_path.specs.Winner.{Meeting, MeetsWinner}
use Rattle.packet_path.specs.declared.setup.Setup.{Setup}

-- no list begins and is empty
never_begun : (P : Type 0) (rest more : List Note) (note : Note) → rest ≡ note ∷ more → rest ≡ [] → P
never_begun P rest more note begins none = absurd (cc)

head_number : (x y : Note) (xs ys : List Note) → x ∷ xs ≡ y ∷ ys → x.number ≡ y.number
head_number x y xs ys e = let same : x ≡ y = cc in ap (λ (n : Note). n.number) same

-- the first of these events, which are some and then this one
module _ (log : List Event) (k : ℕ) (packet : FlowPacket) where
  -- the Claim, where there is one, is no earlier than the point at which the tuple was absent
  claim_later : (claims more : List Note) (unclaimed master : Option ℕ) (from upto : ℕ) (note : Note)
      → WasAbsent log k packet.tuple from → ClaimsIfExpected log packet claims unclaimed master from upto → claims ≡ note ∷ more
      → k ≤ note.number
  claim_later claims more (Some p) master from upto note absent claimed begins =
      never_begun (k ≤ note.number) claims more note begins claimed.none
  claim_later claims more None master from upto note absent claimed begins =
      let same : note.number ≡ claimed.number =
      head_number note (claim_by packet claimed.number claimed.expectation claimed.by) more [] (sym begins ∙ claimed.own) in
      omega (arith, same, absent.from, absent.before, claimed.happened.later)

  -- of the events of a new flow
  made_later : (claims : List Note) (last : Note) (more : List Note) (unclaimed master : Option ℕ) (from upto : ℕ) (note : Note)
      → WasAbsent log k packet.tuple from → ClaimsIfExpected log packet claims unclaimed master from upto → k ≤ last.number
      → claims ++ last ∷ [] ≡ note ∷ more → k ≤ note.number
  made_later [] last more unclaimed master from upto note absent claimed later begins =
      let same : last.number ≡ note.number = head_number last note [] more begins in
      omega (arith, same, later)
  made_later (c ∷ cs) last more unclaimed master from upto note absent claimed later begins =
      let same : c.number ≡ note.number = head_number c note (cs ++ last ∷ []) more begins in
      let first : k ≤ c.number = claim_later (c ∷ cs) cs unclaimed master from upto c absent claimed refl in
      omega (arith, same, first)

module _ (log : List Event) (mark : ℕ) (given : Given) (note : Note) (own : List Note) where
  first_of_parts : (packet : FlowPacket) (P : ℕ → List Note → Type 0)
      → ((k : ℕ) (rest : List Note) → P k rest → rest ≡ note ∷ own → k ≤ note.number)
      → (kills rest : List Note) → note ∷ own ≡ kills ++ rest → KillsAll log mark packet kills → P (mark_past mark kills) rest
      → mark ≤ note.number
  first_of_parts packet P later [] rest all killed fits = later mark rest fits (sym all)
  first_of_parts packet P later (x ∷ xs) rest all (kill, kills) fits =
      omega (arith, head_number note x own (xs ++ rest) all, kill.happened.later)

  first_of_flow : (P : FlowPacket → ℕ → List Note → Type 0)
      → ((packet : FlowPacket) (k : ℕ) (rest : List Note) → P packet k rest → rest ≡ note ∷ own → k ≤ note.number)
      → AnswersFlow log mark given (note ∷ own) P → mark ≤ note.number
  first_of_flow P later f =
      first_of_parts f.packet (P f.packet) (later f.packet) f.kills f.rest f.all f.killed f.fits

  leaves_first : (packet : FlowPacket) (k : ℕ) (rest : List Note) (id at : ℕ) (outcome : Outcome)
      → LeavesEntry log k packet rest id at outcome → rest ≡ note ∷ own → k ≤ note.number
  leaves_first packet k rest id at outcome l begins = never_begun (k ≤ note.number) rest own note begins l.own

  module _ (setup : Setup) (sizes : Sizes) where
    -- the drop, where there is one, is no earlier than the point at which the tuple was absent; nor is what is behind it
    placed_first : (packet : FlowPacket) (k : ℕ) (rest last : List Note) (said : Placing) (h : HasPlace setup sizes log k packet rest last said)
        → (h.claims ++ last ≡ note ∷ own → WasAbsent log k packet.tuple h.placed_at → k ≤ note.number)
        → (o : Option Dropping) → rest ≡ drops_by packet o ++ (h.claims ++ last) → HasRoom sizes log packet h.found_at o h.placed_at
        → rest ≡ note ∷ own → k ≤ note.number
    placed_first packet k rest last said h then None all room begins =
        then (sym all ∙ begins)
        (record { at = h.begun.absent.at; from = h.begun.absent.from; before = omega (arith, h.begun.absent.before, room); absent = h.begun.absent.absent })
    placed_first packet k rest last said h then (Some d) all room begins =
        let same : d.number ≡ note.number = head_number (drop_by packet d) note (h.claims ++ last) own (sym all ∙ begins) in
        omega (arith, same, h.begun.absent.from, h.begun.absent.before, room.happened.later)

    makes_first : (packet : FlowPacket) (k : ℕ) (rest : List Note) (said : Making) → Makes setup sizes log k packet rest said
        → rest ≡ note ∷ own → k ≤ note.number
    makes_first packet k rest said h begins =
        let last : Note = record { number = said.id; event = Confirm h.subject } in
        placed_first packet k rest (last ∷ []) _ h.placed
        (λ all absent. made_later log k packet h.placed.claims last own said.unclaimed h.subject.master h.placed.placed_at said.id note absent
        h.placed.claimed h.happened.later all)
        h.placed.dropped h.placed.own h.placed.room begins

    meets_first : (packet : FlowPacket) (k : ℕ) (rest : List Note) (said : Meeting) → MeetsWinner setup sizes log k packet rest said
        → rest ≡ note ∷ own → k ≤ note.number
    meets_first packet k rest said h begins =
        placed_first packet k rest [] _ h.placed
        (λ all absent. claim_later log k packet h.placed.claims own h.unclaimed h.master h.placed.placed_at said.at note absent h.placed.claimed
        (sym (append-nil h.placed.claims) ∙ all))
        h.placed.dropped h.placed.own h.placed.room begins

    full_first : (packet : FlowPacket) (k : ℕ) (rest : List Note) (from at : ℕ) (o : Option Dropping) → rest ≡ drops_by packet o
        → StaysFull sizes log packet from o at → k ≤ from → rest ≡ note ∷ own → k ≤ note.number
    full_first packet k rest from at None all stays low begins = never_begun (k ≤ note.number) rest own note begins all
    full_first packet k rest from at (Some d) all stays low begins =
        let same : d.number ≡ note.number = head_number (drop_by packet d) note [] own (sym all ∙ begins) in
        omega (arith, same, low, stays.room.happened.later)

    pub first_is_later : (verdict : Class) → FitsFrame setup sizes log mark given (note ∷ own) verdict → mark ≤ note.number
    first_is_later (class.Untracked why) f = never_begun (mark ≤ note.number) (note ∷ own) own note refl f.1
    first_is_later class.BadHeader f = never_begun (mark ≤ note.number) (note ∷ own) own note refl f.1
    first_is_later (class.NoEntry at) f =
        first_of_flow _ (λ packet k rest h begins. never_begun (k ≤ note.number) rest own note begins h.own) f
    first_is_later (class.BadState id at) f =
        first_of_flow _ (λ packet k rest h begins. leaves_first packet k rest id at _ h begins) f
    first_is_later (class.ErrorLost at) f = never_begun (mark ≤ note.number) (note ∷ own) own note refl f.none
    first_is_later (class.ErrorAddress id at) f = never_begun (mark ≤ note.number) (note ∷ own) own note refl f.none
    first_is_later (class.Error direction id at) f = never_begun (mark ≤ note.number) (note ∷ own) own note refl f.none
    first_is_later (class.Made id at translated unclaimed) f =
        first_of_flow _ (λ packet k rest h begins. makes_first packet k rest _ h begins) f
    first_is_later (class.Passed label id at ftp) f =
        first_of_flow _
        (λ packet k rest h begins. omega (arith, head_number h.note note h.further own (sym h.own ∙ begins), h.happened.later)) f
    first_is_later (class.Ignored id at) f =
        first_of_flow _ (λ packet k rest h begins. leaves_first packet k rest id at _ h begins) f
    first_is_later (class.Merged id at translated) f =
        first_of_flow _ (λ packet k rest h begins. meets_first packet k rest _ h begins) f
    first_is_later (class.Clash id at translated) f =
        first_of_flow _ (λ packet k rest h begins. meets_first packet k rest _ h begins) f
    first_is_later (class.NoPort from to) f =
        first_of_flow _ (λ packet k rest h begins. never_begun (k ≤ note.number) rest own note begins h.own) f
    first_is_later (class.Full from at) f =
        first_of_flow _
        (λ packet k rest h begins. full_first packet k rest from at h.dropped h.own h.stays
        (omega (arith, h.begun.absent.from, h.begun.absent.before)) begins) f
    first_is_later (class.Contended id at) f =
        first_of_flow _
        (λ packet k rest h begins.
        ⊎_elim (λ l. leaves_first packet k rest id at _ l begins) (λ l. leaves_first packet k rest id at _ l begins) h) f.stands
