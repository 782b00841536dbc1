-- Which live entry stands in the way of a flow, by the locked chains of both its tuples.
use Rattle.std.specs.Prelude.{◌≡◌, ℕ, ◌<◌, ◌==◌, Bool, true, false, Option, Some, None, List, length}
use Rattle.tuple_core.specs.Words.{address_word, flow_word}
use Rattle.tuple_core.specs.declared.Direction.{Direction}
use Rattle.tuple_core.specs.declared.Direction.TheVariants.{Original, Reply}
use Rattle.tuple_core.specs.declared.Tuple.{Tuple}
use Rattle.history_book.specs.Desk.{IsClash}
use Rattle.history_book.specs.Entry.{is_lawful_flow}
use Rattle.history_book.specs.declared.outcome.ConfirmOutcome.{ConfirmOutcome}
use Rattle.history_book.specs.declared.outcome.ConfirmOutcome.TheVariants.{Confirmed, Clash}
use Rattle.history_book.specs.declared.record.Flow.{Flow}
use Rattle.history_book.specs.declared.sizes.Sizes.{Sizes}
use Rattle.track_rule.specs.BucketSteps.{IsChainOf}
use Rattle.track_rule.specs.Chains.{chain_in, shuts_of}
use Rattle.track_rule.specs.History.{state_after}
use Rattle.track_rule.specs.PhaseSteps.{holds_open}
use Rattle.track_rule.specs.References.{is_taken}
use Rattle.track_rule.specs.Sights.{PassSight, looked_on, sizes_of}
use Rattle.track_rule.specs.Steps.{AreAll}
use Rattle.track_rule.specs.declared.view.ChainLink.{ChainLink}
use Rattle.track_rule.specs.declared.view.Middle.TheVariants.{Calm}
use Rattle.track_rule.specs.declared.view.Shut.{Shut}
use Rattle.bucket_table.specs.Following.{bucket_in}
use Rattle.bucket_table.specs.LockedChain.{found_in, link_with, place_in}
use Rattle.shared_desk.specs.Commit.{is_any_up}
use Rattle.shared_desk.specs.declared.rival.Rival.{Rival}

-- an entry that has the flow's original tuple in its original direction has both tuples, where the reply link with the flow's reply
-- tuple is of its place
abbrev pub has_both : Direction → Option ℕ → ℕ → Bool
has_both Original None place = false
has_both Original (Some other) place = other == place
has_both Reply reply place = false

-- the one that has the original tuple, else the one that has the reply tuple
abbrev pub rival_of : Option (ℕ × Direction) → Option ℕ → Option (ℕ × Direction) → Option Rival
rival_of (Some (place, direction)) reply other = Some (record { place = place; direction = direction; both = has_both direction reply place })
rival_of None reply (Some (place, direction)) = Some (record { place = place; direction = direction; both = false })
rival_of None reply None = None

-- the chain of the bucket of a tuple
abbrev pub chain_of : Sizes → Tuple → List Shut → List ChainLink
chain_of z t shut = chain_in (bucket_in z t) shut

abbrev pub found_for : Sizes → Tuple → List Shut → Option (ℕ × Direction)
found_for z t shut = found_in (address_word t) (flow_word t) (chain_of z t shut)

abbrev pub rival_in : Flow → Sizes → List Shut → Option Rival
rival_in flow z shut =
    rival_of (found_for z flow.original shut) (place_in (link_with 1 (address_word flow.reply) (flow_word flow.reply) (chain_of z flow.reply shut)))
    (found_for z flow.reply shut)

-- The pass has shut both buckets of the flow, is in the middle of no commit, looks what stands at no place and has no link of its own
-- in a chain. It has taken the place. This is the rival in the chains.
pub record IsBlocked (place : ℕ) (flow : Flow) (rival : Rival) (v : PassSight) : Type 0 where
  pub calm : v.view.commit.middle ≡ Calm
  pub closed : holds_open v.view.places.held ≡ false
  pub down : is_any_up v.view.buckets.hooks ≡ false
  pub taken : is_taken place v.view.places.held ≡ true
  pub protocol : is_lawful_flow flow ≡ true
  pub original_below : bucket_in (sizes_of v) flow.original < (sizes_of v).buckets
  pub reply_below : bucket_in (sizes_of v) flow.reply < (sizes_of v).buckets
  pub original_shut : 0 < shuts_of (bucket_in (sizes_of v) flow.original) v.view
  pub reply_shut : 0 < shuts_of (bucket_in (sizes_of v) flow.reply) v.view
  pub original_chain : IsChainOf (sizes_of v) (bucket_in (sizes_of v) flow.original) (chain_of (sizes_of v) flow.original v.view.buckets.shut)
  pub reply_chain : IsChainOf (sizes_of v) (bucket_in (sizes_of v) flow.reply) (chain_of (sizes_of v) flow.reply v.view.buckets.shut)
  pub finds : rival_in flow (sizes_of v) v.view.buckets.shut ≡ Some rival

-- The pass has seen all events up to this point, and there the entry of the id stood in the flow's way. All else is as it was, but the
-- note of a walk and the readings.
pub record Blocks (place : ℕ) (flow : Flow) (id : ℕ) (direction : Direction) (both : Bool) (at : ℕ) (v w : PassSight) : Type 0 where
  pub same : w ≡ looked_on v w
  pub all : AreAll v.view w.view.seen.front
  pub point : at ≡ length w.view.seen.front
  pub clash : IsClash place flow id direction both (state_after w.view.seen.front)

abbrev pub Clashes : ℕ → Flow → ConfirmOutcome → PassSight → PassSight → Type 0
Clashes place flow (Confirmed id) v w = ⊥
Clashes place flow (Clash id direction both at) v w = Blocks place flow id direction both at v w
