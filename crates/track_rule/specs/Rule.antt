-- What holds of a table between any two steps of its passes.
use Rattle.std.specs.Prelude.{◌≡◌, ℕ, None, List, [], length}
use Rattle.atomic_table.specs.Table.{State}
use Rattle.history_book.specs.declared.event.Event.{Event}
use Rattle.history_book.specs.declared.sizes.Sizes.{Sizes}
use Rattle.history_book.specs.Sizes.{AreWithinLimits}
use Rattle.track_rule.specs.declared.slot.Slot.{Slot}
use Rattle.track_rule.specs.declared.view.ChainLink.{ChainLink}
use Rattle.track_rule.specs.declared.view.Middle.TheVariants.{Calm}
use Rattle.track_rule.specs.declared.view.View.{View}
use Rattle.track_rule.specs.Layout.{word_count}
use Rattle.track_rule.specs.Passes.{ArePasses, no_places}
use Rattle.track_rule.specs.History.{IsHistory}
use Rattle.track_rule.specs.References.{AreReferences}
use Rattle.track_rule.specs.Free.{IsFreeList}
use Rattle.track_rule.specs.Records.{AreRecords}
use Rattle.track_rule.specs.Phases.{ArePhases}
use Rattle.track_rule.specs.Chains.{AreChains}
use Rattle.track_rule.specs.Commits.{AreCommits}
use Rattle.track_rule.specs.Links.{AreLinks}
use Rattle.track_rule.specs.Readings.{AreRead}
use Rattle.track_rule.specs.Walks.{AreWalks}
use Rattle.track_rule.specs.Expected.{AreExpected}
use Rattle.track_rule.specs.KeptWords.{AreKeptWords}

-- what no word shows: the one history, the free list, and the chain of each bucket
pub record Ledger : Type 0 where
  pub log : List Event
  pub free : List ℕ
  pub chains : ℕ → List ChainLink

-- The nine parts of the rule. What it says of references, of phases and of chains is in two parts each: of the references and of
-- the tuple words of places that are held for ids, of the phases and of the middle of a commit, and of the chains and of the
-- words of links. One more says of readings what holds where the table has one pass.
pub record IsKept (z : Sizes) (l : Ledger) (s : State Slot View) : Type 0 where
  pub limits : AreWithinLimits z
  pub count : length s.words ≡ word_count z
  pub passes : ArePasses z l.log s.views
  pub history : IsHistory z l.log s.words
  pub references : AreReferences z l.log s.words s.views
  pub free_list : IsFreeList z s.words s.homes s.views l.free
  pub records : AreRecords z l.log s.words s.homes s.views
  pub phases : ArePhases z l.log s.words s.views
  pub commits : AreCommits z l.log s.views
  pub chains : AreChains z l.log s.words s.views l.chains
  pub links : AreLinks z s.words s.views
  pub walks : AreWalks z s.words s.views l.chains
  pub readings : AreRead z s.words s.views
  pub expected : AreExpected z l.log s.words s.homes s.views
  pub kept_words : AreKeptWords z l.log s.words s.views

abbrev pub RuleHolds : Sizes → State Slot View → Type 0
RuleHolds z s = (l : Ledger) × IsKept z l s

-- a pass with these shares, which has seen this much, and nothing else
abbrev pub fresh_view : Sizes → ℕ → ℕ → List Event → View
fresh_view z first shares front = record {
  passes = record { sizes = z; first = first; shares = shares; returned = 0 };
  seen = record { front = front; told = []; own = []; gathered = [] };
  places = no_places;
  free = None;
  buckets = record { shut = []; hooks = [] };
  commit = record { hand = None; middle = Calm };
  expected = None;
  walk = None;
  readings = [];
}

-- the first pass has all shares
abbrev pub first_view : Sizes → View
first_view z = fresh_view z 0 z.passes []
