-- What the rule says of the history word, of passes and of readings once an event was added: the same of each kind of event. What
-- an event changes of entries, chains and expectations, its own proof says.
use Rattle.std.proofs.Common.{◌≡◌, ℕ, ◌^◌, ◌<◌, true, List, [], ◌∷◌, ◌++◌, length, set, ◌∙◌, arith}
use Rattle.std.specs.Prelude.{slice_set}
use Rattle.std.proofs.lemmas.List.{get_or-set_same, length-set}
use mathlib.Core.Option.{some}
use lib.ListN.{get_elem?}
use Rattle.atomic_table.specs.Table.{State}
use Rattle.history_book.specs.History.{is_legal}
use Rattle.history_book.specs.declared.event.Event.{Event}
use Rattle.history_book.specs.declared.sizes.Sizes.{Sizes}
use Rattle.track_rule.specs.declared.slot.Slot.{Slot}
use Rattle.track_rule.specs.declared.view.View.{View}
use Rattle.track_rule.specs.Chains.{AreChains}
use Rattle.track_rule.specs.Commits.{AreCommits}
use Rattle.track_rule.specs.Expected.{AreExpected}
use Rattle.track_rule.specs.Free.{IsFreeList}
use Rattle.track_rule.specs.History.{packed}
use Rattle.track_rule.specs.KeptWords.{AreKeptWords}
use Rattle.track_rule.specs.Links.{AreLinks}
use Rattle.track_rule.specs.Phases.{ArePhases}
use Rattle.track_rule.specs.Records.{AreRecords}
use Rattle.track_rule.specs.References.{AreReferences}
use Rattle.track_rule.specs.Rule.{IsKept, Ledger}
use Rattle.track_rule.specs.Walks.{AreWalks}
use Rattle.track_rule.proofs.Events.{note_of, passes_made}
use Rattle.track_rule.proofs.LastRead.{ReadsAt, stored_on}

-- the parts that an event's own proof says, after it
pub record IsKeptBut (z : Sizes) (l : Ledger) (words : List ℕ) (s : State Slot View) (views : List View) : Type 0 where
  pub references : AreReferences z l.log words views
  pub free_list : IsFreeList z words s.homes views l.free
  pub records : AreRecords z l.log words s.homes views
  pub phases : ArePhases z l.log words views
  pub commits : AreCommits z l.log views
  pub chains : AreChains z l.log words views l.chains
  pub links : AreLinks z words views
  pub walks : AreWalks z words views l.chains
  pub expected : AreExpected z l.log words s.homes views
  pub kept_words : AreKeptWords z l.log words views

-- with these the rule holds of the history with the event
pub event_added : (l new : Ledger) (s : State Slot View) (id : ℕ) (v w : View) (e : Event) → IsKept v.passes.sizes l s → get_elem? s.views id ≡ some v
    → 0 < v.passes.shares → length v.seen.own < 2 ^ 30 → is_legal v.passes.sizes (l.log ++ e ∷ []) ≡ true → new.log ≡ l.log ++ e ∷ [] → w.passes ≡ v.passes
    → w.seen ≡ record v.seen { front = l.log ++ e ∷ []; own = v.seen.own ++ note_of l.log e ∷ [] }
    → ReadsAt 0 (packed (l.log ++ e ∷ [])) v w
    → IsKeptBut v.passes.sizes new (slice_set s.words 0 (packed (l.log ++ e ∷ []))) s (set s.views id w)
    → IsKept v.passes.sizes new (record { words = slice_set s.words 0 (packed (l.log ++ e ∷ [])); homes = s.homes; views = set s.views id w })
event_added l new s id v w e h at has_some few legal log passes seen reads parts =
    let z : Sizes = v.passes.sizes in
    let long : 0 < length s.words = omega (arith, h.count) in
    record {
      limits = h.limits;
      count = length-set s.words 0 (packed (l.log ++ e ∷ [])) ∙ h.count;
      passes = rw log (passes_made z l.log e s.views id v w at has_some few passes seen h.passes);
      history = rw log (record { legal = legal; word = get_or-set_same s.words 0 (packed (l.log ++ e ∷ [])) 0 long });
      references = parts.references;
      free_list = parts.free_list;
      records = parts.records;
      phases = parts.phases;
      commits = parts.commits;
      chains = parts.chains;
      links = parts.links;
      walks = parts.walks;
      readings = stored_on z l.log s.words s.views id 0 (packed (l.log ++ e ∷ [])) v w h.passes at has_some long reads h.readings;
      expected = parts.expected;
      kept_words = parts.kept_words;
    }
