-- What a pass finds that looks once for what is live under a tuple.
use Rattle.std.proofs.Common.{◌≡◌, ℕ, true, false, List, [], ◌∷◌, ◌++◌, length, drop, sym, ap, ◌∙◌}
use Rattle.history_book.specs.Laws.{LiveRecordsAreConfirmed}
use Rattle.tuple_core.specs.Tuple.{is_valid}
use Rattle.tuple_core.specs.declared.Tuple.{Tuple}
use Rattle.track_rule.specs.History.{events_in}
use Rattle.track_rule.specs.Readings.{added, changes}
use Rattle.track_rule.specs.Sights.{PassSight, sizes_of}
use Rattle.track_rule.specs.Steps.{Looks, found_history}
use Rattle.track_rule.specs.declared.view.Reading.{Reading}
use Rattle.track_rule.specs.declared.view.View.{View}
use Rattle.bucket_table.specs.Finding.{FindOnceSays}
use Rattle.bucket_table.specs.declared.finding.FindOnce.{FindOnce}
use Rattle.bucket_table.specs.declared.finding.FindOnce.TheVariants.{Found, Absent, Moved}
use Rattle.shared_desk.specs.Lookups.{FindsNobody, LooksOnce}
use Rattle.shared_desk.proofs.Living.{live_there, nobody_invalid, nobody_linked}
use Rattle.shared_desk.proofs.Readings.{drop_first}
use Rattle.shared_desk.specs.TupleLaws.{TuplesTellEntries}

-- of a tuple that is valid
pub looks_valid : TuplesTellEntries → LiveRecordsAreConfirmed → (t : Tuple) → is_valid t ≡ true → (r : FindOnce) (v w : PassSight) → FindOnceSays r t v w → LooksOnce r t v w
looks_valid laws low t valid_t (Found place id d at) v w f = record {
  found = f;
  live = live_there (sizes_of v) w.view.seen.front f.all.legal laws t valid_t low place id f.was f.live d f.directed;
}
looks_valid laws low t valid_t (Absent at) v w f = record {
  same = f.reads.same;
  stand = f.reads.stand;
  own = f.reads.own;
  all = f.all;
  point = f.point;
  none = nobody_linked (sizes_of v) w.view.seen.front f.all.legal laws t valid_t f.chain f.live f.none;
}
looks_valid laws low t valid_t (Moved word was now owed) v w f = f

-- and of one that is not
pub looks_invalid : TuplesTellEntries → (t : Tuple) → is_valid t ≡ false → (word at : ℕ) (v w : PassSight) → Looks v.view word w.view → w ≡ record v { view = w.view } → at ≡ events_in word
    → FindsNobody t at v w
looks_invalid laws t invalid word at v w looks kept point =
    let readings : w.view.readings ≡ v.view.readings ++ found_history word v.view ∷ [] = ap (λ (x : View). x.readings) looks.same in
    let all : added v.view w.view ≡ found_history word v.view ∷ [] = ap (λ rs. drop (length v.view.readings) rs) readings ∙ drop_first v.view.readings (found_history word v.view ∷ []) in
    record {
      same = kept ∙ ap (λ (x : View). record v { view = x }) (looks.same ∙ (λ i. record v.view {
        seen = record v.view.seen { front = w.view.seen.front };
        walk = sym (ap (λ (x : View). x.walk) looks.same) i;
        readings = sym readings i;
      }));
      stand = readings ∙ ap (λ (rs : List Reading). v.view.readings ++ rs) (sym all);
      own = ap (changes (λ k. true)) all;
      all = looks.all;
      point = point ∙ looks.events;
      none = nobody_invalid (sizes_of v) w.view.seen.front looks.all.legal laws t invalid;
    }
