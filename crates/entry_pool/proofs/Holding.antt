-- The references of a place changed between two readings of them.
use Rattle.std.proofs.Common.{◌≡◌, ◌≢◌, ℕ, Bool, true, false, List, [], ◌∷◌, ◌++◌, length, drop, refl, sym, ap, ◌∙◌, append_assoc}
use Rattle.std.specs.Prelude.{◌==◌, ◌&&◌, ◌||◌, if◌then◌else◌}
use Rattle.std.specs.List.{list_all}
use Rattle.std.proofs.Math.Seq.{drop-append_seam}
use Rattle.std.proofs.lemmas.Bool.{eq-eqb, false≢true, ne_eqb}
use Rattle.track_rule.specs.Layout.{refs_word}
use Rattle.track_rule.specs.Notes.{note_where}
use Rattle.track_rule.specs.Readings.{added, changes, found, noted, of_word, read_from, turns_over}
use Rattle.track_rule.specs.Sights.{PassSight}
use Rattle.track_rule.specs.Steps.{LoadsRefs, MissedRefs, read_refs}
use Rattle.track_rule.specs.declared.view.Reading.{Reading}
use Rattle.track_rule.specs.declared.view.View.{View}
use Rattle.entry_pool.specs.Hold.{ReadsTwo}

-- the last one of a list
read_last : (word m : ℕ) (rs : List Reading) (r : Reading) → (r.word == word) ≡ true → read_from m word (rs ++ r ∷ []) ≡ r.value
read_last word m [] r e = ap (λ (b : Bool). if b then r.value else m) e
read_last word m (x ∷ xs) r e = read_last word (if x.word == word then x.value else m) xs r e

module _ (place seen now : ℕ) (v u w : PassSight) (loads : LoadsRefs place v.view seen u.view) (kept : u ≡ record v { view = u.view })
    (missed : MissedRefs place seen u.view now w.view) (kept' : w ≡ record u { view = w.view }) (some : seen ≢ 0) where
  abbrev word : ℕ
  word = refs_word v.view.passes.sizes place

  abbrev both : List Reading
  both = found (refs_word v.view.passes.sizes place) seen ∷ found (refs_word v.view.passes.sizes place) now ∷ []

  first : u.view ≡ noted (found word seen) v.view
  first = loads.view ∙ ap (λ (b : Bool). noted (found word seen) (record v.view { walk = note_where b place v.view.walk })) (ne_eqb seen 0 some)

  second : w.view ≡ record v.view { walk = note_where (now == 0) place v.view.walk; readings = v.view.readings ++ both }
  second =
      missed.view ∙ ap (read_refs place now) first
      ∙ ap (λ (rs : List Reading). record v.view { walk = note_where (now == 0) place v.view.walk; readings = rs })
      (append_assoc v.view.readings (found word seen ∷ []) (found word now ∷ []))

  readings : w.view.readings ≡ v.view.readings ++ both
  readings = ap (λ (x : View). x.readings) second

  more : added v.view w.view ≡ both
  more = ap (drop (length v.view.readings)) readings ∙ drop-append_seam v.view.readings both

  here : (word == word) ≡ true
  here = eq-eqb word word refl

  differ : seen ≢ now
  differ e = false≢true (sym missed.other ∙ eq-eqb now seen (sym e))

  pub reads_two : ReadsTwo place seen now v w
  reads_two = record {
    only = record {
      same = kept' ∙ ap (λ (x : PassSight). record x { view = w.view }) kept ∙ ap (λ (x : View). record v { view = x })
          (second ∙ (λ i. record v.view { walk = note_where (now == 0) place v.view.walk; readings = sym readings i }));
      stand = readings ∙ ap (λ (rs : List Reading). v.view.readings ++ rs) (sym more);
      own = ap (changes (λ k. true)) more;
      here = ap (list_all (λ (r : Reading). r.word == word)) more ∙ (λ i. here i && (here i && true));
    };
    gave = record {
      differ = ne_eqb seen now differ;
      turns = ap (λ (rs : List Reading). turns_over seen now (of_word word rs)) more
          ∙ (λ i. turns_over seen now (if here i then found word seen ∷ (if here i then found word now ∷ [] else []) else (if here i then found word now ∷ [] else [])))
          ∙ (λ i. (eq-eqb seen seen refl i && eq-eqb now now refl i && true) || false);
    };
    many = λ one. differ (sym (missed.count.sole (ap (λ (x : View). x.passes.sizes.passes) first ∙ one)
        ∙ ap (λ (x : View). read_from 0 (refs_word x.passes.sizes place) x.readings) first
        ∙ read_last word 0 v.view.readings (found word seen) here));
  }
