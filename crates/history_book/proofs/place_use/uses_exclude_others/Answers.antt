use Rattle.std.proofs.Common.{◌≡◌, ℕ, ◌+◌, ◌<◌, ◌≤◌, min, zero, suc, ⊎_elim, arith}
use Rattle.std.proofs.lemmas.Bool.{cases_lt}
use Rattle.history_book.specs.PlaceUse.{users_of}
use Rattle.history_book.proofs.place_use.uses_exclude_others.Goals as goal

-- of three that add up to one, the last of which counts once at most
first_alone : (f o n : ℕ) → f + o + min n 1 ≡ 1 → 0 < f → o + n ≡ 0
first_alone f o zero all some = omega (arith, all, some)
first_alone f o (suc n) all some = absurd (omega (arith, all, some))

second_alone : (f o n : ℕ) → f + o + min n 1 ≡ 1 → 0 < o → n ≡ 0
second_alone f o zero all some = omega (arith)
second_alone f o (suc n) all some = absurd (omega (arith, all, some))

not_first : (f o n k d : ℕ) → f + o + min n 1 ≡ 1 → k ≤ n → d ≤ o → 0 < k + d → f ≡ 0
not_first f o zero k d all low owes some = omega (arith, all, low, owes, some)
not_first f o (suc n) k d all low owes some = omega (arith, all)

third_left : (f o n f' o' n' : ℕ) → f + o + min n 1 ≡ 1 → f' + o' + min n' 1 ≡ 1 → f' ≡ f → o' ≡ o → 0 < n → 0 < n'
third_left f o zero f' o' n' all all' free owed some = absurd (omega (arith, some))
third_left f o (suc n) f' o' zero all all' free owed some = absurd (omega (arith, all, all', free, owed))
third_left f o (suc n) f' o' (suc n') all all' free owed some = omega (arith)

pub returns : goal.returns
returns c = record {
  nobodys = λ entries place u right some.
      ⊎_elim (λ (below : place < entries). first_alone u.free u.passes.owed (users_of u) (right.one below) some)
      (λ (above : entries ≤ place). omega (arith, right.beyond above)) (cases_lt place entries);
  held = λ entries place u part right among some.
      let low : part.kept ≤ users_of u = omega (arith, among.kept) in
      ⊎_elim (λ (below : place < entries). not_first u.free u.passes.owed (users_of u) part.kept part.owed (right.one below) low among.owed some)
      (λ (above : entries ≤ place). omega (arith, right.beyond above)) (cases_lt place entries);
  last = λ entries place u part right among some.
      let owed : 0 < u.passes.owed = omega (arith, among.owed, some) in
      ⊎_elim (λ (below : place < entries). second_alone u.free u.passes.owed (users_of u) (right.one below) owed)
      (λ (above : entries ≤ place). omega (arith, right.beyond above)) (cases_lt place entries);
  kept = λ entries place old new right then some out.
      ⊎_elim (λ (below : place < entries). third_left old.free old.passes.owed (users_of old) new.free new.passes.owed (users_of new)
      (right.one below) (then.one below) out.free out.owed some)
      (λ (above : entries ≤ place). absurd (omega (arith, right.beyond above, some))) (cases_lt place entries);
}
