use Rattle.std.proofs.Common.{◌≡◌, ℕ, ◌<◌, ◌≤◌, zero, suc, List, [], ◌∷◌, length, get_or, refl, sym, ap, ◌∙◌, Bor, arith}
use Rattle.command_words.specs.Asked.{texts}
use Rattle.run_inputs.specs.declared.flaw.FileKind.TheVariants as kind
use Rattle.run_inputs.specs.Files.{file_at, files_of_kind}
use Rattle.replay_top.proofs.error_line.name_at.Goals as goal

-- the name of this index
named_at : (names : List (Bor (List ℕ))) (k : ℕ) (d : Bor (List ℕ)) → k < length names
    → (file_at (files_of_kind kind.Capture (texts names)) k).name ≡ (get_or names k d).now
named_at [] k d below = absurd (omega (arith, below))
named_at (name ∷ names) zero d below = refl
named_at (name ∷ names) (suc k) d below = named_at names k d (omega (arith, below))

-- there is none behind the last
unnamed : (names : List (Bor (List ℕ))) (k : ℕ) → length names ≤ k → (file_at (files_of_kind kind.Capture (texts names)) k).name ≡ []
unnamed [] k past = refl
unnamed (name ∷ names) zero past = absurd (omega (arith, past))
unnamed (name ∷ names) (suc k) past = unnamed names k (omega (arith, past))

pub returns-in-Some : goal.returns-in-Some
returns-in-Some c =
    let found = c.in-Some.ensures.lookup in
    ap (λ (name : Bor (List ℕ)). name.now) found.1 ∙ sym (named_at c.args.names.now c.args.index c.in-Some.name.now found.3.0)

pub returns-in-None : goal.returns-in-None
returns-in-None c = sym (unnamed c.args.names.now c.args.index c.in-None.ensures.lookup.3)
