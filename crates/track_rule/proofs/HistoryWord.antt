-- The history word alone changes.
use Rattle.std.proofs.Common.{◌≡◌, ℕ, ◌<◌, List, arith}
use Rattle.std.specs.Prelude.{slice_index, slice_set}
use Rattle.std.proofs.lemmas.List.{get_or-set_other}
use Rattle.history_book.specs.declared.sizes.Sizes.{Sizes}
use Rattle.track_rule.specs.Layout.{first_word, gen_word, head_word, next_word, phase_at, phase_word, refs_at, refs_word, second_word, turn_at, turn_word}
use Rattle.track_rule.proofs.Frames.{SameChains}

module _ (z : Sizes) (ws : List ℕ) (n : ℕ) where
  pub word_same : SameChains z ws (slice_set ws 0 n)
  word_same = record {
    gens = λ b below. get_or-set_other ws 0 (gen_word z b) n 0 (λ e. omega (arith, e));
    links = record {
      heads = λ b below. get_or-set_other ws 0 (head_word z b) n 0 (λ e. omega (arith, e));
      firsts = λ x. get_or-set_other ws 0 (first_word z x) n 0 (λ e. omega (arith, e));
      seconds = λ x. get_or-set_other ws 0 (second_word z x) n 0 (λ e. omega (arith, e));
      nexts = λ x. get_or-set_other ws 0 (next_word z x) n 0 (λ e. omega (arith, e));
    };
  }

  pub word_refs : (q : ℕ) → refs_at z (slice_set ws 0 n) q ≡ refs_at z ws q
  word_refs q = get_or-set_other ws 0 (refs_word z q) n 0 (λ e. omega (arith, e))

  pub word_phase : (q : ℕ) → phase_at z (slice_set ws 0 n) q ≡ phase_at z ws q
  word_phase q = get_or-set_other ws 0 (phase_word z q) n 0 (λ e. omega (arith, e))

  pub word_turn : (q : ℕ) → turn_at z (slice_set ws 0 n) q ≡ turn_at z ws q
  word_turn q = get_or-set_other ws 0 (turn_word z q) n 0 (λ e. omega (arith, e))

  pub word_other : (k : ℕ) → 0 < k → slice_index (slice_set ws 0 n) k ≡ slice_index ws k
  word_other k some_k = get_or-set_other ws 0 k n 0 (λ e. omega (arith, e, some_k))
