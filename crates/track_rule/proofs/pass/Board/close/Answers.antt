use Rattle.std.proofs.Common.{◌≡◌, ℕ, ap, subst, sym, ◌∙◌}
use Rattle.std.specs.Prelude.{◌+◌, slice_index}
use Rattle.history_book.specs.declared.sizes.Sizes.{Sizes}
use Rattle.track_rule.specs.Shares.{IsLast}
use Rattle.track_rule.specs.Sights.{PassSight, sizes_of}
use Rattle.track_rule.proofs.Handed.{first_word, last_pass}
use Rattle.track_rule.proofs.pass.Board.close.Goals as goal

pub returns : goal.returns
returns c =
    let last = c.close_with-closed.ensures.values.2 in
    let s = last.0 in
    let kept = last.1.0 in
    let q = c.stub.inside in
    let word : slice_index s.words 0 ≡ c.word-word.result = ap (λ ws. slice_index ws 0) last.2 ∙ first_word _ c.word-word.result c.word-word.ensures in
    let sized : q.seat.me.0.passes.sizes ≡ c.self.inside.table.shared.key =
    ap (λ (x : PassSight). sizes_of x) c.stub.view_is ∙ c.requires.one.sizes ∙ sym (ap (λ b. b.sizes) c.self.view_is) in
    let all : q.seat.me.0.passes.shares + q.seat.me.0.passes.returned ≡ q.seat.me.0.passes.sizes.passes =
    subst (λ (x : PassSight). x.view.passes.shares + x.view.passes.returned ≡ (sizes_of x).passes) (sym c.stub.view_is) c.requires.all in
    subst (λ (n : ℕ). IsLast c.args.stub.view n) word
    (subst (λ (x : PassSight). IsLast x.view (slice_index s.words 0)) c.stub.view_is
    (last_pass c.self.inside.table.shared.key kept.0 s q.seat.id q.seat.me.0 sized kept.1 last.1.1 c.stub.invariant.right.some
    (all ∙ ap (λ (z : Sizes). z.passes) sized)))
