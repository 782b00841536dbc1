use Rattle.std.proofs.Common.{◌≡◌, Some, subst, sym, ◌∙◌}
use mathlib.Core.Option.{some-injective}
use Rattle.book_desk.specs.declared.book.Book.{Book}
use Rattle.book_desk.specs.Turn.Steps.{IsLast}
use Rattle.book_desk.proofs.Passes.Joined.{last_pass}
use Rattle.book_desk.proofs.turn.steps.last_book.Goals as goal

pub unreachable-requires : goal.unreachable-requires
unreachable-requires c =
    let f = c.close_with-closed.ensures.values.2 in
    let v = c.args.seat.me.0 in
    let k = f.1.0 in
    let last = last_pass c.args.table.shared.key k.0 k.1 f.0 c.args.seat.id v k.2 f.1.1 c.requires.some c.requires.turn c.requires.all in
    let b : Book = k.1 in
    let there : c.take.result ≡ Some b = some-injective c.take.result (Some b) (sym c.take.ensures.value ∙ f.4 0 (Some b) last.0) in
    c.in_default.not-Some b there

pub returns : goal.returns
returns c =
    let f = c.close_with-closed.ensures.values.2 in
    let v = c.args.seat.me.0 in
    let k = f.1.0 in
    let last = last_pass c.args.table.shared.key k.0 k.1 f.0 c.args.seat.id v k.2 f.1.1 c.requires.some c.requires.turn c.requires.all in
    let b : Book = k.1 in
    let there : c.take.result ≡ Some b = some-injective c.take.result (Some b) (sym c.take.ensures.value ∙ f.4 0 (Some b) last.0) in
    let same : Some b ≡ Some c.in-Some.book = sym there ∙ c.in-Some.is in
    let its : b ≡ c.in-Some.book = cc in
    subst (IsLast v) its last.1
