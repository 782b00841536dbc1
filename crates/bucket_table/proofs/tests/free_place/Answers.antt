use Rattle.std.proofs.Common.{◌≡◌, ℕ, ap, sym, subst, ◌∙◌, true, List, Option}
use Rattle.std.specs.Prelude.{unwrap_or}
use Rattle.room_list.specs.Roomed.{Roomed}
use Rattle.track_rule.specs.Free.{is_among, known_free}
use Rattle.track_rule.specs.Sights.{PassSight}
use Rattle.track_rule.specs.Slots.{no_list}
use Rattle.bucket_table.proofs.Placing.{listed}
use Rattle.bucket_table.proofs.tests.free_place.Goals as goal

pub returns-clause-listed : goal.returns-clause-listed
returns-clause-listed g c =
    let list : known_free c.free_take.new.self.view ≡ c.in-Some.list.items =
    ap known_free c.if-not-free_take.ensures.takes.view
    ∙ ap (λ (o : Option (Roomed ℕ)). (unwrap_or o no_list).items) (sym c.free_swap.ensures.list ∙ c.in-Some.is) in
    let known : known_free c.free_swap-2.new.self.view ≡ c.in-Some.list.items =
    ap (λ (y : PassSight). known_free y.view) c.free_swap-2.ensures.kept
    ∙ ap (λ (y : PassSight). known_free y.view) c.free_swap.ensures.kept ∙ list in
    subst (λ (xs : List ℕ). is_among c.at-place.result xs ≡ true) (sym known) (listed c.at-place.result c.in-Some.list.items c.at-place.ensures)
