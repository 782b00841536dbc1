use Rattle.std.proofs.Common.{ap, ◌∙◌, map}
use Rattle.std.proofs.Math.Seq.{map-set_same}
use Rattle.event_listen.specs.Line.{EarSight}
use Rattle.event_listen.proofs.hearing.Hearing.hear.Goals as goal

pub returns : goal.returns
returns g c = map-set_same (λ (e : EarSight). e.queue) c.self.inside.ears.items c.args.sender c.hear.new.self c.index_mut.result.now
    (c.hear.ensures ∙ ap (λ (e : EarSight). e.queue) c.index_mut.ensures.value) ∙ ap (map (λ (e : EarSight). e.queue)) c.self.view_is ∙ c.requires.hearing
