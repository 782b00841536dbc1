use Rattle.std.proofs.Common.{◌≡◌, ◌<◌, ◌+◌, ◌∙◌, ◌∷◌, ℕ, Some, [], List, ap, length, arith, refl, rules, subst, sym, take}
use Rattle.packet_headers.specs.declared.frame.Capture.{Capture}
use Rattle.command_words.specs.Asked.{workload_as}
use Rattle.std.specs.Prelude.{slice_get}
use Rattle.std.proofs.lemmas.List.{length-append, take_all}
use Rattle.run_inputs.specs.Reading.{zones_in}
use Rattle.run_inputs.proofs.Captures.{in_zones_next}
use Rattle.run_inputs.proofs.Making.{Reading, all_ready, counted, next_read, nothing_read}
use Rattle.run_inputs.proofs.made.read_workload.Goals as goal

pub made-init : goal.made-init
made-init c =
    let w = workload_as c.args._workload.now in
    let start : Reading w [] c.args.made.items = nothing_read w c.args.made.items c.requires.made in
    record {
      reading = subst (λ (captures : List Capture). Reading w captures c.args.made.items) (sym c.in_ok-captures.ensures.empty) start;
      in_zones = subst (λ (captures : List Capture). zones_in captures ≡ take (length captures) c.args.zones.now) (sym c.in_ok-captures.ensures.empty) refl;
      room = omega (arith, counted w [] c.args.made.items start, c.len.ensures.exact, c.in_ok-captures.ensures.room);
    }

pub push-requires : goal.push-requires
push-requires c =
    let some : 0 < length c.made.left.items = search rules in
    omega (arith, some, counted (workload_as c.args._workload.now) c.made.captures.items c.made.left.items c.made.invariant.reading, c.made.invariant.room)

pub made-preserved : goal.made-preserved
made-preserved c =
    let w = workload_as c.args._workload.now in
    let next : Reading w c.push.new.self.items c.remove-bytes.new.self.items =
    rw c.push.ensures.items
    (next_read w c.made.captures.items c.made.left.items c.remove-bytes.new.self.items c.remove-bytes.result c.in_ok-read_made.field-0
    c.made_captures_are_read.ensures.no_others c.requires.within.few_packets c.made.invariant.reading c.remove-bytes.ensures.item
    c.remove-bytes.ensures.items (record {
      bytes = c.in_ok-read_made.ensures.bytes;
      says = c.in_ok-read_made.ensures.frames;
      inside = c.in_ok-read_made.ensures.inside;
      timely = c.in_ok-read_made.ensures.timely;
    })) in
    record {
      reading = next;
      in_zones = rw c.push.ensures.items
          (in_zones_next c.args.zones.now (length c.made.captures.items) c.made.captures.items c.in_ok-read_made.field-0 c.made.invariant.in_zones
          (ap (slice_get c.args.zones.now) (sym c.len-in-made.ensures.exact) ∙ c.zone_at-zone.ensures ∙ ap (λ (z : ℕ). Some z) (sym c.in_ok-read_made.ensures.in_zone))
          ∙ ap (λ n. take n c.args.zones.now) (sym (length-append c.made.captures.items (c.in_ok-read_made.field-0 ∷ []))));
      room = omega (arith, c.push.ensures.room, c.made.invariant.room);
    }

pub zone_at-zone-requires : goal.zone_at-zone-requires
zone_at-zone-requires c =
    let some : 0 < length c.made.left.items = search rules in
    omega (arith, some, counted (workload_as c.args._workload.now) c.made.captures.items c.made.left.items c.made.invariant.reading, c.requires.zoned, c.len-in-made.ensures.exact)

pub returns-clause-in_zones : goal.returns-clause-in_zones
returns-clause-in_zones c =
    let none : length c.made.left.items ≡ 0 = search rules in
    c.made.invariant.in_zones
    ∙ take_all (length c.made.captures.items) c.args.zones.now
    (omega (arith, none, counted (workload_as c.args._workload.now) c.made.captures.items c.made.left.items c.made.invariant.reading, c.requires.zoned))

pub returns-clause-ready : goal.returns-clause-ready
returns-clause-ready c =
    let none : length c.made.left.items ≡ 0 = search rules in
    all_ready (workload_as c.args._workload.now) c.made.captures.items c.made.left.items c.requires.within c.made.invariant.reading none
