use Rattle.std.proofs.Common.{rules, [], ◌∷◌, ◌∙◌, ap, arith, length, length-append}
use Rattle.made_captures.proofs.Records.{captures_more}
use Rattle.made_captures.specs.MadeCapture.{contents}
use Rattle.made_captures.proofs.make_captures.Goals as goal

pub threads-preserved : goal.threads-preserved
threads-preserved c =
    let longer = ap length c.push.ensures.items ∙ length-append c.threads.made.items (c.in_ok-make_capture.field-0 ∷ []) in
    record {
      made = ap contents c.push.ensures.items
          ∙ captures_more c.args.seed c.args.packets c.threads.thread c.threads.made.items c.in_ok-make_capture.field-0
          c.threads.invariant.made c.in_ok-make_capture.ensures;
      number = omega (arith, longer);
      room = search rules;
    }
