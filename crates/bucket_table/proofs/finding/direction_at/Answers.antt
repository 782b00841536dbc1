use Rattle.std.proofs.Common.{ℕ, Bool, true, false, subst}
use Rattle.bucket_table.specs.Following.{Compares}
use Rattle.bucket_table.proofs.Directing.{original_is, reply_is}
use Rattle.bucket_table.proofs.finding.direction_at.Goals as goal

pub returns-then-is_here : goal.returns-then-is_here
returns-then-is_here c =
    original_is c.args.goal.now c.args.place c.args.pass.now c.is_here.new.pass
    (subst (λ (k : ℕ). Compares c.args.goal.now k true c.args.pass.now c.is_here.new.pass) c.link_of.ensures
    (subst (λ (b : Bool). Compares c.args.goal.now c.link_of.result b c.args.pass.now c.is_here.new.pass) c.if-is_here.true c.is_here.ensures))

pub returns-then-is_here-2 : goal.returns-then-is_here-2
returns-then-is_here-2 c =
    reply_is c.args.goal.now c.args.place c.args.pass.now c.is_here.new.pass c.is_here-in-Reply.new.pass
    (subst (λ (k : ℕ). Compares c.args.goal.now k false c.args.pass.now c.is_here.new.pass) c.link_of.ensures
    (subst (λ (b : Bool). Compares c.args.goal.now c.link_of.result b c.args.pass.now c.is_here.new.pass) c.if-is_here.false c.is_here.ensures))
    (subst (λ (k : ℕ). Compares c.args.goal.now k true c.is_here.new.pass c.is_here-in-Reply.new.pass) c.link_of-in-Reply.ensures
    (subst (λ (b : Bool). Compares c.args.goal.now c.link_of-in-Reply.result b c.is_here.new.pass c.is_here-in-Reply.new.pass) c.if-is_here-2.true c.is_here-in-Reply.ensures))
