use Rattle.std.proofs.Common.{rules, arith, ◌≡◌, ◌++◌, ◌∷◌, [], nat_le, is_some, length, Ok, Err}
use Rattle.file_text.specs.Text.{words_of_line}
use Rattle.conntrack_cmd.specs.Internal.{wait_after}
use Rattle.conntrack_cmd.specs.Line.{line_of}
use Rattle.conntrack_cmd.specs.Script.{commands_of}
use Rattle.conntrack_cmd.proofs.ScriptLines.{all_said, found_fault, read_more, wait_within}
use Rattle.conntrack_cmd.proofs.read.read_script.Goals as goal

pub returns-in-Err-clause-reason : goal.returns-in-Err-clause-reason
returns-in-Err-clause-reason c =
    let said : line_of (nat_le 256 (length c.lines.commands.items)) (is_some c.lines.wait) (words_of_line c.next_line.result.0.now) ≡ Err c.in-Err.kind = search rules in
    found_fault c.args.bytes.now c.lines.rest.now c.next_line.result.0.now c.next_line.result.1.now c.lines.commands.items c.lines.wait c.lines.number c.in-Err.kind c.lines.invariant
    c.next_line.ensures.lines said

pub lines-preserved : goal.lines-preserved
lines-preserved c =
    let said : line_of (nat_le 256 (length c.lines.commands.items)) (is_some c.lines.wait) (words_of_line c.next_line.result.0.now) ≡ Ok c.in-Ok.meaning = search rules in
    let longer : c.append.new.commands.items ≡ c.lines.commands.items ++ commands_of (c.in-Ok.meaning ∷ []) = search rules in
    let later : c.wait_after-wait.result ≡ wait_after c.lines.wait c.in-Ok.meaning (length c.lines.commands.items) = search rules in
    read_more c.args.bytes.now c.lines.rest.now c.next_line.result.0.now c.next_line.result.1.now c.lines.commands.items c.append.new.commands.items c.lines.wait c.wait_after-wait.result
    c.lines.number c.in-Ok.meaning c.lines.invariant c.next_line.ensures.lines c.next_line.ensures.less said longer later

pub returns-clause-script : goal.returns-clause-script
returns-clause-script c =
    rw c.unwrap_or.ensures (all_said c.args.bytes.now c.lines.rest.now c.lines.commands.items c.lines.wait c.lines.number c.len-all.result c.lines.invariant (search rules) (grind arith))

pub returns-clause-wait : goal.returns-clause-wait
returns-clause-wait c =
    rw c.unwrap_or.ensures (wait_within c.args.bytes.now c.lines.rest.now c.lines.commands.items c.lines.wait c.lines.number c.len-all.result c.lines.invariant (search rules))
