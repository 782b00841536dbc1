use Rattle.std.proofs.Common.{rules, arith, ◌≡◌, ◌++◌, nat_le, length, Ok, Err, option_to_list}
use Rattle.file_text.specs.Text.{words_of_line}
use Rattle.nat_setup.specs.RuleText.{line_of}
use Rattle.nat_setup.proofs.RuleLines.{all_read, found_fault, read_more}
use Rattle.nat_setup.proofs.read.read_rules.Goals as goal

pub returns-in-Err-clause-reason : goal.returns-in-Err-clause-reason
returns-in-Err-clause-reason c =
    let said : line_of (nat_le 256 (length c.lines.rules.items)) (words_of_line c.next_line.result.0.now) ≡ Err c.in-Err.kind = search rules in
    found_fault c.args.bytes.now c.lines.rest.now c.next_line.result.0.now c.next_line.result.1.now c.lines.rules.items c.lines.number c.in-Err.kind c.lines.invariant c.next_line.ensures.lines said

pub lines-preserved : goal.lines-preserved
lines-preserved c =
    let said : line_of (nat_le 256 (length c.lines.rules.items)) (words_of_line c.next_line.result.0.now) ≡ Ok c.in-Ok.rule = search rules in
    let longer : c.append.new.rules.items ≡ c.lines.rules.items ++ option_to_list c.in-Ok.rule = search rules in
    read_more c.args.bytes.now c.lines.rest.now c.next_line.result.0.now c.next_line.result.1.now c.lines.rules.items c.append.new.rules.items c.lines.number c.in-Ok.rule
    c.lines.invariant c.next_line.ensures.lines c.next_line.ensures.less said longer

pub returns-clause-rules : goal.returns-clause-rules
returns-clause-rules c = all_read c.args.bytes.now c.lines.rest.now c.lines.rules.items c.lines.number c.lines.invariant (grind arith)

pub returns-clause-lawful : goal.returns-clause-lawful
returns-clause-lawful c =
    (c.rules_are_lawful.ensures c.args.bytes.now c.lines.rules.items
    (all_read c.args.bytes.now c.lines.rest.now c.lines.rules.items c.lines.number c.lines.invariant (grind arith))).0

pub returns-clause-few : goal.returns-clause-few
returns-clause-few c =
    (c.rules_are_lawful.ensures c.args.bytes.now c.lines.rules.items
    (all_read c.args.bytes.now c.lines.rest.now c.lines.rules.items c.lines.number c.lines.invariant (grind arith))).1
