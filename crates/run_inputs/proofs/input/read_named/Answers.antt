use Rattle.std.proofs.Common.{ℕ, List, Option, option_map, subst, Bor}
use Rattle.command_words.specs.Asked.{texts}
use Rattle.run_inputs.specs.declared.flaw.FileKind.TheVariants as kind
use Rattle.run_inputs.specs.Content.{no_totals}
use Rattle.run_inputs.specs.Reading.{bytes_in, contents_in, GaveContents}
use Rattle.run_inputs.specs.Files.{files_of_kind}
use Rattle.run_inputs.proofs.All.{script_later}
use Rattle.run_inputs.proofs.OneByOne.{gave_later, same_faults, stays_then}
use Rattle.run_inputs.proofs.input.read_named.Goals as goal

-- the name that is asked for, if one is
abbrev name_in : Option (Bor (List ℕ)) → Option (List ℕ)
name_in name = option_map (λ (s : Bor (List ℕ)). s.now) name

pub returns-in-Ok-read_captures-clause-reads : goal.returns-in-Ok-read_captures-clause-reads
returns-in-Ok-read_captures-clause-reads g c =
    let start = g.F.Files.source c.args.files.now in
    let ruled = g.F.Files.source c.read_rule_file.new.files in
    let scripted = g.F.Files.source c.read_script_file.new.files in
    let rules = c.in-Ok.ensures in
    let script = c.in-Ok-read_script_file.ensures in
    let captures = c.in-Ok-read_captures.ensures.reads in
    let stays = stays_then start ruled scripted c.read_rule_file.ensures.stays c.read_script_file.ensures.stays in (
      record {
        rules = rules.reads.0;
        script = script_later start ruled c.read_rule_file.ensures.stays (name_in c.args.names.now.script) c.in-Ok-read_script_file.script script.reads.0;
        captures = gave_later start scripted stays no_totals (files_of_kind kind.Capture (texts c.args.names.now.captures.items))
            (bytes_in c.in-Ok-read_captures.captures.items) (contents_in c.in-Ok-read_captures.captures.items)
            (subst (λ (names : List (Bor (List ℕ))). GaveContents scripted no_totals (files_of_kind kind.Capture (texts names))
            (bytes_in c.in-Ok-read_captures.captures.items) (contents_in c.in-Ok-read_captures.captures.items)) c.as_slice.ensures captures.0.gave);
        ready = record { lawful = rules.lawful; commands = script.few; named = script.named; captures = captures.0.ready };
      },
      same_faults start scripted (g.F.Files.source c.read_captures.new.files) (same_faults start ruled scripted rules.reads.1 script.reads.1) captures.1,
    )
