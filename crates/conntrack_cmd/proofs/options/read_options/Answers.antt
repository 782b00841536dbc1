use Rattle.std.proofs.Common.{rules, ◌≡◌, ◌∙◌, [], ◌∷◌, drop, get_or, Ok}
use Rattle.file_text.specs.Text.{words_of}
use Rattle.conntrack_cmd.specs.Options.{with_option}
use Rattle.conntrack_cmd.proofs.OptionWords.{read_more}
use Rattle.conntrack_cmd.proofs.options.read_options.Goals as goal

pub options-preserved : goal.options-preserved
options-preserved c =
    let first : words_of c.options.rest.now ≡ c.in-Some.name.now ∷ words_of c.in-Some.behind.now = search rules in
    let value : c.next_value.result.0.now ≡ get_or (words_of c.in-Some.behind.now) 0 [] = search rules in
    let rest : words_of c.next_value.result.1.now ≡ drop 1 (words_of c.in-Some.behind.now) = search rules in
    let read : with_option c.args.one c.options.filter c.in-Some.name.now c.next_value.result.0.now ≡ Ok c.in_ok-filter.filter = search rules in
    read_more c.args.one c.options.filter c.in_ok-filter.filter c.in-Some.name.now c.next_value.result.0.now (words_of c.options.rest.now) (words_of c.in-Some.behind.now)
    (words_of c.next_value.result.1.now) first value rest read ∙ c.options.invariant
