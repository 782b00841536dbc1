use Rattle.std.proofs.Common.{◌≡◌, map, ap, subst, sym, ◌∙◌, Global}
use Rattle.std.specs.String.{string_bytes}
use Rattle.command_words.specs.Asked.{asked_as}
use Rattle.replay_top.specs.Causes.{HasCause}
use Rattle.replay_top.specs.ErrorLine.{line_of, Tells}
use Rattle.replay_top.specs.Internal.Ending.{heard_of, line_about}
use Rattle.replay_top.specs.Replay.{IsReplay}
use Rattle.replay_top.proofs.Findings.{answers_done, answers_not_written, answers_refused, failed_files, has_cause, line_named, others_refused}
use Rattle.replay_top.proofs.program.top.Goals as goal

pub returns-in-Done-clause-exact : goal.returns-in-Done-clause-exact
returns-in-Done-clause-exact g c = λ found finds.
    let words = map (string_bytes {Z = Global}) c.args.words.now in
    let replay : IsReplay words (g.F.Files.source c.args.files.now) c.in-Done.made.report (heard_of c.in-Done.made.listened) =
    record { asked = asked_as c.in-Ok.asked; says = c.in-Ok.ensures.exact; holds = c.in-Done.ensures.ends.0.replay } in
    rw c.run_with.ensures.status
    (answers_done c.given_is_told.ensures.all c.words_say_one.ensures.all words
    (g.F.Files.source c.args.files.now) (g.F.Files.source c.run.new.files) (g.K.Sink.tape c.args.out.now) (g.K.Sink.tape c.run.new.out)
    c.in-Done.made.report (heard_of c.in-Done.made.listened) found replay finds)

pub returns-in-NotWritten-clause-exact : goal.returns-in-NotWritten-clause-exact
returns-in-NotWritten-clause-exact g c = λ found finds.
    let words = map (string_bytes {Z = Global}) c.args.words.now in
    let replay : IsReplay words (g.F.Files.source c.args.files.now) c.in-NotWritten.made.report (heard_of c.in-NotWritten.made.listened) =
    record { asked = asked_as c.in-Ok.asked; says = c.in-Ok.ensures.exact; holds = c.in-NotWritten.ensures.ends.0.replay } in
    rw c.run_with-in-NotWritten.ensures.status
    (answers_not_written c.given_is_told.ensures.all c.words_say_one.ensures.all words
    (g.F.Files.source c.args.files.now) (g.F.Files.source c.run.new.files) (g.K.Sink.tape c.args.out.now) (g.K.Sink.tape c.run.new.out)
    c.in-NotWritten.made.report (heard_of c.in-NotWritten.made.listened) found replay c.in-NotWritten.ensures.ends.0.failed finds)

pub returns-clause-refused : goal.returns-clause-refused
returns-clause-refused g c = λ done written.
    let words = map (string_bytes {Z = Global}) c.args.words.now in
    let asked = asked_as c.in-Ok.asked in
    let line : line_about c.name_among.result.now c.in-Refused.why ≡ line_of words c.in-Refused.why =
    ap (λ name. line_about name c.in-Refused.why) c.name_among.ensures ∙ sym (line_named words asked c.in-Ok.ensures.exact c.in-Refused.why) in
    record {
      why = c.in-Refused.why;
      cause = has_cause words asked c.in-Ok.ensures.exact (g.F.Files.source c.args.files.now) (g.F.Files.source c.run.new.files)
          c.in-Refused.why c.in-Refused.ensures.ends.0;
      own = c.refused-in-Refused.ensures.status;
      line = subst (λ text. Tells text (g.K.Sink.tape c.args.err.now) (g.K.Sink.tape c.refused-in-Refused.new.err)) line
          c.refused-in-Refused.ensures.line;
    }

pub returns-clause-files_failed : goal.returns-clause-files_failed
returns-clause-files_failed g c = λ failed.
    let words = map (string_bytes {Z = Global}) c.args.words.now in
    failed_files words (g.F.Files.source c.args.files.now) (g.F.Files.source c.run.new.files) c.in-Refused.why
    (has_cause words (asked_as c.in-Ok.asked) c.in-Ok.ensures.exact (g.F.Files.source c.args.files.now) (g.F.Files.source c.run.new.files)
    c.in-Refused.why c.in-Refused.ensures.ends.0) (sym c.refused-in-Refused.ensures.status ∙ failed)

pub returns-clause-exact : goal.returns-clause-exact
returns-clause-exact g c = λ found finds.
    let words = map (string_bytes {Z = Global}) c.args.words.now in
    let cause : HasCause words (g.F.Files.source c.args.files.now) (g.F.Files.source c.run.new.files) c.in-Refused.why =
    has_cause words (asked_as c.in-Ok.asked) c.in-Ok.ensures.exact (g.F.Files.source c.args.files.now) (g.F.Files.source c.run.new.files)
    c.in-Refused.why c.in-Refused.ensures.ends.0 in
    rw c.refused-in-Refused.ensures.status
    (answers_refused c.given_is_told.ensures.all c.words_say_one.ensures.all words
    (g.F.Files.source c.args.files.now) (g.F.Files.source c.run.new.files) (g.K.Sink.tape c.args.out.now) (g.K.Sink.tape c.run.new.out)
    c.in-Refused.why found cause finds)

pub returns-clause-others : goal.returns-clause-others
returns-clause-others g c =
    let words = map (string_bytes {Z = Global}) c.args.words.now in
    others_refused words (g.F.Files.source c.args.files.now) (g.F.Files.source c.run.new.files) c.in-Refused.why
    (has_cause words (asked_as c.in-Ok.asked) c.in-Ok.ensures.exact (g.F.Files.source c.args.files.now) (g.F.Files.source c.run.new.files)
    c.in-Refused.why c.in-Refused.ensures.ends.0) c.in-Refused.ensures.ends.2
