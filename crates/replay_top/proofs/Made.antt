-- What a report of all files that are asked for is.
use Rattle.std.proofs.Common.{◌≡◌, ℕ, Bool, false, Option, Some, None, List, [], ◌∷◌, ◌++◌, length, map, suc, refl, sym, subst, ap, ◌∙◌}
use Rattle.std.specs.Prelude.{Err, IfOk, is_some, Ok, option_to_list, Result}
use Rattle.std.proofs.lemmas.List.{length-map}
use Rattle.std.proofs.lemmas.Simd.{map-map}
use Rattle.command_words.specs.Words.{made, named, Origin, Request}
use Rattle.conntrack_cmd.specs.declared.read.Script.{Script}
use Rattle.ct_io.specs.Source.{Source}
use Rattle.history_book.specs.declared.event.Note.{Note}
use Rattle.history_book.specs.declared.sizes.Sizes.{Sizes}
use Rattle.nat_setup.specs.declared.rule.Rule.{Rule}
use Rattle.packet_path.specs.Packet.{Given}
use Rattle.packet_headers.specs.declared.frame.Capture.{Capture}
use Rattle.run_inputs.specs.declared.flaw.FileKind.TheVariants as kind
use Rattle.run_inputs.specs.declared.input.Inputs.{Inputs}
use Rattle.run_inputs.specs.Content.{Content, no_totals, rules, script, Totals, totals_with}
use Rattle.run_inputs.specs.Inputs.{AreGiven, AreReadFrom}
use Rattle.run_inputs.specs.Reading.{bytes_in, contents_in, GaveContents, GaveInputs, GaveOrigin, GaveRules, GaveScript, zones_in}
use Rattle.run_inputs.specs.Made.{AreInputsOf}
use Rattle.replay_runs.specs.declared.listened.Listened.{Listened}
use Rattle.replay_runs.specs.Heard.{AreHeard, HeardEach, made_before_join}
use Rattle.report_text.specs.Heard.{heard_counts, heard_text}
use Rattle.replay_top.specs.declared.ending.Replayed.{Replayed}
use Rattle.replay_top.specs.Internal.Ending.{counts_of, heard_of, IsReplayWith}
use Rattle.ftp_rewrite.specs.Sent.{Recorded, recorded}
use Rattle.replay_top.specs.Internal.Replaying.{given_of_capture, Prepared, prepared, recorded_of, ReplaysInputs, rewritten_text, work_in}
use Rattle.replay_runs.specs.Replaying.{work_of}
use Rattle.replay_top.specs.Replay.{captures_in, given_frames, given_in, heard_lines, rewrite_lines, rules_in, sizes_of, threads_of, work_asked, work_with}
use Rattle.made_captures.specs.MadeCapture.{made_capture}
use Rattle.std.proofs.lemmas.List.FromFn.{length-map-range_with_len}
use Rattle.replay_runs.specs.Report.{IsWellFormed, Work}
use Rattle.run_inputs.specs.Files.{files_of_kind, InputFile}
use Rattle.room_list.specs.Roomed.{Roomed}

-- what is read off captures as they are replayed is the same where they are
alike : {X : Type 0} (f : Prepared → X) (defrag : Bool) (all captures : List Capture) → map (prepared false) all ≡ map (prepared defrag) captures
    → map (λ c. f (prepared false c)) all ≡ map (λ c. f (prepared defrag c)) captures
alike f defrag all captures same = sym (map-map f (prepared false) all) ∙ ap (map f) same ∙ map-map f (prepared defrag) captures

-- what was replayed of inputs that were set up as it is asked for is what is asked for
pub inputs_replayed : (asked : Request) (inputs : Inputs) (captures : List Capture) (ftp : Roomed ℕ) (sizes : Sizes) {E : Type 0} (result : Result Replayed E)
    → map (prepared false) captures ≡ map (prepared asked.defrag) inputs.captures.items
    → ftp.items ≡ asked.ftp → sizes ≡ sizes_of asked
    → IfOk result (λ done. IsWellFormed (record { setup = record { rules = inputs.rules; ftp = ftp }; sizes = sizes })
    (work_of captures inputs.script) done.report)
    → IfOk result (λ done. AreHeard (made_before_join (work_of captures inputs.script) done.report) done.listened)
    → IfOk result (λ done. is_some done.listened ≡ asked.listen)
    → IfOk result (λ done. rewritten_text done.rewrites ≡ rewrite_lines asked.rewrite (map recorded captures) done.report)
    → IfOk result (ReplaysInputs asked inputs)
inputs_replayed asked inputs captures ftp sizes (Ok done) same copied sized well_formed heard listened rewrites =
    let so : work_of captures inputs.script ≡ work_in asked.defrag inputs.captures.items inputs.script =
    ap (λ (given : List (List Given)). record { captures = given; commands = inputs.script.commands.items; wait = inputs.script.wait })
    (alike (λ p. given_frames p.zone p.capture) asked.defrag captures inputs.captures.items same) in
    record {
      setup = record { rules = inputs.rules; ftp = ftp };
      rules = refl;
      ftp = copied;
      well_formed = subst (λ (w : Work). IsWellFormed (record { setup = record { rules = inputs.rules; ftp = ftp }; sizes = sizes_of asked }) w done.report) so
          (subst (λ (z : Sizes). IsWellFormed (record { setup = record { rules = inputs.rules; ftp = ftp }; sizes = z })
          (work_of captures inputs.script) done.report) sized well_formed);
      listened = listened;
      heard = subst (λ (w : Work). AreHeard (made_before_join w done.report) done.listened) so heard;
      rewrites = rewrites ∙ ap (λ (told : List Recorded). rewrite_lines asked.rewrite told done.report)
          (alike (λ p. p.capture) asked.defrag captures inputs.captures.items same);
    }
inputs_replayed asked inputs captures ftp sizes (Err error) same copied sized well_formed heard listened rewrites = tt

-- what a listener heard of each thread
heard_each : (done : List (List Note)) (listened : Option Listened) → AreHeard done listened → HeardEach done (heard_of listened)
heard_each done None h = tt
heard_each done (Some l) h = h.heard

-- and whether there was one
heard_some : (listened : Option Listened) → is_some (heard_of listened) ≡ is_some listened
heard_some None = refl
heard_some (Some l) = refl

-- the lines of what was heard are those of the events that were made
lines_of : (done : List (List Note)) (listened : Option Listened) → AreHeard done listened
    → heard_text (counts_of listened) ≡ heard_lines done (heard_of listened)
unfolding heard_text
lines_of done None h = refl
lines_of done (Some l) h = ap (λ (ms : List ℕ). heard_text (heard_counts ms (map length l.heard))) h.counted

-- without a file of rules there are none, and without a script there is no command
no_rules : (captures : List Capture) → rules_in (contents_in captures) ≡ []
no_rules [] = refl
no_rules (c ∷ captures) = no_rules captures

no_commands : (given : List (List Given)) (captures : List Capture)
    → work_with given (contents_in captures) ≡ record { captures = given; commands = []; wait = 0 }
no_commands given [] = refl
no_commands given (c ∷ captures) = no_commands given captures

-- what is given of captures
given_captures : (defrag : Bool) (captures : List Capture)
    → given_in defrag (zones_in captures) (bytes_in captures) (contents_in captures) ≡ map (given_of_capture defrag) captures
given_captures defrag [] = refl
given_captures defrag (c ∷ captures) = ap (λ (given : List (List Given)). given_of_capture defrag c ∷ given) (given_captures defrag captures)

told_captures : (defrag : Bool) (captures : List Capture)
    → captures_in defrag (bytes_in captures) (contents_in captures) ≡ map (recorded_of defrag) captures
told_captures defrag [] = refl
told_captures defrag (c ∷ captures) = ap (λ (told : List Recorded). recorded_of defrag c ∷ told) (told_captures defrag captures)

-- a script without a command, and captures alone
captures_alone : (defrag : Bool) (said : Script) (captures : List Capture) → said.commands.items ≡ [] → said.wait ≡ 0
    → work_in defrag captures said ≡ work_with (given_in defrag (zones_in captures) (bytes_in captures) (contents_in captures)) (contents_in captures)
captures_alone defrag said captures commands wait =
    rw (commands, wait) (sym (no_commands (given_in defrag (zones_in captures) (bytes_in captures) (contents_in captures)) captures
    ∙ ap (λ (given : List (List Given)). record { captures = given; commands = []; wait = 0 }) (given_captures defrag captures)))

-- what files say, of which the rules and the work are these
record ReadFiles (files : Source) (inputs : List InputFile) (defrag : Bool) (zones : List ℕ) (ruled : List Rule) (done : Work) (told : List Recorded) : Type 0 where
  bytes : List (List ℕ)
  contents : List Content
  given : AreGiven files inputs bytes
  read : AreReadFrom no_totals inputs bytes contents
  rules : ruled ≡ rules_in contents
  work : done ≡ work_with (given_in defrag zones bytes contents) contents
  captures : captures_in defrag bytes contents ≡ told

read_files : (files : Source) (r s : Option (List ℕ)) (names : List (List ℕ)) (defrag : Bool) (ruled : List Rule) (said : Script) (captures : List Capture)
    → GaveRules files r ruled → GaveScript files s said
    → GaveContents files no_totals (files_of_kind kind.Capture names) (bytes_in captures) (contents_in captures)
    → ReadFiles files (files_of_kind kind.Rules (option_to_list r) ++ files_of_kind kind.Script (option_to_list s) ++ files_of_kind kind.Capture names)
    defrag (zones_in captures) ruled (work_in defrag captures said) (map (recorded_of defrag) captures)
read_files files None None names defrag ruled said captures gr gs gc = record {
  bytes = bytes_in captures;
  contents = contents_in captures;
  given = gc.given;
  read = gc.read;
  rules = gr ∙ sym (no_rules captures);
  work = captures_alone defrag said captures gs.0 gs.1;
  captures = told_captures defrag captures;
}
read_files files None (Some s) names defrag ruled said captures gr gs gc = record {
  bytes = gs.bytes ∷ bytes_in captures;
  contents = script said.commands.items said.wait ∷ contents_in captures;
  given = (gs.given, gc.given);
  read = (gs.read, gc.read);
  rules = gr ∙ sym (no_rules captures);
  work = sym (ap (λ (given : List (List Given)). record { captures = given; commands = said.commands.items; wait = said.wait }) (given_captures defrag captures));
  captures = told_captures defrag captures;
}
read_files files (Some r) None names defrag ruled said captures gr gs gc = record {
  bytes = gr.bytes ∷ bytes_in captures;
  contents = rules ruled ∷ contents_in captures;
  given = (gr.given, gc.given);
  read = (gr.read, gc.read);
  rules = refl;
  work = captures_alone defrag said captures gs.0 gs.1;
  captures = told_captures defrag captures;
}
read_files files (Some r) (Some s) names defrag ruled said captures gr gs gc = record {
  bytes = gr.bytes ∷ gs.bytes ∷ bytes_in captures;
  contents = rules ruled ∷ script said.commands.items said.wait ∷ contents_in captures;
  given = (gr.given, (gs.given, gc.given));
  read = (gr.read, (gs.read, gc.read));
  rules = refl;
  work = sym (ap (λ (given : List (List Given)). record { captures = given; commands = said.commands.items; wait = said.wait }) (given_captures defrag captures));
  captures = told_captures defrag captures;
}

-- the same of all that is asked for
record Worked (files : Source) (origin : Origin) (defrag : Bool) (zones : List ℕ) (ruled : List Rule) (done : Work) (told : List Recorded) : Type 0 where
  bytes : List (List ℕ)
  contents : List Content
  inputs : AreInputsOf files origin bytes contents
  rules : ruled ≡ rules_in contents
  work : done ≡ work_with (given_in defrag zones bytes contents) contents
  captures : captures_in defrag bytes contents ≡ told

worked : (files : Source) (origin : Origin) (defrag : Bool) (inputs : Inputs) → GaveOrigin files origin inputs
    → Worked files origin defrag (zones_in inputs.captures.items) inputs.rules.items (work_in defrag inputs.captures.items inputs.script)
    (map (recorded_of defrag) inputs.captures.items)
worked files (named names) defrag inputs gave =
    let all = read_files files names.rules names.script names.captures defrag inputs.rules.items inputs.script inputs.captures.items gave.rules
    gave.script gave.captures in
    record { bytes = all.bytes; contents = all.contents; inputs = (all.given, all.read); rules = all.rules; work = all.work; captures = all.captures }
worked files (made workload) defrag inputs gave = record {
  bytes = bytes_in inputs.captures.items;
  contents = contents_in inputs.captures.items;
  inputs = gave.captures;
  rules = gave.rules ∙ sym (no_rules inputs.captures.items);
  work = captures_alone defrag inputs.script inputs.captures.items gave.commands gave.wait;
  captures = told_captures defrag inputs.captures.items;
}

-- what was replayed of what was read is what is asked for
pub replay_made : (files : Source) (asked : Request) (inputs : Inputs) (done : Replayed) → GaveInputs files asked inputs
    → ReplaysInputs asked inputs done → IsReplayWith files asked done
replay_made files asked inputs done gave of =
    let all = worked files asked.origin asked.defrag inputs gave.origin in
    let same : work_in asked.defrag inputs.captures.items inputs.script ≡ work_asked asked all.bytes all.contents =
    all.work ∙ ap (λ (zones : List ℕ). work_with (given_in asked.defrag zones all.bytes all.contents) all.contents) gave.in_zones in
    let heard : AreHeard (made_before_join (work_asked asked all.bytes all.contents) done.report) done.listened =
    subst (λ (w : Work). AreHeard (made_before_join w done.report) done.listened) same of.heard in
    record {
      replay = record {
        bytes = all.bytes;
        contents = all.contents;
        inputs = all.inputs;
        setup = of.setup;
        rules = ap (λ (r : Roomed Rule). r.items) of.rules ∙ all.rules;
        ftp = of.ftp;
        well_formed = subst (λ (w : Work). IsWellFormed (record { setup = of.setup; sizes = sizes_of asked }) w done.report) same of.well_formed;
        listened = heard_some done.listened ∙ of.listened;
        heard_first = heard_each (made_before_join (work_asked asked all.bytes all.contents) done.report) done.listened heard;
      };
      lines = lines_of (made_before_join (work_asked asked all.bytes all.contents) done.report) done.listened heard;
      rewrites = of.rewrites ∙ sym (ap (λ (told : List Recorded). rewrite_lines asked.rewrite told done.report) all.captures);
    }

-- there is one for each file that was read
read_long : (before : Totals) (inputs : List InputFile) (bytes : List (List ℕ)) (contents : List Content)
    → AreReadFrom before inputs bytes contents → length bytes ≡ length inputs
read_long before [] [] [] read = refl
read_long before [] [] (content ∷ contents) read = absurd read
read_long before [] (b ∷ bytes) contents read = absurd read
read_long before (input ∷ inputs) [] contents read = absurd read
read_long before (input ∷ inputs) (b ∷ bytes) [] read = absurd read
read_long before (input ∷ inputs) (b ∷ bytes) (content ∷ contents) (here, read) =
    ap suc (read_long (totals_with before b content) inputs bytes contents read)

-- so there are as many captures as were asked for, or as are made
counted : (files : Source) (origin : Origin) (inputs : Inputs) → GaveOrigin files origin inputs → length inputs.captures.items ≡ threads_of origin
counted files (named names) inputs gave =
    sym (length-map inputs.captures.items (λ (c : Capture). c.bytes.items))
    ∙ read_long no_totals (files_of_kind kind.Capture names.captures) (bytes_in inputs.captures.items) (contents_in inputs.captures.items)
    gave.captures.read
    ∙ length-map names.captures (λ (name : List ℕ). record { kind = kind.Capture; name = name })
counted files (made workload) inputs gave =
    sym (length-map inputs.captures.items (λ (c : Capture). c.bytes.items))
    ∙ ap length gave.captures.made
    ∙ length-map-range_with_len (made_capture workload.seed workload.packets) 0 workload.threads

pub captures_counted : (files : Source) (asked : Request) (inputs : Inputs) → GaveInputs files asked inputs
    → length inputs.captures.items ≡ threads_of asked.origin
captures_counted files asked inputs gave = counted files asked.origin inputs gave.origin
