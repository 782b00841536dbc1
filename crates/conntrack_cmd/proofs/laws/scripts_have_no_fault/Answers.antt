use Rattle.conntrack_cmd.proofs.laws.scripts_have_no_fault.Goals as goal

pub returns : goal.returns
returns c = λ bytes commands wait fault read wrong. cc
