use Rattle.nat_setup.proofs.laws.files_have_no_fault.Goals as goal

pub returns : goal.returns
returns c = λ bytes rules fault read wrong. cc
