use Rattle.nat_setup.proofs.laws.faults_are_unique.Goals as goal

pub returns : goal.returns
returns c = λ bytes fault other first second. cc
