use Rattle.track_rule.proofs.pass.Pass.split.Given as goal

abbrev pub ghosts-cut : goal.ghosts-cut
ghosts-cut a = record { shares = a.shares }
