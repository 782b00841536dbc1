use Rattle.track_rule.proofs.pass.Pass.claim_add.Given as goal

abbrev pub ghosts-add_change : goal.ghosts-add_change
ghosts-add_change a = record { event = a.event.now }
