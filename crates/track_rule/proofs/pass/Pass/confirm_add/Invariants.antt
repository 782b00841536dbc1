use Rattle.track_rule.proofs.pass.Pass.confirm_add.Given as goal

abbrev pub ghosts-add_confirm : goal.ghosts-add_confirm
ghosts-add_confirm a = record { event = a.event.now }
