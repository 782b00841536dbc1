use Rattle.track_rule.proofs.pass.Pass.destroy_add.Given as goal

abbrev pub ghosts-add_destroy : goal.ghosts-add_destroy
ghosts-add_destroy a = record { event = a.event.now }
