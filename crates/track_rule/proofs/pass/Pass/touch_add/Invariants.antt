use Rattle.track_rule.proofs.pass.Pass.touch_add.Given as goal

abbrev pub ghosts-add_touch : goal.ghosts-add_touch
ghosts-add_touch a = record { event = a.event.now }
