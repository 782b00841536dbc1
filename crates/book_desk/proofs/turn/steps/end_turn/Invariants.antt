use Rattle.book_desk.proofs.turn.steps.end_turn.Given as goal

abbrev pub ghosts-give : goal.ghosts-give
ghosts-give a = record { ending = a.ending.now }
