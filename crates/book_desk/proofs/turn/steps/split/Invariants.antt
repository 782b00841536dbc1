use Rattle.book_desk.proofs.turn.steps.split.Given as goal

abbrev pub ghosts-cut : goal.ghosts-cut
ghosts-cut a = record { shares = a.shares }
