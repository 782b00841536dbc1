use Rattle.history_book.proofs.Again.{late_is_new}
use Rattle.history_book.proofs.laws.late_entries_are_new.Goals as goal

pub returns : goal.returns
returns c = λ sizes log p q t found legal le absent live. late_is_new sizes log p q t found legal le absent live
