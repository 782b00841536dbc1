-- What short verdicts stand for.
use Rattle.std.specs.Prelude.{ℕ, Err, Ok, Result, Some}
use Rattle.history_book.specs.declared.packed.Stored.{Stored}
use Rattle.history_book.specs.declared.packed.Stored.TheVariants as stored
use Rattle.history_book.specs.declared.short_verdict.ShortClass.{ShortClass}
use Rattle.history_book.specs.declared.short_verdict.ShortClass.TheVariants as short
use Rattle.history_book.specs.declared.short_verdict.ShortVerdict.{ShortVerdict}
use Rattle.history_book.specs.declared.verdict.Class.{Class}
use Rattle.history_book.specs.declared.verdict.Class.TheVariants as whole
use Rattle.history_book.specs.declared.verdict.Ftp.TheVariants.{Nothing}
use Rattle.history_book.specs.declared.verdict.Translated.TheVariants.{Plain}
use Rattle.history_book.specs.declared.verdict.Verdict.{Verdict}

-- the class, or where the verdict stands whole
abbrev pub class_or_place : ShortClass → Result Class ℕ
class_or_place (short.Whole at) = Err at
class_or_place (short.Untracked why) = Ok (whole.Untracked why)
class_or_place short.BadHeader = Ok whole.BadHeader
class_or_place (short.NoEntry at) = Ok (whole.NoEntry at)
class_or_place (short.BadState id at) = Ok (whole.BadState id at)
class_or_place (short.ErrorLost at) = Ok (whole.ErrorLost at)
class_or_place (short.ErrorAddress id at) = Ok (whole.ErrorAddress id at)
class_or_place (short.Error direction id at) = Ok (whole.Error direction id at)
class_or_place (short.Made id at unclaimed) = Ok (whole.Made id at Plain (Some unclaimed))
class_or_place (short.Passed label id at) = Ok (whole.Passed label id at Nothing)
class_or_place (short.Ignored id at) = Ok (whole.Ignored id at)
class_or_place (short.NoPort from to) = Ok (whole.NoPort from to)
class_or_place (short.Full from at) = Ok (whole.Full from at)
class_or_place (short.Contended id at) = Ok (whole.Contended id at)

abbrev pub stored_with : ℕ → ℕ → Result Class ℕ → Stored Verdict
stored_with first made (Ok class) = stored.Here (record { class = class; first = first; made = made })
stored_with first made (Err at) = stored.Whole at

abbrev pub stored_verdict : ShortVerdict → Stored Verdict
stored_verdict s = stored_with s.first s.made (class_or_place s.class)
