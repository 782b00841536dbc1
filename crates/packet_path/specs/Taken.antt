-- How many places a packet took.
use Rattle.std.specs.Prelude.{ℕ}
use Rattle.history_book.specs.declared.verdict.Class.{Class}
use Rattle.history_book.specs.declared.verdict.Class.TheVariants as class
use Rattle.history_book.specs.Sight.{risen}

-- How often a desk took a place, once a packet got this class. One that made an entry took one place, and so did one
-- that met another entry when it was to be confirmed. No other packet took any, not even for a while.
abbrev pub taken_by : Class → ℕ → ℕ
taken_by (class.Untracked why) taken = taken
taken_by class.BadHeader taken = taken
taken_by (class.NoEntry at) taken = taken
taken_by (class.BadState id at) taken = taken
taken_by (class.ErrorLost at) taken = taken
taken_by (class.ErrorAddress id at) taken = taken
taken_by (class.Error direction id at) taken = taken
taken_by (class.Made id at translated unclaimed) taken = risen taken
taken_by (class.Passed label id at ftp) taken = taken
taken_by (class.Ignored id at) taken = taken
taken_by (class.Merged id at translated) taken = risen taken
taken_by (class.Clash id at translated) taken = risen taken
taken_by (class.NoPort from to) taken = taken
taken_by (class.Full from at) taken = taken
taken_by (class.Contended id at) taken = taken
