-- The mark of a thread: no answer of it is older than that point. It is the greatest of its points so far, and of the
-- points just after its own events.
use Rattle.std.specs.Prelude.{ℕ, ◌+◌, List, [], ◌∷◌, ◌++◌, max, option_to_list}
use Rattle.history_book.specs.declared.answer.Answer.{Answer}
use Rattle.history_book.specs.declared.event.Note.{Note}
use Rattle.history_book.specs.declared.verdict.Class.{Class}
use Rattle.history_book.specs.declared.verdict.Class.TheVariants as class
use Rattle.history_book.specs.declared.verdict.Ftp.{Ftp}
use Rattle.history_book.specs.declared.verdict.Ftp.TheVariants as ftp
use Rattle.history_book.specs.declared.verdict.Translated.{Translated}
use Rattle.history_book.specs.declared.verdict.Translated.TheVariants.{Chosen, Plain}

-- the greatest of the mark and the points just after these events
abbrev pub mark_past : ℕ → List Note → ℕ
mark_past mark [] = mark
mark_past mark (n ∷ ns) = mark_past (max mark (n.number + 1)) ns

-- the greatest of the mark and these points
abbrev pub mark_at : ℕ → List ℕ → ℕ
mark_at mark [] = mark
mark_at mark (p ∷ ps) = mark_at (max mark p) ps

-- the point that a translation names
abbrev pub translated_points : Translated → List ℕ
translated_points Plain = []
translated_points (Chosen reply taken_at) = option_to_list taken_at

-- the points that what came of a payload names
abbrev pub ftp_points : Ftp → List ℕ
ftp_points ftp.Nothing = []
ftp_points (ftp.Expected id) = []
ftp_points ftp.Address = []
ftp_points (ftp.Clash id at) = at ∷ []
ftp_points (ftp.Full at) = at ∷ []
ftp_points (ftp.Gone at) = at ∷ []

-- the points that a verdict names
abbrev pub points_of : Class → List ℕ
points_of (class.Untracked why) = []
points_of class.BadHeader = []
points_of (class.NoEntry at) = at ∷ []
points_of (class.BadState id at) = at ∷ []
points_of (class.ErrorLost at) = at ∷ []
points_of (class.ErrorAddress id at) = at ∷ []
points_of (class.Error direction id at) = at ∷ []
points_of (class.Made id at translated unclaimed) = at ∷ (option_to_list unclaimed ++ translated_points translated)
points_of (class.Passed label id at payload) = at ∷ ftp_points payload
points_of (class.Ignored id at) = at ∷ []
points_of (class.Merged id at translated) = at ∷ translated_points translated
points_of (class.Clash id at translated) = at ∷ translated_points translated
points_of (class.NoPort from to) = from ∷ to ∷ []
points_of (class.Full from at) = from ∷ at ∷ []
points_of (class.Contended id at) = at ∷ []

-- a thread's mark after a packet that made these events and got this class
abbrev pub mark_after_packet : ℕ → List Note → Class → ℕ
mark_after_packet mark made class = mark_at (mark_past mark made) (points_of class)

-- a thread's mark after a command that made these events and got this answer
abbrev pub mark_after_command : ℕ → List Note → Answer → ℕ
mark_after_command mark made answer = max (mark_past mark made) answer.to
