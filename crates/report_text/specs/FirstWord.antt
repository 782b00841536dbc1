-- The first word of a verdict's text, which is what a summary counts.
use Rattle.std.specs.Prelude.{ℕ, List, [], ◌∷◌, codes, Option, None, Some}
use Rattle.history_book.specs.declared.verdict.Class.{Class}
use Rattle.history_book.specs.declared.verdict.Class.TheVariants as class
use Rattle.history_book.specs.declared.verdict.Label.{Label}
use Rattle.history_book.specs.declared.verdict.Label.TheVariants as label
use Rattle.report_text.specs.declared.first_word.FirstWord.{FirstWord}
use Rattle.report_text.specs.declared.first_word.FirstWord.TheVariants as first
use Rattle.tuple_core.specs.declared.Direction.{Direction}
use Rattle.tuple_core.specs.declared.Direction.TheVariants.{Original, Reply}

abbrev pub word_text : FirstWord → List ℕ
word_text first.Untracked = codes "UNTRACKED"
word_text first.Invalid = codes "INVALID"
word_text first.New = codes "NEW"
word_text first.Related = codes "RELATED"
word_text first.Established = codes "ESTABLISHED"
word_text first.EstablishedReply = codes "ESTABLISHED_REPLY"
word_text first.RelatedReply = codes "RELATED_REPLY"
word_text first.Ignored = codes "IGNORED"
word_text first.Merged = codes "MERGED"
word_text first.Clash = codes "CLASH"
word_text first.NoPort = codes "NOPORT"
word_text first.Full = codes "FULL"
word_text first.Contended = codes "CONTENDED"

-- the place of each word in the order in which a summary tells them
abbrev pub place_of : FirstWord → ℕ
place_of first.Untracked = 0
place_of first.Invalid = 1
place_of first.New = 2
place_of first.Related = 3
place_of first.Established = 4
place_of first.EstablishedReply = 5
place_of first.RelatedReply = 6
place_of first.Ignored = 7
place_of first.Merged = 8
place_of first.Clash = 9
place_of first.NoPort = 10
place_of first.Full = 11
place_of first.Contended = 12

-- all of them, in that order
abbrev pub first_words : List FirstWord
first_words =
    first.Untracked ∷ first.Invalid ∷ first.New ∷ first.Related ∷ first.Established ∷
    first.EstablishedReply ∷ first.RelatedReply ∷ first.Ignored ∷ first.Merged ∷ first.Clash ∷
    first.NoPort ∷ first.Full ∷ first.Contended ∷ []

-- an ICMP error, by its way within the flow that it is about
abbrev pub first_of_error : Direction → FirstWord
first_of_error Original = first.Related
first_of_error Reply = first.RelatedReply

-- a new entry, by where no expectation matched
abbrev pub first_of_made : Option ℕ → FirstWord
first_of_made None = first.Related
first_of_made (Some at) = first.New

-- a packet of an entry, by the state of its flow
abbrev pub first_of_label : Label → FirstWord
first_of_label label.New = first.New
first_of_label label.Related = first.Related
first_of_label label.Established = first.Established
first_of_label label.EstablishedReply = first.EstablishedReply

abbrev pub first_word : Class → FirstWord
first_word (class.Untracked why) = first.Untracked
first_word class.BadHeader = first.Invalid
first_word (class.NoEntry at) = first.Invalid
first_word (class.BadState id at) = first.Invalid
first_word (class.ErrorLost at) = first.Invalid
first_word (class.ErrorAddress id at) = first.Invalid
first_word (class.Error direction id at) = first_of_error direction
first_word (class.Made id at translated unclaimed) = first_of_made unclaimed
first_word (class.Passed label id at ftp) = first_of_label label
first_word (class.Ignored id at) = first.Ignored
first_word (class.Merged id at translated) = first.Merged
first_word (class.Clash id at translated) = first.Clash
first_word (class.NoPort from to) = first.NoPort
first_word (class.Full from at) = first.Full
first_word (class.Contended id at) = first.Contended
