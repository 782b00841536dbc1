-- No words are said to want memory.
use Rattle.std.proofs.Common.{◌≡◌, ℕ, List, Option, Some, None, Result, Ok, Err, refl}
use Rattle.file_text.specs.Reading.{◌>>=◌, required}
use Rattle.command_words.specs.Words.{Request, asked_of, found_in, if_power_of_two, number_or, origin_of, past_limit, ports_or, unless_past, with_values, within_limits, zones_for}
use Rattle.command_words.specs.declared.WordsError.{WordsError}
use Rattle.command_words.specs.declared.WordsError.TheVariants.{Limit, NoMemory, Usage}
use Rattle.command_words.specs.declared.WordsLimit.{WordsLimit}

-- this says nothing of memory
abbrev Tells : {A : Type 0} → Result A WordsError → Type 0
Tells {A = A} r = r ≡ Err NoMemory → ⊥

then_tells : {A B : Type 0} (r : Result A WordsError) (f : A → Result B WordsError) → Tells r → ((x : A) → Tells (f x)) → Tells (r >>= f)
then_tells (Ok x) f first more = more x
then_tells (Err Usage) f first more = λ e. absurd (cc e)
then_tells (Err (Limit limit)) f first more = λ e. absurd (cc e)
then_tells (Err NoMemory) f first more = absurd (first refl)

required_tells : {A : Type 0} (o : Option A) → Tells (required Usage o)
required_tells None = λ e. absurd (cc e)
required_tells (Some x) = λ e. absurd (cc e)

limits_tell : (asked : Request) → Tells (within_limits asked)
limits_tell asked = by_limit (past_limit asked)
  where
    by_limit : (past : Option WordsLimit) → Tells (unless_past past asked)
    by_limit None = λ e. absurd (cc e)
    by_limit (Some limit) = λ e. absurd (cc e)

pub wants_no_memory : (words : List (List ℕ)) → asked_of words ≡ Err NoMemory → ⊥
unfolding asked_of
wants_no_memory words =
    then_tells (required Usage (found_in words)) _ (required_tells (found_in words)) (λ given.
    then_tells (with_values given) within_limits
    (then_tells (required Usage (origin_of given.names given.make given.packets given.threads)) _
    (required_tells (origin_of given.names given.make given.packets given.threads)) (λ origin.
    then_tells (required Usage (zones_for origin given.zones)) _ (required_tells (zones_for origin given.zones)) (λ zones.
    then_tells (required Usage (number_or 65536 given.entries)) _ (required_tells (number_or 65536 given.entries)) (λ entries.
    then_tells (required Usage (if_power_of_two (number_or 16384 given.buckets))) _ (required_tells (if_power_of_two (number_or 16384 given.buckets))) (λ buckets.
    then_tells (required Usage (ports_or 21 given.ftp)) _ (required_tells (ports_or 21 given.ftp)) (λ ports e. absurd (cc e)))))))
    limits_tell)
