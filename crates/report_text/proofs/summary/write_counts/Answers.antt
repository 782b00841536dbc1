use Rattle.std.proofs.Common.{◌≡◌, ℕ, List, ap, subst}
use Rattle.report_text.specs.FirstWord.{first_words}
use Rattle.report_text.specs.Internal.Counting.{line_of_count}
use Rattle.report_text.specs.Internal.Gathered.{Gathered}
use Rattle.report_text.specs.Summary.{all_verdicts, line_of_word, word_line, words_text}
use Rattle.report_text.specs.Texts.{texts_from}
use Rattle.report_text.proofs.SameTexts.{texts_from-same}
use Rattle.report_text.proofs.summary.write_counts.Goals as goal

pub returns : goal.returns
unfolding words_text
returns g c =
    let same : texts_from (line_of_count c.count_threads-counts.result) 0 first_words ≡ texts_from (line_of_word (all_verdicts c.args.threads.now)) 0 first_words
    = texts_from-same (line_of_count c.count_threads-counts.result) (line_of_word (all_verdicts c.args.threads.now))
    (λ i word. ap (word_line word) (c.count_threads-counts.ensures word)) 0 first_words in
    subst (λ (text : List ℕ). Gathered text c.args.page.now c.write_words.new.page
    (g.K.Sink.tape c.args.out.now) (g.K.Sink.tape c.write_words.new.out) c.write_words.result) same c.write_words.ensures
