-- The laws of word formation, and what the functions give where an outcome is known.
use Rattle.std.proofs.Common.{◌≡◌, ℕ, List, Result, sym}
use Rattle.jwords.specs.declared.word.Word.{Word}
use Rattle.jwords.specs.declared.word.WordFault.{WordFault}
use Rattle.jwords.specs.declared.word.SpanFault.{SpanFault}
use Rattle.jwords.specs.Cuts.{IsOutcome}
use Rattle.jwords.specs.Words.{Finds}
use Rattle.jwords.specs.Spans.{FindsSpan}
use Rattle.jwords.specs.Formed.{find_word, find_span, words_of, spans_of}
use Rattle.jwords.specs.Laws.{EachLineHasOneOutcome, EachTextHasOneOutcome}
use Rattle.jwords.proofs.Outcomes.{one_outcome}
use Rattle.jwords.proofs.FindsWords.{finds_one}
use Rattle.jwords.proofs.FindsSpans.{spans_one}

pub each_line_has_one_outcome : EachLineHasOneOutcome
unfolding words_of
each_line_has_one_outcome line = one_outcome WordFault Finds find_word finds_one line

pub each_text_has_one_outcome : EachTextHasOneOutcome
unfolding spans_of
each_text_has_one_outcome text = one_outcome SpanFault FindsSpan find_span spans_one text

pub words_are : (line : List ℕ) (outcome : Result (List Word) WordFault) → IsOutcome Finds line outcome → words_of line ≡ outcome
words_are line outcome o = sym ((each_line_has_one_outcome line).1 outcome o)

pub spans_are : (text : List ℕ) (outcome : Result (List Word) SpanFault) → IsOutcome FindsSpan text outcome → spans_of text ≡ outcome
spans_are text outcome o = sym ((each_text_has_one_outcome text).1 outcome o)
