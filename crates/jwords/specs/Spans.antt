-- The words of a text as monadic `;:` cuts it (NuVoc, "Words (;:)"): like word formation, but a word need
-- neither be listed nor well formed, and the only fault is an open quote.
use Rattle.std.specs.Prelude.{◌≡◌, ◌≢◌, ℕ, ◌+◌, ◌==◌, if◌then◌else◌, List, [], ◌∷◌, length, take, drop, codes, slice_index, Result, Ok, Err, MatchResult}
use Rattle.std.specs.Bool.{MatchBool}
use Rattle.std.specs.List.{prefix_len}
use Rattle.std.specs.Str.{bytes_eq}
use Rattle.jwords.specs.declared.word.Word.{Word}
use Rattle.jwords.specs.declared.word.WordKind.TheVariants.{Name, Inflected, Number, Text, Graphic, Comment}
use Rattle.jwords.specs.declared.word.SpanFault.{SpanFault}
use Rattle.jwords.specs.declared.word.SpanFault.TheVariants.{OpenQuote}
use Rattle.jwords.specs.Alphabet.{quote, colon, first, is_letter, is_number_start, is_inflection}
use Rattle.jwords.specs.Texts.{IsQuoted}
use Rattle.jwords.specs.Runs.{name_length, inflected_length, run_length, symbol_length, BeginsRun, IsList}
use Rattle.jwords.specs.Cuts.{word_of, IsOutcome}
use Rattle.jwords.specs.Words.{is_brace_pair}

-- a quote starts a text up to the quote that closes it
abbrev pub FindsTextSpan : ℕ → List ℕ → Result Word SpanFault → Type 0
FindsTextSpan at rest found = MatchResult found
    (λ w. (size : ℕ) × IsQuoted rest size × (w ≡ word_of Text at size))
    (λ f. ((size : ℕ) → ¬ IsQuoted rest size) × (f ≡ OpenQuote at))

-- a letter starts a name with its inflection; `NB.` starts a comment up to the end of the text
abbrev pub FindsNameSpan : ℕ → List ℕ → Result Word SpanFault → Type 0
FindsNameSpan at rest found =
    let size = inflected_length rest in
    MatchBool (bytes_eq (take size rest) (codes "NB."))
    (found ≡ Ok (word_of Comment at (length rest)))
    (found ≡ Ok (word_of (if size == name_length rest then Name else Inflected) at size))

-- runs that stand next to each other are a word
abbrev pub FindsRunList : ℕ → List ℕ → Result Word SpanFault → Type 0
FindsRunList at rest found =
    MatchResult found (λ w. (size : ℕ) × IsList BeginsRun rest size × (w ≡ word_of Number at size)) (λ f. ⊥)

-- a digit or an underscore starts a run with all its inflection, where a colon follows it, or runs that
-- stand next to each other
abbrev pub FindsRunSpan : ℕ → List ℕ → Result Word SpanFault → Type 0
FindsRunSpan at rest found =
    MatchBool (slice_index rest (run_length rest) == colon)
    (found ≡ Ok (word_of Inflected at (run_length rest + prefix_len is_inflection (drop (run_length rest) rest))))
    (FindsRunList at rest found)

-- `{{` and `}}` are words unless a point or a colon follows; any other byte is one with its inflection
abbrev pub FindsByteSpan : ℕ → List ℕ → Result Word SpanFault → Type 0
FindsByteSpan at rest found =
    MatchBool (is_brace_pair rest)
    (found ≡ Ok (word_of Graphic at 2))
    (found ≡ Ok (word_of Graphic at (symbol_length rest)))

-- the word, or the fault, that the rest of a text from a place on begins with
abbrev pub FindsSpan : ℕ → List ℕ → Result Word SpanFault → Type 0
FindsSpan at rest found =
    MatchBool (first rest == quote) (FindsTextSpan at rest found)
    (MatchBool (is_letter (first rest)) (FindsNameSpan at rest found)
    (MatchBool (is_number_start (first rest)) (FindsRunSpan at rest found)
    (FindsByteSpan at rest found)))

-- the text's words
abbrev pub Spans : List ℕ → List Word → Type 0
Spans text words = IsOutcome FindsSpan text (Ok words)

-- the text's first quote that isn't closed
abbrev pub HasOpenQuote : List ℕ → SpanFault → Type 0
HasOpenQuote text fault = IsOutcome FindsSpan text (Err fault)
