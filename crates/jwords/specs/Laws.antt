-- What holds of word formation altogether: one outcome for each text, which the functions give.
use Rattle.std.specs.Prelude.{◌≡◌, ℕ, List, [], ◌∷◌, length, Result, Ok}
use Rattle.jdata.specs.Spelling.{spelling_of}
use Rattle.jdata.specs.declared.primitive.Primitive.{Primitive}
use Rattle.jwords.specs.declared.word.Word.{Word}
use Rattle.jwords.specs.declared.word.WordKind.{WordKind}
use Rattle.jwords.specs.declared.word.WordFault.{WordFault}
use Rattle.jwords.specs.declared.word.SpanFault.{SpanFault}
use Rattle.jwords.specs.Cuts.{IsOutcome, word_of}
use Rattle.jwords.specs.Words.{Finds}
use Rattle.jwords.specs.Spans.{FindsSpan}
use Rattle.jwords.specs.Formed.{words_of, spans_of}

-- each line has words or a fault by the rules, and no others than the function gives
abbrev pub EachLineHasOneOutcome : Type 0
EachLineHasOneOutcome =
    (line : List ℕ) → IsOutcome Finds line (words_of line)
    × ((other : Result (List Word) WordFault) → IsOutcome Finds line other → other ≡ words_of line)

-- and so has each text as monadic `;:` cuts it
abbrev pub EachTextHasOneOutcome : Type 0
EachTextHasOneOutcome =
    (text : List ℕ) → IsOutcome FindsSpan text (spans_of text)
    × ((other : Result (List Word) SpanFault) → IsOutcome FindsSpan text other → other ≡ spans_of text)

-- each primitive verb's spelling, as a line, is one word
abbrev pub EachVerbIsAWord : Type 0
EachVerbIsAWord = (v : Primitive) → (kind : WordKind) × (words_of (spelling_of v) ≡ Ok (word_of kind 0 (length (spelling_of v)) ∷ []))
