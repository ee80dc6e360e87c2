-- Word formation: the words of a line, or the first fault from the left (J Dictionary, "Words";
-- NuVoc, "Words"). Each rule goes by the first byte of what is left of the line.
use Rattle.std.specs.Prelude.{◌≡◌, ◌≢◌, ℕ, ◌+◌, ◌==◌, ◌&&◌, ◌||◌, not, Bool, true, ◌⊎◌, List, [], ◌∷◌, length, take, drop, codes, slice_index, Result, Ok, Err, MatchResult}
use Rattle.std.specs.Bool.{MatchBool}
use Rattle.std.specs.Str.{bytes_eq}
use Rattle.jwords.specs.declared.word.Word.{Word}
use Rattle.jwords.specs.declared.word.WordKind.TheVariants.{Name, Inflected, Number, Text, Graphic, Comment}
use Rattle.jwords.specs.declared.word.WordFault.{WordFault}
use Rattle.jwords.specs.declared.word.WordFault.TheVariants.{OpenQuote, Spelling, IllFormed}
use Rattle.jwords.specs.Alphabet.{quote, colon, first, is_letter, is_number_start, is_inflection}
use Rattle.jwords.specs.Names.{IsName}
use Rattle.jwords.specs.Listed.{is_listed, is_constant, IsInflectedWord}
use Rattle.jwords.specs.Texts.{IsQuoted}
use Rattle.jwords.specs.Runs.{name_length, inflected_length, run_length, symbol_length, IsNoNumber, BeginsNumber, IsList}
use Rattle.jwords.specs.Cuts.{word_of, IsOutcome}

-- what is found is the word where a fact holds, and else the fault
abbrev pub Judged : Result Word WordFault → Type 0 → Word → WordFault → Type 0
Judged found holds word fault = MatchResult found (λ w. holds × (w ≡ word)) (λ f. (¬ holds) × (f ≡ fault))

-- a quote starts a text up to the quote that closes it
abbrev pub FindsText : ℕ → List ℕ → Result Word WordFault → Type 0
FindsText at rest found = MatchResult found
    (λ w. (size : ℕ) × IsQuoted rest size × (w ≡ word_of Text at size))
    (λ f. ((size : ℕ) → ¬ IsQuoted rest size) × (f ≡ OpenQuote at))

-- a letter's run without inflection must be a name
abbrev pub FindsBareName : ℕ → List ℕ → Result Word WordFault → Type 0
FindsBareName at rest found =
    Judged found (IsName (take (inflected_length rest) rest)) (word_of Name at (inflected_length rest)) (Spelling at)

-- with inflection it must be a listed word; but `NB.` starts a comment up to the end
abbrev pub FindsInflected : ℕ → List ℕ → Result Word WordFault → Type 0
FindsInflected at rest found =
    MatchBool (bytes_eq (take (inflected_length rest) rest) (codes "NB."))
    (found ≡ Ok (word_of Comment at (length rest)))
    (Judged found (IsInflectedWord (take (inflected_length rest) rest)) (word_of Inflected at (inflected_length rest)) (Spelling at))

-- a letter starts a name or an inflected word
abbrev pub FindsName : ℕ → List ℕ → Result Word WordFault → Type 0
FindsName at rest found =
    MatchBool (inflected_length rest == name_length rest) (FindsBareName at rest found) (FindsInflected at rest found)

-- numbers that stand next to each other are a word; a run that is no number is a fault
abbrev pub FindsNumberList : ℕ → List ℕ → Result Word WordFault → Type 0
FindsNumberList at rest found = MatchResult found
    (λ w. (size : ℕ) × IsList BeginsNumber rest size × (w ≡ word_of Number at size))
    (λ f. IsNoNumber rest × (f ≡ IllFormed at))

-- a digit or an underscore starts a constant verb, where a colon follows its run, or a list of numbers
abbrev pub FindsNumber : ℕ → List ℕ → Result Word WordFault → Type 0
FindsNumber at rest found =
    MatchBool (slice_index rest (run_length rest) == colon)
    (Judged found (is_constant (take (run_length rest + 1) rest) ≡ true) (word_of Inflected at (run_length rest + 1)) (Spelling at))
    (FindsNumberList at rest found)

-- the first two bytes are these
abbrev pub starts_doubled : ℕ → List ℕ → Bool
starts_doubled byte rest = first rest == byte && slice_index rest 1 == byte

-- `{{` and `}}` are words unless a point or a colon follows
abbrev pub is_brace_pair : List ℕ → Bool
is_brace_pair rest = (starts_doubled 123 rest || starts_doubled 125 rest) && not (is_inflection (slice_index rest 2))

-- any other byte starts a symbol with all points and colons directly after it, which must be a listed one
abbrev pub FindsSymbol : ℕ → List ℕ → Result Word WordFault → Type 0
FindsSymbol at rest found =
    MatchBool (is_brace_pair rest)
    (found ≡ Ok (word_of Graphic at 2))
    (Judged found (is_listed (take (symbol_length rest) rest) ≡ true) (word_of Graphic at (symbol_length rest)) (Spelling at))

-- the word, or the fault, that the rest of a text from a place on begins with
abbrev pub Finds : ℕ → List ℕ → Result Word WordFault → Type 0
Finds at rest found =
    MatchBool (first rest == quote) (FindsText at rest found)
    (MatchBool (is_letter (first rest)) (FindsName at rest found)
    (MatchBool (is_number_start (first rest)) (FindsNumber at rest found)
    (FindsSymbol at rest found)))

-- the line's words
abbrev pub Words : List ℕ → List Word → Type 0
Words text words = IsOutcome Finds text (Ok words)

-- the line's first fault from the left
abbrev pub HasFault : List ℕ → WordFault → Type 0
HasFault text fault = IsOutcome Finds text (Err fault)
