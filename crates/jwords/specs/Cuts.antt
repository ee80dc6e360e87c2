-- A text cut from left to right into words and blanks (J Dictionary, "Words").
use Rattle.std.specs.Prelude.{◌≡◌, ℕ, ◌+◌, ◌<◌, true, false, List, [], ◌∷◌, ◌++◌, length, drop, slice_index, Result, Ok, Err}
use Rattle.jwords.specs.declared.word.Word.{Word}
use Rattle.jwords.specs.declared.word.WordKind.{WordKind}
use Rattle.jwords.specs.Alphabet.{is_blank}

-- a word of a kind that takes so many bytes from a place on
abbrev pub word_of : WordKind → ℕ → ℕ → Word
word_of kind at size = record { kind = kind; start = at; end = at + size }

-- at a place of the text stands a byte that is no blank
pub record StandsAt (text : List ℕ) (at : ℕ) : Type 0 where
  pub within : at < length text
  pub no_blank : is_blank (slice_index text at) ≡ false

-- the bytes before a place are these words, one after the other, with blanks around them;
-- `finds at rest (Ok word)` says that the rest of the text from a place on begins with the word
pub data IsCut {F : Type 0} (finds : ℕ → List ℕ → Result Word F → Type 0) (text : List ℕ) : ℕ → List Word → Type 0 where
  nothing : IsCut finds text 0 []
  blank : (at : ℕ) (words : List Word) → IsCut finds text at words → at < length text →
      is_blank (slice_index text at) ≡ true → IsCut finds text (at + 1) words
  word : (at : ℕ) (words : List Word) (next : Word) → IsCut finds text at words → StandsAt text at →
      finds at (drop at text) (Ok next) → IsCut finds text next.end (words ++ next ∷ [])

-- the first fault from the left: all before a place is cut into words, and there none begins
pub record IsFault {F : Type 0} (finds : ℕ → List ℕ → Result Word F → Type 0) (text : List ℕ) (fault : F) : Type 0 where
  pub at : ℕ
  pub words : List Word
  pub before : IsCut finds text at words
  pub stands : StandsAt text at
  pub found : finds at (drop at text) (Err fault)

-- the words of the whole text, or its first fault
abbrev pub IsOutcome : {F : Type 0} → (ℕ → List ℕ → Result Word F → Type 0) → List ℕ → Result (List Word) F → Type 0
IsOutcome finds text (Ok words) = IsCut finds text (length text) words
IsOutcome finds text (Err fault) = IsFault finds text fault
