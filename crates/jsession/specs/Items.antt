-- The items of a script: the sentences that its bytes give (J Dictionary, "Sentences": a line is a sentence).
use Rattle.std.specs.Prelude.{ℕ, ◌==◌, ◌||◌, not, nat_lt, Bool, false, if◌then◌else◌, List, [], ◌∷◌, filter, length}
use Rattle.std.specs.List.{list_all}
use Rattle.jeval.specs.Sentence.{line_limit}
use Rattle.jsession.specs.declared.reading.Reading.{Reading}
use Rattle.jsession.specs.declared.reading.Reading.TheVariants.{Whole, Broken, Long, Short}
use Rattle.jwords.specs.Alphabet.{is_blank, line_feed}
use Rattle.jwords.specs.Lines.{lines_of}

-- a line of blanks alone has no words, and isn't a sentence; one that is too long is refused as a sentence
abbrev pub is_sentence : List ℕ → Bool
is_sentence line = nat_lt line_limit (length line) || not (list_all is_blank line)

abbrev pub sentences : List ℕ → List (List ℕ)
sentences bytes = filter is_sentence (lines_of bytes)

abbrev pub has_end : List ℕ → Bool
has_end [] = false
has_end (byte ∷ rest) = byte == line_feed || has_end rest

-- the bytes up to the last line end
abbrev pub ended : List ℕ → List ℕ
ended [] = []
ended (byte ∷ rest) = if has_end (byte ∷ rest) then byte ∷ ended rest else []

-- the sentences of the bytes that were read: all of them, or where reading broke off those whose line end was read
abbrev pub items_of : Reading → List ℕ → List (List ℕ)
items_of Whole bytes = sentences bytes
items_of Broken bytes = sentences (ended bytes)
items_of Long bytes = sentences (ended bytes)
items_of Short bytes = []
