-- The lines of a script: a line ends at a line feed, a carriage return before it is dropped, and the last line may
-- lack its end.
use Rattle.std.specs.Prelude.{ℕ, ◌==◌, Bool, true, false, ◌&&◌, if◌then◌else◌, List, [], ◌∷◌}
use Rattle.jwords.specs.Alphabet.{line_feed, carriage_return}

-- the byte begins the first line
abbrev pub onto_first : ℕ → List (List ℕ) → List (List ℕ)
onto_first byte [] = (byte ∷ []) ∷ []
onto_first byte (line ∷ lines) = (byte ∷ line) ∷ lines

abbrev pub begins_with_end : List ℕ → Bool
begins_with_end [] = false
begins_with_end (byte ∷ rest) = byte == line_feed

abbrev pub lines_of : List ℕ → List (List ℕ)
lines_of [] = []
lines_of (byte ∷ rest) =
    if byte == line_feed then [] ∷ lines_of rest else
    if byte == carriage_return && begins_with_end rest then lines_of rest else
    onto_first byte (lines_of rest)
