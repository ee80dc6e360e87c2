-- A line without blanks at either end.
use Rattle.std.specs.Prelude.{ℕ, ◌&&◌, if◌then◌else◌, List, [], ◌∷◌}
use Rattle.std.specs.List.{list_all}
use Rattle.jwords.specs.Alphabet.{is_blank}

abbrev pub without_leading : List ℕ → List ℕ
without_leading [] = []
without_leading (byte ∷ rest) = if is_blank byte then without_leading rest else byte ∷ rest

abbrev pub without_trailing : List ℕ → List ℕ
without_trailing [] = []
without_trailing (byte ∷ rest) = if is_blank byte && list_all is_blank rest then [] else byte ∷ without_trailing rest

abbrev pub trimmed : List ℕ → List ℕ
trimmed line = without_trailing (without_leading line)
