-- Rows with line ends behind them.
use Rattle.std.proofs.Common.{◌≡◌, ℕ, ℤ, zero, suc, List, [], ◌∷◌, ◌++◌, map, replicate, refl, ap, ◌∙◌, append-nil}
use Rattle.std.specs.List.{range_with_len, flat_map}
use Rattle.std.proofs.lemmas.List.Concat.{flat_map-append}
use Rattle.jdata.specs.Noun.{product}
use Rattle.jnumber.specs.Spelling.{written}
use Rattle.jformat.specs.Rows.{line_end, lines_of, spaced, row_axes, last_axis, blanks_before_row, integer_row, character_row}
use Rattle.jformat.proofs.Grid.{single}

-- blank rows and a row are line ends, the row and a line end
blank_lines : (n : ℕ) (row : List ℕ) → lines_of (replicate n [] ++ row ∷ []) ≡ replicate n line_end ++ (row ++ line_end ∷ [])
blank_lines zero row = append-nil (row ++ line_end ∷ [])
blank_lines (suc n) row = ap (λ l. line_end ∷ l) (blank_lines n row)

abbrev pub line : List ℕ → (ℕ → List ℕ) → ℕ → List ℕ
line axes row r = replicate (blanks_before_row axes r) line_end ++ (row r ++ line_end ∷ [])

lines_of_each : (axes : List ℕ) (row : ℕ → List ℕ) (ks : List ℕ) → lines_of (flat_map (λ r. replicate (blanks_before_row axes r) [] ++ row r ∷ []) ks) ≡ flat_map (line axes row) ks
lines_of_each axes row [] = refl
lines_of_each axes row (k ∷ ks) =
    flat_map-append (λ l. l ++ line_end ∷ []) (replicate (blanks_before_row axes k) [] ++ row k ∷ []) (flat_map (λ r. replicate (blanks_before_row axes r) [] ++ row r ∷ []) ks)
    ∙ ap (λ l. l ++ lines_of (flat_map (λ r. replicate (blanks_before_row axes r) [] ++ row r ∷ []) ks)) (blank_lines (blanks_before_row axes k) (row k))
    ∙ ap (λ l. line axes row k ++ l) (lines_of_each axes row ks)

pub lines_of_spaced : (axes : List ℕ) (row : ℕ → List ℕ) → lines_of (spaced axes row) ≡ flat_map (line axes row) (range_with_len 0 (product axes))
lines_of_spaced axes row = lines_of_each axes row (range_with_len 0 (product axes))

-- line r of integers, and of characters
abbrev pub integer_line : List ℕ → List ℤ → ℕ → List ℕ
integer_line axes numbers = line (row_axes axes) (integer_row (map written numbers) (product (row_axes axes)) (last_axis axes))

abbrev pub character_line : List ℕ → List ℕ → ℕ → List ℕ
character_line axes characters = line (row_axes axes) (character_row (map single characters) (last_axis axes))
