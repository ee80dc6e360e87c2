-- Rows of integers, piece by piece.
use Rattle.std.specs.Prelude.{ℕ, ◌==◌, if◌then◌else◌, List, [], ◌∷◌, ◌++◌, length, slice_index, slice_index_or}
use Rattle.std.specs.List.{range_with_len, flat_map}
use Rattle.jformat.specs.Rows.{blank, field}

-- one blank before each column but the first
abbrev pub gap_before : ℕ → List ℕ
gap_before j = if j == 0 then [] else blank ∷ []

-- the texts of one row in columns of these widths
abbrev pub fields : List ℕ → List (List ℕ) → List ℕ
fields widths texts = flat_map (λ j. gap_before j ++ field (slice_index widths j) (slice_index_or texts j [])) (range_with_len 0 (length texts))
