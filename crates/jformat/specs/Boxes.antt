-- The drawing of boxes (J Dictionary, "Boxed arrays", and NuVoc, "Default Format"): contents in columns and rows, in frames.
use Rattle.std.specs.Prelude.{ℕ, ◌+◌, ◌-◌, ◌*◌, ◌==◌, Bool, if◌then◌else◌, List, [], ◌∷◌, ◌++◌, length, map, replicate, slice_index, slice_index_or}
use Rattle.std.specs.List.{range_with_len, flat_map}
use Rattle.jdata.specs.Noun.{greatest}

-- the signs of frames: "+", "-" and "|"
abbrev pub corner : ℕ
corner = 43

abbrev pub dash : ℕ
dash = 45

abbrev pub bar : ℕ
bar = 124

-- how wide rows are: as the widest of them
abbrev pub widest : List (List ℕ) → ℕ
widest rows = greatest (map length rows)

-- how high contents are that stand beside each other: as the highest of them
abbrev pub highest : List (List (List ℕ)) → ℕ
highest blocks = greatest (map length blocks)

-- a text at the left, with blanks behind it
abbrev pub padded : ℕ → List ℕ → List ℕ
padded width text = text ++ replicate (width - length text) 32

-- column j of boxes is as wide as its widest content, in whichever of the rows it stands, where the rows of all matrices are counted on
abbrev pub box_width : List (List (List ℕ)) → ℕ → ℕ → ℕ → ℕ
box_width blocks rows columns j = greatest (map (λ r. widest (slice_index_or blocks (r * columns + j) [])) (range_with_len 0 rows))

abbrev pub box_widths : List (List (List ℕ)) → ℕ → ℕ → List ℕ
box_widths blocks rows columns = map (box_width blocks rows columns) (range_with_len 0 columns)

-- the row above, between and below: a corner, and for each column dashes and a corner
abbrev pub frame_row : List ℕ → List ℕ
frame_row widths = corner ∷ flat_map (λ w. replicate w dash ++ corner ∷ []) widths

-- row k of the contents: a bar, and for each column row k of its content, or blanks where that has none, and a bar
abbrev pub content_row : List ℕ → List (List (List ℕ)) → ℕ → List ℕ
content_row widths blocks k =
    bar ∷ flat_map (λ j. padded (slice_index widths j) (slice_index_or (slice_index_or blocks j []) k []) ++ bar ∷ []) (range_with_len 0 (length widths))

-- one row of boxes with the frame below it, and above it where it is the first of its matrix. Without columns it is one empty row
abbrev pub box_rows : Bool → List ℕ → List (List (List ℕ)) → List (List ℕ)
box_rows is_first widths blocks =
    if length widths == 0 then [] ∷ []
    else (if is_first then frame_row widths ∷ [] else []) ++ (map (content_row widths blocks) (range_with_len 0 (highest blocks)) ++ frame_row widths ∷ [])
