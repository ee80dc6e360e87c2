-- The display of arrays (J Dictionary and NuVoc, "Default Format"): a list of rows of characters.
use Rattle.std.specs.Prelude.{ℕ, ◌+◌, ◌-◌, ◌*◌, ◌/◌, ◌%◌, ◌==◌, not, if◌then◌else◌, List, [], ◌∷◌, ◌++◌, length, map, take, drop, replicate, slice_index_or, count_by}
use Rattle.std.specs.List.{range_with_len, flat_map, join_with_byte}
use Rattle.jnumber.specs.Spelling.{written}
use Rattle.jdata.specs.Noun.{shape, kind, atoms, product, greatest}
use Rattle.jdata.specs.declared.noun.Noun.{Noun}
use Rattle.jdata.specs.declared.noun.Kind.{Kind}
use Rattle.jdata.specs.declared.noun.Kind.TheVariants as sort
use Rattle.jdata.specs.declared.noun.Atom.{Atom, Atom-F, fold-Atom}
use Rattle.jdata.specs.declared.noun.Atom.TheOpen as one
use Rattle.jformat.specs.Boxes.{box_rows, box_widths}

abbrev pub blank : ℕ
blank = 32

abbrev pub line_end : ℕ
line_end = 10

-- the axes but the last, along which the rows stand; an atom and a list are one row
abbrev pub row_axes : List ℕ → List ℕ
row_axes axes = take (length axes - 1) axes

-- the last axis, and 1 where there is none
abbrev pub last_axis : List ℕ → ℕ
last_axis axes = slice_index_or axes (length axes - 1) 1

-- the text in row r and column j of rows of so many columns, where the rows of all matrices are counted on
abbrev pub text_at : List (List ℕ) → ℕ → ℕ → ℕ → List ℕ
text_at texts columns r j = slice_index_or texts (r * columns + j) []

-- column j is as wide as its widest text, in whichever of the rows it stands
abbrev pub width_of : List (List ℕ) → ℕ → ℕ → ℕ → ℕ
width_of texts rows columns j = greatest (map (λ r. length (text_at texts columns r j)) (range_with_len 0 rows))

-- a text at the right of its column
abbrev pub field : ℕ → List ℕ → List ℕ
field width text = replicate (width - length text) blank ++ text

-- row r of integers: a field for each column, and one blank between two
abbrev pub integer_row : List (List ℕ) → ℕ → ℕ → ℕ → List ℕ
integer_row texts rows columns r =
    join_with_byte blank (map (λ j. field (width_of texts rows columns j) (text_at texts columns r j)) (range_with_len 0 columns))

-- row r of characters: one after another
abbrev pub character_row : List (List ℕ) → ℕ → ℕ → List ℕ
character_row texts columns r = flat_map (text_at texts columns r) (range_with_len 0 columns)

-- the number along axis i at which plane p stands, where the planes stand in ravel order along the axes
abbrev pub number_along : List ℕ → ℕ → ℕ → ℕ
number_along axes i p = (p / product (drop (i + 1) axes)) % slice_index_or axes i 1

-- blank rows before plane p: none before the first; else one, and one for each axis before the last whose number is another than at the plane before
abbrev pub blanks_before_plane : List ℕ → ℕ → ℕ
blanks_before_plane axes p =
    if p == 0 then 0 else 1 + count_by (λ i. not (number_along axes i (p - 1) == number_along axes i p)) (range_with_len 0 (length axes - 1))

-- blank rows before row r of rows along these axes: a plane begins where the number along the last of them is 0
abbrev pub blanks_before_row : List ℕ → ℕ → ℕ
blanks_before_row axes r =
    if r % last_axis axes == 0 then blanks_before_plane (row_axes axes) (r / last_axis axes) else 0

-- the rows in order, each behind the blank rows before it
abbrev pub spaced : List ℕ → (ℕ → List ℕ) → List (List ℕ)
spaced axes row = flat_map (λ r. replicate (blanks_before_row axes r) [] ++ row r ∷ []) (range_with_len 0 (product axes))

-- the rows of boxes whose contents have these rows: those of each row of boxes, behind the blank rows before it
abbrev pub boxed_rows : List ℕ → List (List (List ℕ)) → List (List ℕ)
boxed_rows axes blocks =
    let outer = row_axes axes in
    let columns = last_axis axes in
    let widths = box_widths blocks (product outer) columns in
    flat_map (λ r. replicate (blanks_before_row outer r) [] ++ box_rows (r % last_axis outer == 0) widths (take columns (drop (r * columns) blocks))) (range_with_len 0 (product outer))

-- the rows of integers, and of characters, of which these are the texts
abbrev pub integer_rows : List ℕ → List (List ℕ) → List (List ℕ)
integer_rows axes texts = spaced (row_axes axes) (integer_row texts (product (row_axes axes)) (last_axis axes))

abbrev pub character_rows : List ℕ → List (List ℕ) → List (List ℕ)
character_rows axes texts = spaced (row_axes axes) (character_row texts (last_axis axes))

-- the text of an atom that isn't a box: its only row
abbrev pub text_of : List (List ℕ) → List ℕ
text_of [] = []
text_of (row ∷ rows) = row

-- the rows of an array of this kind and shape, of whose atoms these are the rows
abbrev pub rows_by : Kind → List ℕ → List (List (List ℕ)) → List (List ℕ)
rows_by sort.Int axes blocks = integer_rows axes (map text_of blocks)
rows_by sort.Char axes blocks = character_rows axes (map text_of blocks)
rows_by sort.Boxed axes blocks = boxed_rows axes blocks

-- how an atom is written, in rows: an integer by its digits, a character as it is, a box as its content. A pyx has no rows
abbrev pub block_step : Atom-F (List (List ℕ)) (List (List ℕ)) → List (List ℕ)
block_step (one.Int n) = written n ∷ []
block_step (one.Char c) = (c ∷ []) ∷ []
block_step (one.Box rows) = rows
block_step (one.Pyx p) = []

abbrev pub block_of : Atom → List (List ℕ)
block_of = fold-Atom (List (List ℕ)) (List (List ℕ)) block_step (λ v. rows_by v.kind v.shape v.atoms)

unfoldable pub rows_of : Noun → List (List ℕ)
rows_of v = rows_by (kind v) (shape v) (map block_of (atoms v))

-- what is printed of an array: each row with a line end behind it
abbrev pub lines_of : List (List ℕ) → List ℕ
lines_of rows = flat_map (λ row. row ++ line_end ∷ []) rows

unfoldable pub display_of : Noun → List ℕ
display_of v = lines_of (rows_of v)
