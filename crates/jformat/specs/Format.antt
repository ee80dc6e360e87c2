-- Monadic ": (J Dictionary and NuVoc, "Default Format"): the display as an array of characters.
use Rattle.std.specs.Prelude.{ℕ, ◌+◌, ◌-◌, ◌==◌, if◌then◌else◌, Result, Ok, List, [], ◌∷◌, ◌++◌, map, sum_by, length}
use Rattle.std.specs.List.{range_with_len, flat_map}
use Rattle.jdata.specs.Noun.{noun, shape, kind, atoms, product}
use Rattle.jdata.specs.Limits.{limited}
use Rattle.jdata.specs.declared.noun.Noun.{Noun}
use Rattle.jdata.specs.declared.noun.Kind.{Kind}
use Rattle.jdata.specs.declared.noun.Kind.TheVariants as sort
use Rattle.jdata.specs.declared.noun.Atom.TheVariants as atom
use Rattle.jdata.specs.declared.fault.Fault.{Fault}
use Rattle.jformat.specs.Boxes.{widest, padded}
use Rattle.jformat.specs.Rows.{row_axes, last_axis, width_of, integer_row, text_of, block_of, rows_of}

-- how wide the rows are: the widths of the columns, and one blank between two. Without rows they are 0 wide
abbrev pub row_width : List (List ℕ) → ℕ → ℕ → ℕ
row_width texts rows columns =
    if rows == 0 then 0 else sum_by (width_of texts rows columns) (range_with_len 0 columns) + (columns - 1)

-- the rows of integers as one array: the axes stay but the last, which is the width
abbrev pub integer_text : List ℕ → List (List ℕ) → Noun
integer_text axes texts =
    let rows = product (row_axes axes) in
    let columns = last_axis axes in
    noun (row_axes axes ++ row_width texts rows columns ∷ []) sort.Char (map atom.Char (flat_map (integer_row texts rows columns) (range_with_len 0 rows)))

-- rows of different widths as a matrix: blanks are filled in at the right
abbrev pub matrix_text : List (List ℕ) → Noun
matrix_text rows = noun (length rows ∷ widest rows ∷ []) sort.Char (map atom.Char (flat_map (padded (widest rows)) rows))

-- characters are as they are, and boxes become the matrix of all their rows
abbrev pub format_by : Kind → Noun → Result Noun Fault
format_by sort.Int v = limited (integer_text (shape v) (map text_of (map block_of (atoms v))))
format_by sort.Char v = Ok v
format_by sort.Boxed v = limited (matrix_text (rows_of v))

unfoldable pub format_of : Noun → Result Noun Fault
format_of v = format_by (kind v) v
