-- How the atoms of an array lie in rows and columns, where the code has these as numbers.
use Rattle.std.proofs.Common.{◌≡◌, ℕ, ℤ, ◌+◌, ◌*◌, ◌<◌, ◌≤◌, ◌==◌, cond, List, [], ◌∷◌, ◌++◌, length, map, take, drop, replicate, sym, ap, ◌∙◌, arith}
use Rattle.std.specs.List.{range_with_len}
use Rattle.std.proofs.lemmas.Bool.{ne_eqb}
use Rattle.std.proofs.lemmas.List.FromFn.{length-map-range_with_len}
use Rattle.std.proofs.lemmas.Nat.{row_fits}
use Rattle.jdata.specs.Noun.{product}
use Rattle.jnumber.specs.Spelling.{written}
use Rattle.jformat.specs.Rows.{line_end, row_axes, last_axis, width_of, integer_row, character_row, blanks_before_row}
use Rattle.jformat.specs.Pieces.{fields}
use Rattle.jformat.proofs.Products.{rows_times_columns}
use Rattle.jformat.proofs.Grid.{single, length_of_row, fields_are_row, characters_are_row}
use Rattle.jformat.proofs.Lines.{integer_line, character_line}

-- so many rows along this shape, so many columns, so many atoms
pub record IsLaidOut (axes shape : List ℕ) (rows columns atoms : ℕ) : Type 0 where
  pub shape_is : shape ≡ row_axes axes
  pub rows_are : rows ≡ product shape
  pub columns_are : columns ≡ last_axis axes
  pub atoms_are : atoms ≡ product axes

pub rows_are_all : (axes shape : List ℕ) (rows columns atoms : ℕ) → IsLaidOut axes shape rows columns atoms → rows ≡ product (row_axes axes)
rows_are_all axes shape rows columns atoms laid = laid.rows_are ∙ ap product laid.shape_is

pub room : (axes shape : List ℕ) (rows columns atoms : ℕ) → IsLaidOut axes shape rows columns atoms → rows * columns ≡ atoms
room axes shape rows columns atoms laid =
    ap (λ r. r * columns) (rows_are_all axes shape rows columns atoms laid) ∙ ap (λ k. product (row_axes axes) * k) laid.columns_are ∙ sym (rows_times_columns axes) ∙ sym laid.atoms_are

pub row_room : (axes shape : List ℕ) (rows columns atoms r : ℕ) → IsLaidOut axes shape rows columns atoms → r < rows → r * columns + columns ≤ atoms
row_room axes shape rows columns atoms r laid h =
    let fits : r * columns + columns ≤ rows * columns = row_fits r columns rows columns h (omega arith) in
    omega (arith, fits, room axes shape rows columns atoms laid)

-- where there is a row, each column has a width
pub all_columns : (rows columns r : ℕ) → r < rows → cond (rows == 0) 0 columns ≡ columns
all_columns rows columns r h = ap (λ b. cond b 0 columns) (ne_eqb rows 0 (λ e. omega (arith, h, e)))

abbrev pub widths_of : List ℤ → ℕ → ℕ → List ℕ
widths_of numbers rows columns = map (width_of (map written numbers) rows columns) (range_with_len 0 (cond (rows == 0) 0 columns))

widths_of_all : (numbers : List ℤ) (rows columns r : ℕ) → r < rows → widths_of numbers rows columns ≡ map (width_of (map written numbers) rows columns) (range_with_len 0 columns)
widths_of_all numbers rows columns r h = ap (λ n. map (width_of (map written numbers) rows columns) (range_with_len 0 n)) (all_columns rows columns r h)

-- a row has as many atoms as there are widths
pub widths_match : (numbers row : List ℤ) (widths : List ℕ) (rows columns r : ℕ) → r < rows → r * columns + columns ≤ length numbers → widths ≡ widths_of numbers rows columns → row ≡ take columns (drop (r * columns) numbers) → length widths ≡ length row
widths_match numbers row widths rows columns r h fits wide taken =
    ap length (wide ∙ widths_of_all numbers rows columns r h) ∙ length-map-range_with_len (width_of (map written numbers) rows columns) 0 columns
    ∙ sym (ap length taken ∙ length_of_row numbers columns r fits)

-- the fields that the code makes are the row of integers
pub row_is : (numbers row : List ℤ) (widths : List ℕ) (rows columns r : ℕ) → r < rows → r * columns + columns ≤ length numbers → widths ≡ widths_of numbers rows columns → row ≡ take columns (drop (r * columns) numbers) → fields widths (map written row) ≡ integer_row (map written numbers) rows columns r
row_is numbers row widths rows columns r h fits wide taken =
    fields_are_row numbers rows columns r widths row (wide ∙ widths_of_all numbers rows columns r h) taken fits

pub integer_text_is : (axes shape : List ℕ) (numbers row : List ℤ) (widths : List ℕ) (rows columns r : ℕ) → IsLaidOut axes shape rows columns (length numbers) → r < rows → widths ≡ widths_of numbers rows columns → row ≡ take columns (drop (r * columns) numbers) → fields widths (map written row) ≡ integer_row (map written numbers) (product (row_axes axes)) (last_axis axes) r
integer_text_is axes shape numbers row widths rows columns r laid h wide taken =
    let texts = map written numbers in
    row_is numbers row widths rows columns r h (row_room axes shape rows columns (length numbers) r laid h) wide taken
    ∙ ap (λ n. integer_row texts n columns r) (rows_are_all axes shape rows columns (length numbers) laid)
    ∙ ap (λ n. integer_row texts (product (row_axes axes)) n r) laid.columns_are

pub character_text_is : (axes shape characters row : List ℕ) (rows columns r : ℕ) → IsLaidOut axes shape rows columns (length characters) → r < rows → row ≡ take columns (drop (r * columns) characters) → row ≡ character_row (map single characters) (last_axis axes) r
character_text_is axes shape characters row rows columns r laid h taken =
    characters_are_row characters columns r row taken (row_room axes shape rows columns (length characters) r laid h)
    ∙ ap (λ n. character_row (map single characters) n r) laid.columns_are

pub integer_line_is : (axes shape lent : List ℕ) (numbers row : List ℤ) (widths : List ℕ) (rows columns r blanks : ℕ) → IsLaidOut axes shape rows columns (length numbers) → r < rows → lent ≡ shape → blanks ≡ blanks_before_row lent r → widths ≡ widths_of numbers rows columns → row ≡ take columns (drop (r * columns) numbers) → replicate blanks line_end ++ (fields widths (map written row) ++ line_end ∷ []) ≡ integer_line axes numbers r
integer_line_is axes shape lent numbers row widths rows columns r blanks laid h same before wide taken =
    let text = integer_text_is axes shape numbers row widths rows columns r laid h wide taken in
    ap (λ n. replicate n line_end ++ (fields widths (map written row) ++ line_end ∷ [])) (before ∙ ap (λ l. blanks_before_row l r) (same ∙ laid.shape_is))
    ∙ ap (λ l. replicate (blanks_before_row (row_axes axes) r) line_end ++ (l ++ line_end ∷ [])) text

pub character_line_is : (axes shape lent characters row : List ℕ) (rows columns r blanks : ℕ) → IsLaidOut axes shape rows columns (length characters) → r < rows → lent ≡ shape → blanks ≡ blanks_before_row lent r → row ≡ take columns (drop (r * columns) characters) → replicate blanks line_end ++ (row ++ line_end ∷ []) ≡ character_line axes characters r
character_line_is axes shape lent characters row rows columns r blanks laid h same before taken =
    let text = character_text_is axes shape characters row rows columns r laid h taken in
    ap (λ n. replicate n line_end ++ (row ++ line_end ∷ [])) (before ∙ ap (λ l. blanks_before_row l r) (same ∙ laid.shape_is))
    ∙ ap (λ l. replicate (blanks_before_row (row_axes axes) r) line_end ++ (l ++ line_end ∷ [])) text
