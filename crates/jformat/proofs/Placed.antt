-- The rows of arrays, as the code makes them: a piece for each row of atoms.
use Rattle.std.proofs.Common.{◌≡◌, ℕ, ℤ, ◌+◌, ◌*◌, ◌%◌, ◌<◌, ◌≤◌, ◌==◌, List, [], ◌∷◌, ◌++◌, length, map, take, drop, replicate, sym, ap, ◌∙◌}
use Rattle.std.specs.List.{range_with_len, flat_map}
use Rattle.std.proofs.lemmas.List.FromFn.{length-map-range_with_len}
use Rattle.jdata.specs.Noun.{product}
use Rattle.jnumber.specs.Spelling.{written}
use Rattle.jformat.specs.Boxes.{box_rows, box_width, box_widths}
use Rattle.jformat.specs.Rows.{row_axes, last_axis, integer_row, character_row, blanks_before_row, boxed_rows}
use Rattle.jformat.specs.Pieces.{fields}
use Rattle.jformat.proofs.Grid.{single, length_of_row}
use Rattle.jformat.proofs.LaidOut.{IsLaidOut, rows_are_all, widths_of, integer_text_is, character_text_is}

-- a row behind the blank rows before it
abbrev pub piece : List ℕ → (ℕ → List ℕ) → ℕ → List (List ℕ)
piece axes row r = replicate (blanks_before_row axes r) [] ++ row r ∷ []

abbrev pub integer_piece : List ℕ → List ℤ → ℕ → List (List ℕ)
integer_piece axes numbers = piece (row_axes axes) (integer_row (map written numbers) (product (row_axes axes)) (last_axis axes))

abbrev pub character_piece : List ℕ → List ℕ → ℕ → List (List ℕ)
character_piece axes characters = piece (row_axes axes) (character_row (map single characters) (last_axis axes))

abbrev pub box_piece : List ℕ → List (List (List ℕ)) → ℕ → List (List ℕ)
box_piece axes blocks r =
    replicate (blanks_before_row (row_axes axes) r) [] ++ box_rows (r % last_axis (row_axes axes) == 0) (box_widths blocks (product (row_axes axes)) (last_axis axes)) (take (last_axis axes) (drop (r * last_axis axes) blocks))

pub integer_piece_is : (axes shape lent : List ℕ) (numbers row : List ℤ) (widths text : List ℕ) (rows columns r blanks : ℕ) → IsLaidOut axes shape rows columns (length numbers) → r < rows → lent ≡ shape → blanks ≡ blanks_before_row lent r → widths ≡ widths_of numbers rows columns → row ≡ take columns (drop (r * columns) numbers) → text ≡ fields widths (map written row) → replicate blanks [] ++ text ∷ [] ≡ integer_piece axes numbers r
integer_piece_is axes shape lent numbers row widths text rows columns r blanks laid h same before wide taken is =
    ap (λ n. replicate n [] ++ text ∷ []) (before ∙ ap (λ l. blanks_before_row l r) (same ∙ laid.shape_is))
    ∙ ap (λ l. replicate (blanks_before_row (row_axes axes) r) [] ++ l ∷ []) (is ∙ integer_text_is axes shape numbers row widths rows columns r laid h wide taken)

pub character_piece_is : (axes shape lent characters row text : List ℕ) (rows columns r blanks : ℕ) → IsLaidOut axes shape rows columns (length characters) → r < rows → lent ≡ shape → blanks ≡ blanks_before_row lent r → row ≡ take columns (drop (r * columns) characters) → text ≡ row → replicate blanks [] ++ text ∷ [] ≡ character_piece axes characters r
character_piece_is axes shape lent characters row text rows columns r blanks laid h same before taken is =
    ap (λ n. replicate n [] ++ text ∷ []) (before ∙ ap (λ l. blanks_before_row l r) (same ∙ laid.shape_is))
    ∙ ap (λ l. replicate (blanks_before_row (row_axes axes) r) [] ++ l ∷ []) (is ∙ character_text_is axes shape characters row rows columns r laid h taken)

pub boxes_beside : (blocks beside : List (List (List ℕ))) (widths : List ℕ) (rows columns r : ℕ) → r * columns + columns ≤ length blocks → widths ≡ box_widths blocks rows columns → beside ≡ take columns (drop (r * columns) blocks) → length widths ≡ length beside
boxes_beside blocks beside widths rows columns r fits wide taken =
    ap length wide ∙ length-map-range_with_len (box_width blocks rows columns) 0 columns ∙ sym (ap length taken ∙ length_of_row blocks columns r fits)

pub box_piece_is : (axes shape lent : List ℕ) (blocks beside : List (List (List ℕ))) (widths : List ℕ) (rows columns r : ℕ) → IsLaidOut axes shape rows columns (length blocks) → lent ≡ shape → widths ≡ box_widths blocks rows columns → beside ≡ take columns (drop (r * columns) blocks) → replicate (blanks_before_row lent r) [] ++ box_rows (r % last_axis lent == 0) widths beside ≡ box_piece axes blocks r
box_piece_is axes shape lent blocks beside widths rows columns r laid same wide taken =
    let outer = row_axes axes in
    let all = rows_are_all axes shape rows columns (length blocks) laid in
    ap (λ l. replicate (blanks_before_row l r) [] ++ box_rows (r % last_axis l == 0) widths beside) (same ∙ laid.shape_is)
    ∙ ap (λ l. replicate (blanks_before_row outer r) [] ++ box_rows (r % last_axis outer == 0) l beside) (wide ∙ ap (λ n. box_widths blocks n columns) all)
    ∙ ap (λ l. replicate (blanks_before_row outer r) [] ++ box_rows (r % last_axis outer == 0) (box_widths blocks (product outer) columns) l) taken
    ∙ ap (λ n. replicate (blanks_before_row outer r) [] ++ box_rows (r % last_axis outer == 0) (box_widths blocks (product outer) n) (take n (drop (r * n) blocks))) laid.columns_are

pub no_boxes : (axes shape : List ℕ) (blocks : List (List (List ℕ))) (rows columns : ℕ) → shape ≡ row_axes axes → rows ≡ product shape → rows ≡ 0 → [] ≡ boxed_rows axes blocks
no_boxes axes shape blocks rows columns laid are none =
    ap (λ n. flat_map (box_piece axes blocks) (range_with_len 0 n)) (sym none ∙ are ∙ ap product laid)
