-- The text of an array of integers, where the code has its rows, columns and widths as numbers.
use Rattle.std.proofs.Common.{◌≡◌, ℕ, ℤ, ◌+◌, ◌-◌, List, [], ◌∷◌, ◌++◌, Ok, length, map, sum, sym, ap, ◌∙◌}
use Rattle.std.specs.List.{range_with_len, flat_map}
use Rattle.jdata.specs.Noun.{noun, shape, kind, atoms, product}
use Rattle.jdata.specs.Trees.{kind_of, atoms_of}
use Rattle.jdata.specs.declared.noun.Noun.{Noun}
use Rattle.jdata.specs.declared.noun.Kind.TheVariants as sort
use Rattle.jdata.specs.declared.noun.Atom.TheVariants as atom
use Rattle.jdata.specs.declared.tree.Cell.{Cell}
use Rattle.jdata.specs.declared.tree.Leaves.{Leaves}
use Rattle.jdata.specs.declared.tree.Leaves.TheVariants as leaf
use Rattle.jnumber.specs.Spelling.{written}
use Rattle.jformat.specs.Rows.{row_axes, last_axis, integer_row, rows_of}
use Rattle.jdata.specs.Limits.{limited}
use Rattle.jformat.specs.Format.{row_width, integer_text, matrix_text, format_by, format_of}
use Rattle.jformat.proofs.LaidOut.{IsLaidOut, rows_are_all, widths_of}
use Rattle.jformat.proofs.Sizes.{row_width_is}
use Rattle.jformat.proofs.Texts.{AreLeaves, texts_of, texts_of_ints}

-- the axes of the text
pub text_axes_are : (axes shape lent : List ℕ) (numbers : List ℤ) (widths : List ℕ) (rows columns width : ℕ) → IsLaidOut axes shape rows columns (length numbers) → lent ≡ shape → widths ≡ widths_of numbers rows columns → width ≡ sum widths + (length widths - 1) → lent ++ width ∷ [] ≡ row_axes axes ++ row_width (map written numbers) (product (row_axes axes)) (last_axis axes) ∷ []
text_axes_are axes shape lent numbers widths rows columns width laid same wide total =
    let texts = map written numbers in
    ap (λ l. l ++ width ∷ []) (same ∙ laid.shape_is)
    ∙ ap (λ n. row_axes axes ++ n ∷ [])
    (total ∙ row_width_is numbers rows columns widths wide ∙ ap (λ n. row_width texts n columns) (rows_are_all axes shape rows columns (length numbers) laid) ∙ ap (λ n. row_width texts (product (row_axes axes)) n) laid.columns_are)

-- the array of these axes and characters is the text
pub text_is : (axes shape : List ℕ) (numbers : List ℤ) (rows columns : ℕ) (made held text : List ℕ) → IsLaidOut axes shape rows columns (length numbers) → made ≡ row_axes axes ++ row_width (map written numbers) (product (row_axes axes)) (last_axis axes) ∷ [] → held ≡ text → text ≡ flat_map (integer_row (map written numbers) rows columns) (range_with_len 0 rows) → noun made sort.Char (map atom.Char held) ≡ integer_text axes (map written numbers)
text_is axes shape numbers rows columns made held text laid e same is =
    let texts = map written numbers in
    let all = rows_are_all axes shape rows columns (length numbers) laid in
    let whole : held ≡ flat_map (integer_row texts (product (row_axes axes)) (last_axis axes)) (range_with_len 0 (product (row_axes axes))) =
    same ∙ is ∙ ap (λ n. flat_map (integer_row texts n columns) (range_with_len 0 n)) all ∙ ap (λ n. flat_map (integer_row texts (product (row_axes axes)) n) (range_with_len 0 (product (row_axes axes)))) laid.columns_are in
    ap (λ l. noun l sort.Char (map atom.Char held)) e ∙ ap (λ l. noun (row_axes axes ++ row_width texts (product (row_axes axes)) (last_axis axes) ∷ []) sort.Char (map atom.Char l)) whole

pub format_of_integers : (v : Noun) (leaves : Leaves) (axes : List ℕ) (ns xs : List ℤ) → AreLeaves v leaves axes → leaves ≡ leaf.Int ns → xs ≡ ns → limited (integer_text axes (map written xs)) ≡ format_of v
unfolding format_of
format_of_integers v leaves axes ns xs are is same =
    let k : sort.Int ≡ kind v = ap kind_of (sym is) ∙ are.kind_is in
    let a : map atom.Int ns ≡ atoms v = ap atoms_of (sym is) ∙ are.atoms_are in
    let t : map written xs ≡ texts_of (atoms v) = ap (map written) same ∙ sym (texts_of_ints ns) ∙ ap texts_of a in
    ap (λ y. limited (integer_text y (map written xs))) are.axes_are
    ∙ ap (λ y. limited (integer_text (shape v) y)) t
    ∙ ap (λ y. format_by y v) k

pub format_of_characters : (v : Noun) (leaves : Leaves) (cs : List ℕ) → kind_of leaves ≡ kind v → leaves ≡ leaf.Char cs → format_of v ≡ Ok v
unfolding format_of
format_of_characters v leaves cs e is = ap (λ y. format_by y v) (sym e ∙ ap kind_of is)

pub format_of_boxes : (v : Noun) (leaves : Leaves) (cs : List Cell) (rows : List (List ℕ)) → kind_of leaves ≡ kind v → leaves ≡ leaf.Cell cs → rows ≡ rows_of v → limited (matrix_text rows) ≡ format_of v
unfolding format_of
format_of_boxes v leaves cs rows e is same = ap (λ y. limited (matrix_text y)) same ∙ ap (λ y. format_by y v) (sym (ap kind_of is) ∙ e)
