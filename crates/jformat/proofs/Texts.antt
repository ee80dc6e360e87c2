-- The texts of atoms, and the display of an array by its leaves.
use Rattle.std.proofs.Common.{◌≡◌, ℕ, ℤ, List, [], ◌∷◌, map, refl, sym, ap, ◌∙◌}
use Rattle.jdata.specs.Noun.{shape, kind, atoms}
use Rattle.jdata.specs.Trees.{kind_of, atoms_of, atom_of}
use Rattle.jdata.specs.declared.noun.Noun.{Noun, fold_out-Noun}
use Rattle.jdata.specs.declared.noun.Kind.TheVariants as sort
use Rattle.jdata.specs.declared.noun.Atom.{Atom, fold-roll-Atom}
use Rattle.jdata.specs.declared.noun.Atom.TheOpen as one
use Rattle.jdata.specs.declared.noun.Atom.TheVariants as atom
use Rattle.jdata.specs.declared.path.PyxId.{PyxId}
use Rattle.jdata.specs.declared.tree.Cell.{Cell}
use Rattle.jdata.specs.declared.tree.Leaves.{Leaves}
use Rattle.jdata.specs.declared.tree.Leaves.TheVariants as leaf
use Rattle.jnumber.specs.Spelling.{written}
use Rattle.jformat.specs.Rows.{text_of, block_of, block_step, integer_rows, character_rows, boxed_rows, rows_by, lines_of, rows_of, display_of}
use Rattle.jformat.specs.Single.{block_of_int}
use Rattle.jformat.proofs.Grid.{single}

abbrev pub texts_of : List Atom → List (List ℕ)
texts_of xs = map text_of (map block_of xs)

pub texts_of_ints : (ns : List ℤ) → texts_of (map atom.Int ns) ≡ map written ns
texts_of_ints [] = refl
texts_of_ints (n ∷ ns) = ap (λ rows. text_of rows ∷ texts_of (map atom.Int ns)) (block_of_int n) ∙ ap (λ l. written n ∷ l) (texts_of_ints ns)

block_of_char : (c : ℕ) → block_of (atom.Char c) ≡ single c ∷ []
block_of_char c = ap block_of (sym (atom.rolls-Char c)) ∙ fold-roll-Atom (List (List ℕ)) (List (List ℕ)) block_step (λ v. rows_by v.kind v.shape v.atoms) (one.Char c)

pub texts_of_chars : (cs : List ℕ) → texts_of (map atom.Char cs) ≡ map single cs
texts_of_chars [] = refl
texts_of_chars (c ∷ cs) = ap (λ rows. text_of rows ∷ texts_of (map atom.Char cs)) (block_of_char c) ∙ ap (λ l. single c ∷ l) (texts_of_chars cs)

-- a box has the rows of its content
pub block_of_box : (v : Noun) → block_of (atom.Box v) ≡ rows_of v
unfolding rows_of
block_of_box v =
    ap block_of (sym (atom.rolls-Box v))
    ∙ fold-roll-Atom (List (List ℕ)) (List (List ℕ)) block_step (λ w. rows_by w.kind w.shape w.atoms) (one.Box v)
    ∙ fold_out-Noun (List (List ℕ)) (List (List ℕ)) block_step (λ w. rows_by w.kind w.shape w.atoms) v

pub block_of_pyx : (p : PyxId) → block_of (atom.Pyx p) ≡ []
block_of_pyx p = ap block_of (sym (atom.rolls-Pyx p)) ∙ fold-roll-Atom (List (List ℕ)) (List (List ℕ)) block_step (λ w. rows_by w.kind w.shape w.atoms) (one.Pyx p)

-- what the code knows of an array and its leaves
pub record AreLeaves (v : Noun) (leaves : Leaves) (axes : List ℕ) : Type 0 where
  pub kind_is : kind_of leaves ≡ kind v
  pub atoms_are : atoms_of leaves ≡ atoms v
  pub axes_are : axes ≡ shape v

pub rows_of_integers : (v : Noun) (leaves : Leaves) (axes : List ℕ) (ns xs : List ℤ) → AreLeaves v leaves axes → leaves ≡ leaf.Int ns → xs ≡ ns → integer_rows axes (map written xs) ≡ rows_of v
unfolding rows_of
rows_of_integers v leaves axes ns xs are is same =
    let k : sort.Int ≡ kind v = ap kind_of (sym is) ∙ are.kind_is in
    let a : map atom.Int ns ≡ atoms v = ap atoms_of (sym is) ∙ are.atoms_are in
    let t : map written xs ≡ texts_of (atoms v) = ap (map written) same ∙ sym (texts_of_ints ns) ∙ ap texts_of a in
    ap (integer_rows axes) t
    ∙ ap (λ y. integer_rows y (texts_of (atoms v))) are.axes_are
    ∙ ap (λ y. rows_by y (shape v) (map block_of (atoms v))) k

pub rows_of_characters : (v : Noun) (leaves : Leaves) (axes : List ℕ) (cs xs : List ℕ) → AreLeaves v leaves axes → leaves ≡ leaf.Char cs → xs ≡ cs → character_rows axes (map single xs) ≡ rows_of v
unfolding rows_of
rows_of_characters v leaves axes cs xs are is same =
    let k : sort.Char ≡ kind v = ap kind_of (sym is) ∙ are.kind_is in
    let a : map atom.Char cs ≡ atoms v = ap atoms_of (sym is) ∙ are.atoms_are in
    let t : map single xs ≡ texts_of (atoms v) = ap (map single) same ∙ sym (texts_of_chars cs) ∙ ap texts_of a in
    ap (character_rows axes) t
    ∙ ap (λ y. character_rows y (texts_of (atoms v))) are.axes_are
    ∙ ap (λ y. rows_by y (shape v) (map block_of (atoms v))) k

pub rows_of_boxes : (v : Noun) (leaves : Leaves) (axes : List ℕ) (cs xs : List Cell) → AreLeaves v leaves axes → leaves ≡ leaf.Cell cs → xs ≡ cs → boxed_rows axes (map block_of (map atom_of xs)) ≡ rows_of v
unfolding rows_of
rows_of_boxes v leaves axes cs xs are is same =
    let k : sort.Boxed ≡ kind v = ap kind_of (sym is) ∙ are.kind_is in
    let a : map atom_of cs ≡ atoms v = ap atoms_of (sym is) ∙ are.atoms_are in
    let t : map block_of (map atom_of xs) ≡ map block_of (atoms v) = ap (λ l. map block_of (map atom_of l)) same ∙ ap (map block_of) a in
    ap (boxed_rows axes) t
    ∙ ap (λ y. boxed_rows y (map block_of (atoms v))) are.axes_are
    ∙ ap (λ y. rows_by y (shape v) (map block_of (atoms v))) k

pub display_of_integers : (v : Noun) (leaves : Leaves) (axes : List ℕ) (ns xs : List ℤ) → AreLeaves v leaves axes → leaves ≡ leaf.Int ns → xs ≡ ns → lines_of (integer_rows axes (map written xs)) ≡ display_of v
unfolding display_of
display_of_integers v leaves axes ns xs are is same = ap lines_of (rows_of_integers v leaves axes ns xs are is same)

pub display_of_characters : (v : Noun) (leaves : Leaves) (axes : List ℕ) (cs xs : List ℕ) → AreLeaves v leaves axes → leaves ≡ leaf.Char cs → xs ≡ cs → lines_of (character_rows axes (map single xs)) ≡ display_of v
unfolding display_of
display_of_characters v leaves axes cs xs are is same = ap lines_of (rows_of_characters v leaves axes cs xs are is same)

pub display_of_rows : (v : Noun) (rows : List (List ℕ)) → rows ≡ rows_of v → lines_of rows ≡ display_of v
unfolding display_of
display_of_rows v rows e = ap lines_of e
