-- Cells are arrays, and what making them answers.
use Rattle.std.proofs.Common.{◌≡◌, ℕ, ℤ, pos, ◌+◌, ◌*◌, ◌<◌, ◌≤◌, zero, suc, List, [], ◌∷◌, ◌++◌, length, map, take, drop, get_or, replicate, refl, sym, ap, ◌∙◌, arith, Ok}
use Rattle.std.proofs.lemmas.Nat.{row_fits}
use Rattle.jdata.specs.Fills.{fill_of}
use Rattle.jdata.specs.Limits.{checked, most_levels, IsShape, IsArray}
use Rattle.jdata.specs.Noun.{shape, kind, atoms, noun, product, greatest, level, atom_level, int_atom}
use Rattle.jdata.specs.declared.noun.Noun.{Noun}
use Rattle.jdata.specs.declared.noun.Kind.{Kind}
use Rattle.jdata.specs.declared.noun.Kind.TheVariants as sort
use Rattle.jdata.specs.declared.noun.Atom.{Atom}
use Rattle.jdata.specs.declared.noun.Atom.TheVariants as atom
use Rattle.jdata.specs.Trees.{noun_of, kind_of, atoms_of}
use Rattle.jdata.specs.declared.tree.Leaves.{Leaves}
use Rattle.jdata.proofs.Arrays.{made, range_is_array, fills_are_array as replicas_are_array, same_noun}
use Rattle.jdata.proofs.Extents.{product-append}
use Rattle.jdata.proofs.Levels.{level_is}
use Rattle.jdata.proofs.Lists.{window}
use Rattle.jframe.specs.Cells.{fills, nth_cell}

pub fills_are_array : (axes : List ℕ) (k : Kind) → IsShape axes → IsArray (fills axes k)
unfolding fills
fills_are_array axes k within = replicas_are_array axes k within

-- a cell is a range of the atoms
pub cut : (cell : List ℕ) (y : Noun) (i : ℕ) → i * product cell + product cell ≤ length (atoms y) →
    nth_cell cell y i ≡ noun cell (kind y) (take (product cell) (drop (i * product cell) (atoms y)))
unfolding nth_cell
cut cell y i h = ap (noun cell (kind y)) (sym (window (atoms y) (i * product cell) (product cell) (fill_of (kind y)) h))

pub cell_is_array : (cell : List ℕ) (y : Noun) (i : ℕ) → i * product cell + product cell ≤ length (atoms y) → IsShape cell → IsArray y →
    IsArray (nth_cell cell y i)
cell_is_array cell y i h within a = rw (cut cell y i h) (range_is_array cell y (i * product cell) h within a.level_at_most)

-- each cell is within the array
pub cell_within : (frame cell : List ℕ) (y : Noun) (i : ℕ) → i < product frame → shape y ≡ frame ++ cell → IsArray y →
    i * product cell + product cell ≤ length (atoms y)
cell_within frame cell y i h e a =
    let fits : i * product cell + product cell ≤ product frame * product cell = row_fits i (product cell) (product frame) (product cell) h (omega arith) in
    omega (arith, fits, a.whole, ap product e, product-append frame cell)

pub cell_ends : (frame cell : List ℕ) (y : Noun) (i n : ℕ) → i < product frame → shape y ≡ frame ++ cell → IsArray y → n ≡ product cell →
    i * n + n ≤ length (atoms y)
cell_ends frame cell y i n h e a is = let within = cell_within frame cell y i h e a in rw is within

-- a function of the items
pub get_or-mapped : {A B : Type 0} (f : A → B) (l : List A) (i : ℕ) (d : A) → f (get_or l i d) ≡ get_or (map f l) i (f d)
get_or-mapped f [] i d = refl
get_or-mapped f (x ∷ l) zero d = refl
get_or-mapped f (x ∷ l) (suc i) d = get_or-mapped f l i d

-- a range of atoms as an array, and what the test of the limits answers
pub range_made : (cell : List ℕ) (k : Kind) (from : List Atom) (s n : ℕ) (axes : List ℕ) (l : Leaves) → n ≡ product cell → s + n ≤ length from →
    IsShape cell → greatest (map atom_level from) ≤ most_levels →
    axes ≡ cell → kind_of l ≡ k → atoms_of l ≡ take n (drop s from) → checked (noun_of axes l) ≡ Ok (noun cell k (take n (drop s from)))
range_made cell k from s n axes l is h within deep e same f =
    let y = noun [] k from in
    let ends : s + product cell ≤ length from = rw (← is) h in
    let levels : level y ≤ most_levels = omega (arith, level_is y, deep) in
    let array = range_is_array cell y s ends within levels in
    let whole : IsArray (noun cell k (take n (drop s from))) = rw is array in
    ap checked (same_noun axes cell (kind_of l) k (atoms_of l) (take n (drop s from)) e same f) ∙ made _ whole

-- and it is the cell
pub cell_of_range : (cell : List ℕ) (y : Noun) (i n : ℕ) (axes : List ℕ) (k : Kind) (from : List Atom) → n ≡ product cell → i * n + n ≤ length (atoms y) →
    axes ≡ cell → k ≡ kind y → from ≡ atoms y → noun axes k (take n (drop (i * n) from)) ≡ nth_cell cell y i
cell_of_range cell y i n axes k from is h e f g =
    let ends : i * product cell + product cell ≤ length (atoms y) = rw (← is) h in
    same_noun axes cell k (kind y) (take n (drop (i * n) from)) (take (product cell) (drop (i * product cell) (atoms y))) e f
    (ap (λ l. take n (drop (i * n) l)) g ∙ ap (λ m. take m (drop (i * m) (atoms y))) is)
    ∙ sym (cut cell y i ends)

-- an integer of an array, as its cell
pub cell_of_integer : (cell : List ℕ) (y : Noun) (i : ℕ) (ns : List ℤ) → cell ≡ [] → sort.Int ≡ kind y → map atom.Int ns ≡ atoms y →
    int_atom (get_or ns i (pos 0)) ≡ nth_cell cell y i
unfolding nth_cell
cell_of_integer cell y i ns e f g =
    let at : i ≡ i * 1 + 0 = omega arith in
    let here : atom.Int (get_or ns i (pos 0)) ≡ get_or (atoms y) (i * 1 + 0) (fill_of (kind y)) =
    get_or-mapped atom.Int ns i (pos 0) ∙ (λ k. get_or (g k) (at k) (fill_of (f k))) in
    let alone : int_atom (get_or ns i (pos 0)) ≡ nth_cell [] y i = λ k. noun [] (f k) (here k ∷ []) in
    alone ∙ ap (λ c. nth_cell c y i) (sym e)

-- the same of the cell of fills
pub fills_made : (cell : List ℕ) (k : Kind) (axes : List ℕ) (l : Leaves) (n : ℕ) → n ≡ product cell → IsShape cell →
    axes ≡ cell → kind_of l ≡ k → atoms_of l ≡ replicate n (fill_of k) → checked (noun_of axes l) ≡ Ok (fills cell k)
unfolding fills
fills_made cell k axes l n is within e same f =
    ap checked (same_noun axes cell (kind_of l) k (atoms_of l) (replicate (product cell) (fill_of k)) e same (f ∙ ap (λ m. replicate m (fill_of k)) is))
    ∙ made (fills cell k) (fills_are_array cell k within)
