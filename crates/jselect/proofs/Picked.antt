-- Items by index are runs of atoms.
use Rattle.std.specs.Prelude.{ℕ, ◌+◌, ◌*◌, ◌/◌, ◌%◌, ◌<◌, ◌≤◌, ◌≡◌, ◌&&◌, max, nat_lt, List, [], ◌∷◌, length, get_or}
use Rattle.std.specs.List.{All}
use Rattle.std.proofs.Common.{arith, ◌∙◌, ap, refl}
use Rattle.std.proofs.lemmas.Bool.{lt-ltb}
use Rattle.std.proofs.Math.Nat.{le-mul_of_pos_right}
use Rattle.std.proofs.lemmas.List.Elements.{All-get_or, All-weaker}
use Rattle.std.proofs.lemmas.Nat.{mod_below, div_below, row_fits}
use Rattle.jdata.specs.Fills.{fill_of}
use Rattle.jdata.specs.Indexes.{index_at, place_at, has_index, at_or}
use Rattle.jdata.specs.Limits.{IsArray, IsShape, most_atoms}
use Rattle.jdata.specs.Noun.{shape, kind, atoms, noun, product, extent}
use Rattle.jdata.specs.declared.noun.Noun.{Noun}
use Rattle.jdata.specs.declared.noun.Atom.{Atom}
use Rattle.jdata.proofs.Extents.{extent_some}
use Rattle.jdata.proofs.Indexing.{place_of_index, has_index_at}
use Rattle.jdata.proofs.Lists.{same_map, factor_some}
use Rattle.jselect.specs.Items.{first_axis, further_axes, list_axes}
use Rattle.jselect.specs.Picking.{items_at, picked, runs}
use Rattle.jselect.proofs.Runs.{Fits, runs_by_place}
use Rattle.jselect.proofs.Choices.{both, chosen}

pub list_axes_is : (s : List ℕ) → list_axes s ≡ first_axis s ∷ further_axes s
list_axes_is [] = refl
list_axes_is (n ∷ ns) = refl

pub product_is : (s : List ℕ) → product s ≡ first_axis s * product (further_axes s)
product_is [] = omega arith
product_is (n ∷ ns) = refl

-- the atom of an item
at_item : {A : Type 0} (d : A) (n : ℕ) (ns : List ℕ) (xs : List A) (p r : ℕ) → p < n → r < product ns →
    at_or d (n ∷ ns) xs (p ∷ index_at ns r) ≡ get_or xs (p * product ns + r) d
at_item d n ns xs p r row column =
    chosen (nat_lt p n && has_index ns (index_at ns r)) (get_or xs (p * product ns + place_at ns (index_at ns r)) d) d
    (both (nat_lt p n) (has_index ns (index_at ns r)) (lt-ltb p n row) (has_index_at ns r column))
    ∙ ap (λ k. get_or xs (p * product ns + k) d) (place_of_index ns r column)

pub item_fits : (y : Noun) (p : ℕ) → IsArray y → p < first_axis (shape y) → Fits (product (further_axes (shape y))) (length (atoms y)) p
item_fits y p a h =
    let c = product (further_axes (shape y)) in
    let fits : p * c + c ≤ first_axis (shape y) * c = row_fits p c (first_axis (shape y)) c h (omega arith) in
    omega (arith, fits, a.whole, product_is (shape y))

pub items_are_runs : (y : Noun) (places : List ℕ) → IsArray y → All (λ p. p < first_axis (shape y)) places →
    items_at places y ≡ noun (length places ∷ further_axes (shape y)) (kind y) (runs (product (further_axes (shape y))) (atoms y) places)
unfolding items_at
items_are_runs y places a h =
    let ns = further_axes (shape y) in
    let c = product ns in
    let d = fill_of (kind y) in
    let n = length places in
    let f : ℕ → Atom = λ q. picked places y (index_at (n ∷ ns) q) in
    let g : ℕ → Atom = λ q. get_or (atoms y) (get_or places (q / c) 0 * c + q % c) d in
    let same : (q : ℕ) → q < n * c → f q ≡ g q = λ q below.
    let some : 0 < c = factor_some q n c below in
    let row : get_or places (q / c) 0 < first_axis (shape y) = All-get_or (λ p. p < first_axis (shape y)) places (q / c) 0 (div_below q c n some below) h in
    ap (λ axes. at_or d axes (atoms y) (get_or places (q / c) 0 ∷ index_at ns (q % c))) (list_axes_is (shape y))
    ∙ at_item d (first_axis (shape y)) ns (atoms y) (get_or places (q / c) 0) (q % c) row (mod_below q c some)
    in
    let fits : All (Fits c (length (atoms y))) places = All-weaker (λ p. p < first_axis (shape y)) (Fits c (length (atoms y))) (λ p below. item_fits y p a below) places h in
    ap (noun (n ∷ ns) (kind y)) (same_map f g (n * c) d same ∙ runs_by_place c (atoms y) places d fits)

-- an axis is within the limit
first_at_most : (n : ℕ) (ns : List ℕ) → n ≤ extent (n ∷ ns)
first_at_most n ns =
    let up = le-mul_of_pos_right {m = extent ns} (max n 1) (omega (arith, extent_some ns)) in
    omega (arith, up)

pub first_axis_at_most : (s : List ℕ) → IsShape s → first_axis s ≤ most_atoms
first_axis_at_most [] h = omega arith
first_axis_at_most (n ∷ ns) h = omega (arith, h.extent_at_most, first_at_most n ns)

pub count_at_most : (s : List ℕ) → IsShape s → 1 ≤ length s → get_or s 0 0 ≤ most_atoms
count_at_most [] h some = omega arith
count_at_most (n ∷ ns) h some = first_axis_at_most (n ∷ ns) h
