-- Numbers found for cells, as arrays.
use Rattle.std.specs.Prelude.{ℕ, zero, suc, ◌-◌, ◌^◌, ◌<◌, ◌≤◌, ◌≡◌, ◌==◌, nat_lt, ℤ, pos, Bool, true, false, cond, List, [], ◌∷◌, length, map, take, reverse, get_or}
use Rattle.std.specs.List.{range_with_len}
use Rattle.std.proofs.Common.{arith, sym, ◌∙◌, ap, refl, subst}
use Rattle.std.proofs.lemmas.List.Sums.{prefix_len-le-length}
use Rattle.std.proofs.lemmas.List.FromFn.{length-map-range_with_len, get_or-map-range_with_len}
use Rattle.jdata.specs.Limits.{IsArray}
use Rattle.jdata.specs.Noun.{noun, shape, product}
use Rattle.jdata.specs.Tabulated.{tabulated}
use Rattle.jdata.specs.declared.noun.Noun.{Noun}
use Rattle.jdata.specs.declared.noun.Kind.TheVariants as sort
use Rattle.jdata.specs.declared.noun.Atom.TheVariants as atom
use Rattle.jdata.proofs.Extents.{product_at_most, parts_are_within}
use Rattle.jdata.proofs.Lists.{same_map}
use Rattle.jselect.specs.Items.{list_axes, first_axis, item_count, as_list}
use Rattle.jselect.specs.Views.{nth_range}
use Rattle.jsearch.specs.Finding.{item, items, outer, is_item_of, first_place, last_place, from_end, flags, truth}
use Rattle.jsearch.specs.Listed.{whole, cell_in, cell_count, cells_in}
use Rattle.jsearch.specs.declared.cells.Cells.{Cells}
use Rattle.jsearch.proofs.Looking.{map-map}

-- a number for each cell
pub numbers_made : (c : Cells) (y : Noun) (k : ℕ) (f : Noun → ℤ) (numbers : List ℤ) (t : Noun) → whole c ≡ y → c.frame ≡ k →
    numbers ≡ map (λ j. f (cell_in c j)) (range_with_len 0 (cell_count c)) → t ≡ noun (take c.frame c.axes.now) sort.Int (map atom.Int numbers) →
    t ≡ tabulated (take k (shape y)) sort.Int (λ j. atom.Int (f (nth_range k j y)))
numbers_made c y k f numbers t is frame are e =
    e ∙ ap (λ l. noun (take c.frame c.axes.now) sort.Int l) (ap (map atom.Int) are ∙ map-map atom.Int (λ j. f (cell_in c j)) (range_with_len 0 (cell_count c)))
    ∙ (λ i. noun (take (frame i) (shape (is i))) sort.Int (map (λ j. atom.Int (f (nth_range (frame i) j (is i)))) (range_with_len 0 (product (take (frame i) (shape (is i)))))))

first_of_list : (s : List ℕ) → take 1 (list_axes s) ≡ first_axis s ∷ []
first_of_list [] = refl
first_of_list (n ∷ ns) = refl

one_axis : (n : ℕ) → product (n ∷ []) ≡ n
one_axis n = omega arith

-- the axes that count items
pub items_axis : (c : Cells) (y : Noun) → whole c ≡ as_list y → c.frame ≡ 1 → take c.frame c.axes.now ≡ item_count y ∷ []
items_axis c y is frame = (λ i. take (frame i) (shape (is i))) ∙ first_of_list (shape y)

pub items_count : (c : Cells) (y : Noun) → whole c ≡ as_list y → c.frame ≡ 1 → cell_count c ≡ item_count y
items_count c y is frame = ap product (items_axis c y is frame) ∙ one_axis (item_count y)

pub item_is : (c : Cells) (y : Noun) → whole c ≡ as_list y → c.frame ≡ 1 → (j : ℕ) → cell_in c j ≡ item y j
item_is c y is frame j = λ i. nth_range (frame i) j (is i)

pub items_are : (c : Cells) (y : Noun) → whole c ≡ as_list y → c.frame ≡ 1 → cells_in c ≡ items y
items_are c y is frame = λ i. map (λ j. item_is c y is frame j i) (range_with_len 0 (items_count c y is frame i))

-- a flag for each item
pub flags_made : (c : Cells) (y : Noun) (test : ℕ → Bool) (numbers : List ℤ) (t : Noun) → whole c ≡ as_list y → c.frame ≡ 1 →
    numbers ≡ map (λ j. truth (test j)) (range_with_len 0 (cell_count c)) → t ≡ noun (take c.frame c.axes.now) sort.Int (map atom.Int numbers) → t ≡ flags test y
flags_made c y test numbers t is frame are e =
    e ∙ ap (λ l. noun (take c.frame c.axes.now) sort.Int l) (ap (map atom.Int) are ∙ map-map atom.Int (λ j. truth (test j)) (range_with_len 0 (cell_count c)))
    ∙ (λ i. noun (items_axis c y is frame i) sort.Int (map (λ j. atom.Int (truth (test j))) (range_with_len 0 (product (items_axis c y is frame i)))))

-- places are no greater than how many cells there are
pub first_within : (vs : List Noun) (v : Noun) → first_place vs v ≤ length vs
unfolding first_place
first_within vs v = prefix_len-le-length _ vs

pub end_within : (n p : ℕ) → from_end n p ≤ n
end_within n p = elim (nat_lt p n) as (λ b. cond b (n - suc p) n ≤ n) [ true ↦ omega arith | false ↦ omega arith ]

mapped_within : (m : ℕ) (f : ℕ → ℕ) (l : List ℕ) → ((j : ℕ) → f j ≤ m) → (k : ℕ) → get_or (map f l) k 0 ≤ m
mapped_within m f [] h k = omega arith
mapped_within m f (x ∷ l) h zero = h x
mapped_within m f (x ∷ l) h (suc k) = mapped_within m f l h k

-- what a search among cells gives fits an integer
pub places_fit : (c : Cells) (f : ℕ → ℕ) (l places : List ℕ) → IsArray (whole c) → places ≡ map f l → ((j : ℕ) → f j ≤ length (cells_in c)) →
    (k : ℕ) → k < length places → get_or places k 0 < 2 ^ 63
places_fit c f l places array e h k below =
    let few : length (cells_in c) ≡ cell_count c = length-map-range_with_len (cell_in c) 0 (cell_count c) in
    let small = (parts_are_within c.frame c.axes.now).0 in
    let most = product_at_most (take c.frame c.axes.now) in
    let bound = array.within.extent_at_most in
    let within : get_or places k 0 ≤ length (cells_in c) = subst (λ p. get_or p k 0 ≤ length (cells_in c)) (sym e) (mapped_within (length (cells_in c)) f l h k) in
    omega (arith, few, small, most, bound, within)

-- which places are their own
pub own_places : (f : ℕ → ℕ) (n : ℕ) (places : List ℕ) → places ≡ map f (range_with_len 0 n) →
    map (λ i. truth (get_or places i 0 == i)) (range_with_len 0 (length places)) ≡ map (λ i. truth (f i == i)) (range_with_len 0 n)
own_places f n places e =
    (λ k. map (λ i. truth (get_or (e k) i 0 == i)) (range_with_len 0 (length (e k))))
    ∙ ap (λ m. map (λ i. truth (get_or (map f (range_with_len 0 n)) i 0 == i)) (range_with_len 0 m)) (length-map-range_with_len f 0 n)
    ∙ same_map (λ i. truth (get_or (map f (range_with_len 0 n)) i 0 == i)) (λ i. truth (f i == i)) n (pos 0)
    (λ p below. ap (λ v. truth (v == p)) (get_or-map-range_with_len f 0 n p p 0 below (omega arith)))

-- the flags of the items that are new
pub new_flags : (c : Cells) (y : Noun) (places : List ℕ) (is : whole c ≡ as_list y) (frame : c.frame ≡ 1) →
    places ≡ map (λ j. first_place (cells_in c) (cell_in c j)) (range_with_len 0 (cell_count c)) →
    map (λ i. truth (get_or places i 0 == i)) (range_with_len 0 (length places)) ≡ map (λ i. truth (first_place (items y) (item y i) == i)) (range_with_len 0 (cell_count c))
new_flags c y places is frame e =
    own_places (λ j. first_place (cells_in c) (cell_in c j)) (cell_count c) places e
    ∙ (λ k. map (λ i. truth (first_place (items_are c y is frame k) (item_is c y is frame i k) == i)) (range_with_len 0 (cell_count c)))

some_axis : (s : List ℕ) → 1 ≤ length (list_axes s)
some_axis [] = omega arith
some_axis (n ∷ ns) = omega arith

pub items_within : (c : Cells) (y : Noun) → whole c ≡ as_list y → c.frame ≡ 1 → c.frame ≤ length c.axes.now
items_within c y is frame =
    let axes : length c.axes.now ≡ length (list_axes (shape y)) = ap (λ v. length (shape v)) is in
    let some = some_axis (shape y) in
    omega (arith, frame, axes, some)

pub cells_within : (c : Cells) (x y : Noun) → whole c ≡ y → c.frame ≡ outer x y → c.frame ≤ length c.axes.now
cells_within c x y is frame = let axes : length c.axes.now ≡ length (shape y) = ap (λ v. length (shape v)) is in omega (arith, frame, axes)

-- the places found for cells of y among the items of x
pub placed_for : (a w : Cells) (x : Noun) (place : List Noun → Noun → ℕ) (places : List ℕ) (numbers : List ℤ) → whole a ≡ as_list x → a.frame ≡ 1 →
    places ≡ map (λ j. place (cells_in a) (cell_in w j)) (range_with_len 0 (cell_count w)) → numbers ≡ map pos places →
    numbers ≡ map (λ j. pos (place (items x) (cell_in w j))) (range_with_len 0 (cell_count w))
placed_for a w x place places numbers is frame e are =
    are ∙ ap (map pos) e ∙ map-map pos (λ j. place (cells_in a) (cell_in w j)) (range_with_len 0 (cell_count w))
    ∙ (λ i. map (λ j. pos (place (items_are a x is frame i) (cell_in w j))) (range_with_len 0 (cell_count w)))

-- and whether there is one
pub tested_for : (a w : Cells) (x : Noun) (n : ℕ) (turn : Bool → Bool) (places : List ℕ) (numbers : List ℤ) (is : whole a ≡ as_list x) (frame : a.frame ≡ 1) → n ≡ cell_count a →
    places ≡ map (λ j. first_place (cells_in a) (cell_in w j)) (range_with_len 0 (cell_count w)) → numbers ≡ map (λ p. truth (turn (nat_lt p n))) places →
    numbers ≡ map (λ j. truth (turn (is_item_of x (cell_in w j)))) (range_with_len 0 (cell_count w))
tested_for a w x n turn places numbers is frame count e are =
    are ∙ ap (map (λ p. truth (turn (nat_lt p n)))) e
    ∙ map-map (λ p. truth (turn (nat_lt p n))) (λ j. first_place (cells_in a) (cell_in w j)) (range_with_len 0 (cell_count w))
    ∙ (λ i. map (λ j. truth (turn (nat_lt (first_place (items_are a x is frame i) (cell_in w j)) ((count ∙ items_count a x is frame) i)))) (range_with_len 0 (cell_count w)))

pub last_within : (vs : List Noun) (v : Noun) → last_place vs v ≤ length vs
last_within vs v = end_within (length vs) (first_place (reverse vs) v)
