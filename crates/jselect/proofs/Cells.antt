-- Cells that integers name, and the ranges of atoms that they are.
use Rattle.std.specs.Prelude.{ℕ, suc, ◌+◌, ◌-◌, ◌*◌, ◌<◌, ◌≤◌, ◌≡◌, max, nat_lt, ℤ, pos, negsuc, Bool, true, false, if◌then◌else◌, Result, Ok, Err, List, [], ◌∷◌, ◌++◌, length, take, drop, get_or}
use Rattle.std.proofs.Common.{arith, sym, ◌∙◌, ap, refl, subst}
use Rattle.std.proofs.Math.Nat.{zero-mul, mul-le-mul_right, le-mul_of_pos_right}
use Rattle.std.proofs.lemmas.Bool.{lt-ltb, ltb-true, le-ltb}
use Rattle.std.proofs.lemmas.List.{drop_more, take-append-drop, length-drop}
use Rattle.std.proofs.lemmas.Nat.{row_fits}
use Rattle.jdata.specs.Fills.{fill_of}
use Rattle.jdata.specs.Firsts.{and_then, in_front}
use Rattle.jdata.specs.Indexes.{index_at, place_at, has_index, at_or}
use Rattle.jdata.specs.Limits.{IsArray, IsShape}
use Rattle.jdata.specs.Noun.{shape, kind, atoms, noun, product}
use Rattle.jdata.specs.declared.fault.Fault.{Fault}
use Rattle.jdata.specs.declared.fault.Fault.TheVariants as fault
use Rattle.jdata.specs.declared.noun.Noun.{Noun}
use Rattle.jdata.proofs.Arrays.{range_is_array}
use Rattle.jdata.proofs.Extents.{product-append, parts_are_within}
use Rattle.jdata.proofs.Indexing.{place_of_index, has_index_at, place_within}
use Rattle.jdata.proofs.Levels.{level_is}
use Rattle.jdata.proofs.Lists.{same_map, window}
use Rattle.jselect.specs.Items.{as_list, list_axes}
use Rattle.jselect.specs.From.{cell_at, cell_named}
use Rattle.jselect.specs.Places.{place_in, places_in}
use Rattle.jselect.specs.Views.{nth_range}
use Rattle.jselect.proofs.Choices.{and_first, and_second, both, chosen, otherwise}

-- an index in two parts
pub index_append : (axes ps j : List ℕ) → has_index (take (length ps) axes) ps ≡ true → has_index (drop (length ps) axes) j ≡ true → has_index axes (ps ++ j) ≡ true
index_append axes [] j h rest = rest
index_append [] (p ∷ ps) j h rest = cc
index_append (n ∷ ns) (p ∷ ps) j h rest =
    both (nat_lt p n) (has_index ns (ps ++ j)) (and_first (nat_lt p n) (has_index (take (length ps) ns) ps) h)
    (index_append ns ps j (and_second (nat_lt p n) (has_index (take (length ps) ns) ps) h) rest)

pub place_append : (axes ps j : List ℕ) → has_index (take (length ps) axes) ps ≡ true →
    place_at axes (ps ++ j) ≡ place_at (take (length ps) axes) ps * product (drop (length ps) axes) + place_at (drop (length ps) axes) j
place_append axes [] j h = omega arith
place_append [] (p ∷ ps) j h = cc
place_append (n ∷ ns) (p ∷ ps) j h =
    let inner = place_append ns ps j (and_second (nat_lt p n) (has_index (take (length ps) ns) ps) h) in
    let whole : product ns ≡ product (take (length ps) ns) * product (drop (length ps) ns) =
    ap product (sym (take-append-drop (length ps) ns)) ∙ product-append (take (length ps) ns) (drop (length ps) ns) in
    let spread = ap (λ m. p * m) whole in
    omega (arith, inner, spread)

-- the atom of a cell
at_cell : {A : Type 0} (d : A) (axes ps : List ℕ) (xs : List A) (r : ℕ) → has_index (take (length ps) axes) ps ≡ true → r < product (drop (length ps) axes) →
    at_or d axes xs (ps ++ index_at (drop (length ps) axes) r) ≡ get_or xs (place_at (take (length ps) axes) ps * product (drop (length ps) axes) + r) d
at_cell d axes ps xs r h below =
    let rest = drop (length ps) axes in
    chosen (has_index axes (ps ++ index_at rest r)) (get_or xs (place_at axes (ps ++ index_at rest r)) d) d (index_append axes ps (index_at rest r) h (has_index_at rest r below))
    ∙ ap (λ k. get_or xs k d)
    (place_append axes ps (index_at rest r) h ∙ ap (λ k. place_at (take (length ps) axes) ps * product rest + k) (place_of_index rest r below))

pub range_fits : (y : Noun) (frame number : ℕ) → IsArray y → number < product (take frame (shape y)) →
    number * product (drop frame (shape y)) + product (drop frame (shape y)) ≤ length (atoms y)
range_fits y frame number a within =
    let axes = shape y in
    let c = product (drop frame axes) in
    let fits : number * c + c ≤ product (take frame axes) * c = row_fits number c (product (take frame axes)) c within (omega arith) in
    let whole : product axes ≡ product (take frame axes) * c = ap product (sym (take-append-drop frame axes)) ∙ product-append (take frame axes) (drop frame axes) in
    omega (arith, fits, whole, a.whole)

pub rest_is_shape : (frame : ℕ) (axes : List ℕ) → IsShape axes → IsShape (drop frame axes)
rest_is_shape frame axes s = record {
  rank = let l = length-drop frame axes in omega (arith, l, s.rank);
  extent_at_most = omega (arith, (parts_are_within frame axes).1, s.extent_at_most);
}

pub nth_is_array : (y : Noun) (frame number : ℕ) → IsArray y → number < product (take frame (shape y)) → IsArray (nth_range frame number y)
nth_is_array y frame number a within =
    range_is_array (drop frame (shape y)) y (number * product (drop frame (shape y))) (range_fits y frame number a within) (rest_is_shape frame (shape y) a.within) a.level_at_most

-- an array that is a list where it was an atom
list_product : (s : List ℕ) → product s ≡ product (list_axes s)
list_product [] = omega arith
list_product (n ∷ ns) = refl

list_is_shape : (s : List ℕ) → IsShape s → IsShape (list_axes s)
list_is_shape [] h = record { rank = omega arith; extent_at_most = omega arith }
list_is_shape (n ∷ ns) h = h

pub list_is_array : (y : Noun) → IsArray y → IsArray (as_list y)
list_is_array y a = record {
  whole = a.whole ∙ list_product (shape y);
  within = list_is_shape (shape y) a.within;
  level_at_most = omega (arith, level_is (as_list y), level_is y, a.level_at_most);
}

cell_fits : (y : Noun) (ps : List ℕ) → IsArray y → has_index (take (length ps) (shape y)) ps ≡ true →
    place_at (take (length ps) (shape y)) ps * product (drop (length ps) (shape y)) + product (drop (length ps) (shape y)) ≤ length (atoms y)
cell_fits y ps a h = range_fits y (length ps) (place_at (take (length ps) (shape y)) ps) a (place_within (take (length ps) (shape y)) ps h)

-- a cell is a range of atoms
pub cell_is_range : (y : Noun) (ps : List ℕ) → IsArray y → has_index (take (length ps) (shape y)) ps ≡ true →
    cell_at ps y ≡ nth_range (length ps) (place_at (take (length ps) (shape y)) ps) y
unfolding cell_at
cell_is_range y ps a h =
    let rest = drop (length ps) (shape y) in
    let c = product rest in
    let s = place_at (take (length ps) (shape y)) ps * c in
    let d = fill_of (kind y) in
    ap (noun rest (kind y))
    (same_map (λ q. at_or d (shape y) (atoms y) (ps ++ index_at rest q)) (λ q. get_or (atoms y) (s + q) d) c d (λ q below. at_cell d (shape y) ps (atoms y) q h below)
    ∙ sym (window (atoms y) s c d (cell_fits y ps a h)))

-- a place that an integer names
pub place_in_below : (n : ℕ) (i : ℤ) (p : ℕ) → place_in n i ≡ Ok p → p < n
place_in_below n (pos i) p e = from_front (nat_lt i n) refl e
  where
    from_front : (b : Bool) → nat_lt i n ≡ b → (if b then Ok i else Err fault.Index) ≡ Ok p → p < n
    from_front true t f = let same : i ≡ p = cc in let less = ltb-true i n t in omega (arith, less)
    from_front false t f = cc
place_in_below n (negsuc i) p e = from_end (nat_lt i n) refl e
  where
    from_end : (b : Bool) → nat_lt i n ≡ b → (if b then Ok (n - suc i) else Err fault.Index) ≡ Ok p → p < n
    from_end true t f = let same : n - suc i ≡ p = cc in let less = ltb-true i n t in omega (arith, less)
    from_end false t f = cc

-- places that are named are an index of the first axes
abbrev NamesIndex : List ℕ → List ℤ → List ℕ → Type 0
NamesIndex axes is ps = (length ps ≡ length is) × (has_index (take (length is) axes) ps ≡ true)

names_more : (n : ℕ) (ns : List ℕ) (i : ℤ) (is : List ℤ) (r : Result ℕ Fault) (s : Result (List ℕ) Fault) (ps : List ℕ) →
    ((p : ℕ) → r ≡ Ok p → p < n) → ((qs : List ℕ) → s ≡ Ok qs → NamesIndex ns is qs) → and_then r (λ p. in_front p s) ≡ Ok ps → NamesIndex (n ∷ ns) (i ∷ is) ps
names_more n ns i is (Ok p) (Ok qs) ps below rest e =
    let inner = rest qs refl in
    let whole : p ∷ qs ≡ ps = cc in
    subst (NamesIndex (n ∷ ns) (i ∷ is)) whole
    (ap suc inner.0, both (nat_lt p n) (has_index (take (length is) ns) qs) (lt-ltb p n (below p refl)) inner.1)
names_more n ns i is (Ok p) (Err why) ps below rest e = cc
names_more n ns i is (Err why) s ps below rest e = cc

pub names_index : (axes : List ℕ) (is : List ℤ) (ps : List ℕ) → length is ≤ length axes → places_in axes is ≡ Ok ps → NamesIndex axes is ps
names_index [] [] ps few e = let none : [] ≡ ps = cc in subst (NamesIndex [] []) none (refl, refl)
names_index [] (i ∷ is) ps few e = absurd (omega arith)
names_index (n ∷ ns) [] ps few e = let none : [] ≡ ps = cc in subst (NamesIndex (n ∷ ns) []) none (refl, refl)
names_index (n ∷ ns) (i ∷ is) ps few e = names_more n ns i is (place_in n i) (places_in ns is) ps (place_in_below n i) (λ qs f. names_index ns is qs (omega arith) f) e

-- the walk along the axes, from the number of a cell of those before
abbrev pub walk : ℕ → List ℕ → List ℤ → Result ℕ Fault
walk cell (n ∷ ns) (i ∷ is) = and_then (place_in n i) (λ p. walk (cell * n + p) ns is)
walk cell axes is = Ok cell

-- where the walk ends: at the cell that the places name
abbrev walk_end : ℕ → List ℕ → List ℕ → Result ℕ Fault
walk_end cell axes ps = Ok (cell * product axes + place_at axes ps)

walk_after : (cell n p : ℕ) (front : List ℕ) (s : Result (List ℕ) Fault) → and_then s (walk_end (cell * n + p) front) ≡ and_then (in_front p s) (walk_end cell (n ∷ front))
walk_after cell n p front (Ok qs) =
    let spread : (cell * n + p) * product front + place_at front qs ≡ cell * (n * product front) + (p * product front + place_at front qs) = omega arith in
    ap (λ (m : ℕ). Ok m) spread
walk_after cell n p front (Err why) = refl

walk_step : (cell n : ℕ) (ns : List ℕ) (is : List ℤ) (r : Result ℕ Fault) →
    ((p : ℕ) → walk (cell * n + p) ns is ≡ and_then (places_in ns is) (walk_end (cell * n + p) (take (length is) ns))) →
    and_then r (λ p. walk (cell * n + p) ns is) ≡ and_then (and_then r (λ p. in_front p (places_in ns is))) (walk_end cell (n ∷ take (length is) ns))
walk_step cell n ns is (Ok p) rest = rest p ∙ walk_after cell n p (take (length is) ns) (places_in ns is)
walk_step cell n ns is (Err why) rest = refl

walk_is : (cell : ℕ) (axes : List ℕ) (is : List ℤ) → length is ≤ length axes → walk cell axes is ≡ and_then (places_in axes is) (walk_end cell (take (length is) axes))
walk_is cell [] [] few = ap (λ (m : ℕ). Ok m) (omega arith)
walk_is cell [] (i ∷ is) few = absurd (omega arith)
walk_is cell (n ∷ ns) [] few = ap (λ (m : ℕ). Ok m) (omega arith)
walk_is cell (n ∷ ns) (i ∷ is) few = walk_step cell n ns is (place_in n i) (λ p. walk_is (cell * n + p) ns is (omega arith))

from_nothing : (front : List ℕ) (s : Result (List ℕ) Fault) → and_then s (walk_end 0 front) ≡ and_then s (λ ps. Ok (place_at front ps))
from_nothing front (Ok qs) = ap (λ (m : ℕ). Ok m) (omega (arith, zero-mul (product front)))
from_nothing front (Err why) = refl

pub walk_from_nothing : (axes : List ℕ) (is : List ℤ) → length is ≤ length axes → walk 0 axes is ≡ and_then (places_in axes is) (λ ps. Ok (place_at (take (length is) axes) ps))
walk_from_nothing axes is few = walk_is 0 axes is few ∙ from_nothing (take (length is) axes) (places_in axes is)

-- one step of it at axis k
pub walk_more : (cell : ℕ) (axes : List ℕ) (is : List ℤ) (k : ℕ) (i : ℤ) → k < length is → length is ≤ length axes → get_or is k i ≡ i →
    walk cell (drop k axes) (drop k is) ≡ and_then (place_in (get_or axes k 0) i) (λ p. walk (cell * get_or axes k 0 + p) (drop (k + 1) axes) (drop (k + 1) is))
walk_more cell axes is k i below few at =
    let axis : k < length axes = omega arith in
    (λ j. walk cell (drop_more axes k 0 axis j) ((drop_more is k i below ∙ ap (λ v. v ∷ drop (k + 1) is) at) j))

pub walk_ends : (cell : ℕ) (axes : List ℕ) (is : List ℤ) → walk cell axes (drop (length is) is) ≡ Ok cell
walk_ends cell axes is = ap (walk cell axes) (drop_all is) ∙ stops axes
  where
    drop_all : (is : List ℤ) → drop (length is) is ≡ []
    drop_all [] = refl
    drop_all (i ∷ is) = drop_all is

    stops : (axes : List ℕ) → walk cell axes [] ≡ Ok cell
    stops [] = refl
    stops (n ∷ ns) = refl

-- the numbers stay within the limit
pub record FitsAt (m cell n p e : ℕ) : Type 0 where
  pub product_fits : cell * n ≤ m
  pub cell_fits : cell * n + p ≤ m
  pub bound : (cell * n + p + 1) * e ≤ m

pub walk_fits : (m cell n p e : ℕ) → 1 ≤ e → (cell + 1) * (max n 1 * e) ≤ m → p < n → FitsAt m cell n p e
walk_fits m cell n p e some bound below =
    let big : max n 1 ≡ n = omega arith in
    let wide : (cell + 1) * (n * e) ≤ m = subst (λ k. (cell + 1) * (k * e) ≤ m) big bound in
    let step : cell * n + p + 1 ≤ cell * n + n = omega arith in
    let more = mul-le-mul_right e step in
    let all : (cell * n + n) * e ≡ (cell + 1) * (n * e) = omega arith in
    let grow = le-mul_of_pos_right {m = e} (cell * n + p + 1) (omega arith) in
    record { product_fits = omega (arith, more, all, grow, wide); cell_fits = omega (arith, more, all, grow, wide); bound = omega (arith, more, all, wide) }

-- the cell that integers name
value_of : {A B : Type 0} (r : Result A Fault) (f : A → B) (v : B) → and_then r (λ x. Ok (f x)) ≡ Ok v → (x : A) × (r ≡ Ok x) × (f x ≡ v)
value_of (Ok x) f v e = (x, refl, cc)
value_of (Err why) f v e = cc

same_fault : {A B C : Type 0} (r : Result A Fault) (f : A → B) (g : A → C) (why : Fault) → and_then r (λ x. Ok (f x)) ≡ Err why → and_then r (λ x. Ok (g x)) ≡ Err why
same_fault (Ok x) f g why e = cc
same_fault (Err other) f g why e = cc

pub too_many : (numbers : List ℤ) (y : Noun) → length (shape y) < length numbers → cell_named numbers y ≡ Err fault.Length
unfolding cell_named
too_many numbers y h = chosen (nat_lt (length (shape y)) (length numbers)) (Err fault.Length) _ (lt-ltb (length (shape y)) (length numbers) h)

few_enough : (numbers : List ℤ) (y : Noun) → length numbers ≤ length (shape y) → cell_named numbers y ≡ and_then (places_in (shape y) numbers) (λ places. Ok (cell_at places y))
unfolding cell_named
few_enough numbers y h = otherwise (nat_lt (length (shape y)) (length numbers)) (Err fault.Length) _ (le-ltb (length (shape y)) (length numbers) h)

abbrev pub number_named : List ℤ → List ℕ → Result ℕ Fault
number_named numbers axes = and_then (places_in axes numbers) (λ ps. Ok (place_at (take (length numbers) axes) ps))

pub record IsNamed (numbers : List ℤ) (y : Noun) (number : ℕ) : Type 0 where
  pub within : number < product (take (length numbers) (shape y))
  pub value : cell_named numbers y ≡ Ok (nth_range (length numbers) number y)
  pub array : IsArray (nth_range (length numbers) number y)

pub named_is : (numbers : List ℤ) (y : Noun) (number : ℕ) → IsArray y → length numbers ≤ length (shape y) → number_named numbers (shape y) ≡ Ok number → IsNamed numbers y number
named_is numbers y number a few e =
    let found = value_of (places_in (shape y) numbers) (place_at (take (length numbers) (shape y))) number e in
    let ps = found.0 in
    let index = names_index (shape y) numbers ps few found.1 in
    let at : has_index (take (length ps) (shape y)) ps ≡ true = ap (λ n. has_index (take n (shape y)) ps) index.0 ∙ index.1 in
    let within = place_within (take (length numbers) (shape y)) ps index.1 in
    record {
      within = subst (λ k. k < product (take (length numbers) (shape y))) found.2 within;
      value = few_enough numbers y few ∙ ap (λ r. and_then r (λ places. Ok (cell_at places y))) found.1
          ∙ ap (λ (v : Noun). Ok v) (cell_is_range y ps a at ∙ (λ j. nth_range (index.0 j) (place_at (take (index.0 j) (shape y)) ps) y) ∙ ap (λ k. nth_range (length numbers) k y) found.2);
      array = nth_is_array y (length numbers) number a (subst (λ k. k < product (take (length numbers) (shape y))) found.2 within);
    }

pub not_named : (numbers : List ℤ) (y : Noun) (why : Fault) → length numbers ≤ length (shape y) → number_named numbers (shape y) ≡ Err why → cell_named numbers y ≡ Err why
not_named numbers y why few e = few_enough numbers y few ∙ same_fault (places_in (shape y) numbers) (place_at (take (length numbers) (shape y))) (λ places. cell_at places y) why e
