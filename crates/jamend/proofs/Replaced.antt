-- Cells that are replaced one after the other, and their atoms by place.
use Rattle.std.specs.Prelude.{ℕ, zero, suc, ◌⊎◌, ◌+◌, ◌*◌, ◌/◌, ◌%◌, ◌<◌, ◌≤◌, ◌≡◌, Option, Some, None, List, [], ◌∷◌, ◌++◌, length, map, take, drop, replicate, get_or}
use Rattle.std.specs.List.{range_with_len}
use Rattle.std.proofs.Common.{arith, sym, ◌∙◌, ap, refl, inl, inr}
use Rattle.std.proofs.Math.ListN.{get_or-map}
use Rattle.std.proofs.Math.Nat.{mul-add-mod_self_right, mul-div_cancel}
use Rattle.std.proofs.lemmas.List.{length-map, length-replicate, get_or-replicate}
use Rattle.std.proofs.lemmas.List.Elements.{All-replicate}
use Rattle.std.proofs.lemmas.List.FromFn.{fill_by_all, length-map-range_with_len, get_or-map-range_with_len}
use Rattle.std.proofs.lemmas.Nat.{div-mul-add, mod-mul-add, mod_below, div_below, row_fits, div-add-mod'}
use Rattle.jdata.proofs.Lists.{same_map, split_map, window}
use Rattle.jselect.specs.Picking.{runs}
use Rattle.jselect.proofs.Runs.{Fits, runs_by_place}
use Rattle.jamend.specs.Replacing.{last_place, atom_of_cell, atom_from, atom_replaced, replaced, Divides}

pub replaced_none : {A : Type 0} (d : A) (xs ys : List A) (numbers : List ℕ) (c n : ℕ) → n ≡ 0 → replaced d xs ys numbers c n ≡ []
unfolding replaced
replaced_none d xs ys numbers c n e = ap (λ m. map (atom_replaced d xs ys numbers c) (range_with_len 0 m)) e

pub length-replaced : {A : Type 0} (d : A) (xs ys : List A) (numbers : List ℕ) (c n : ℕ) → length (replaced d xs ys numbers c n) ≡ n
unfolding replaced
length-replaced d xs ys numbers c n = length-map-range_with_len (atom_replaced d xs ys numbers c) 0 n

-- the atoms of one cell more
more_cells : {A : Type 0} (d : A) (xs ys : List A) (numbers : List ℕ) (c n : ℕ) →
    replaced d xs ys numbers c ((n + 1) * c) ≡ replaced d xs ys numbers c (n * c) ++ map (λ r. atom_replaced d xs ys numbers c (n * c + r)) (range_with_len 0 c)
unfolding replaced
more_cells d xs ys numbers c n =
    let whole : (n + 1) * c ≡ n * c + c = omega arith in
    ap (λ m. map (atom_replaced d xs ys numbers c) (range_with_len 0 m)) whole ∙ split_map (atom_replaced d xs ys numbers c) (n * c) c

-- of a cell that is replaced
pub named_more : {A : Type 0} (d : A) (xs ys : List A) (numbers : List ℕ) (c n k : ℕ) → last_place numbers (length numbers) n ≡ Some k →
    replaced d xs ys numbers c ((n + 1) * c) ≡ replaced d xs ys numbers c (n * c) ++ map (atom_of_cell d xs c k) (range_with_len 0 c)
named_more d xs ys numbers c n k e =
    more_cells d xs ys numbers c n
    ∙ ap (λ l. replaced d xs ys numbers c (n * c) ++ l)
    (same_map (λ r. atom_replaced d xs ys numbers c (n * c + r)) (atom_of_cell d xs c k) c d
    (λ r below. ap (λ m. atom_from d xs ys c (n * c + r) (last_place numbers (length numbers) m)) (div-mul-add n c r below)
    ∙ ap (atom_from d xs ys c (n * c + r)) e
    ∙ ap (atom_of_cell d xs c k) (mod-mul-add n c r below)))

-- and of one that stays
pub kept_more : {A : Type 0} (d : A) (xs ys : List A) (numbers : List ℕ) (c n : ℕ) → last_place numbers (length numbers) n ≡ None → n * c + c ≤ length ys →
    replaced d xs ys numbers c ((n + 1) * c) ≡ replaced d xs ys numbers c (n * c) ++ take c (drop (n * c) ys)
kept_more d xs ys numbers c n e fits =
    more_cells d xs ys numbers c n
    ∙ ap (λ l. replaced d xs ys numbers c (n * c) ++ l)
    (same_map (λ r. atom_replaced d xs ys numbers c (n * c + r)) (λ r. get_or ys (n * c + r) d) c d
    (λ r below. ap (λ m. atom_from d xs ys c (n * c + r) (last_place numbers (length numbers) m)) (div-mul-add n c r below)
    ∙ ap (atom_from d xs ys c (n * c + r)) e)
    ∙ sym (window ys (n * c) c d fits))

-- the same of things that a function maps
map-from : {A B : Type 0} (f : A → B) (d : A) (xs ys : List A) (c p : ℕ) (o : Option ℕ) → f (atom_from d xs ys c p o) ≡ atom_from (f d) (map f xs) (map f ys) c p o
map-from f d xs ys c p (Some k) =
    sym (get_or-map f xs ((k * c + p % c) % length xs) d) ∙ ap (λ n. get_or (map f xs) ((k * c + p % c) % n) (f d)) (sym (length-map xs f))
map-from f d xs ys c p None = sym (get_or-map f ys p d)

pub map-replaced : {A B : Type 0} (f : A → B) (d : A) (xs ys : List A) (numbers : List ℕ) (c n : ℕ) →
    map f (replaced d xs ys numbers c n) ≡ replaced (f d) (map f xs) (map f ys) numbers c n
unfolding replaced
map-replaced f d xs ys numbers c n =
    let g = atom_replaced d xs ys numbers c in
    let these = map g (range_with_len 0 n) in
    fill_by_all (atom_replaced (f d) (map f xs) (map f ys) numbers c) (map f these) n (f d) (length-map these f ∙ length-map-range_with_len g 0 n)
    (λ k below. get_or-map f these k d ∙ ap f (get_or-map-range_with_len g 0 n k k d below (omega arith)) ∙ map-from f d xs ys c k (last_place numbers (length numbers) (k / c)))

-- nothing is replaced
pub nothing_replaced : {A : Type 0} (d : A) (xs ys : List A) (numbers : List ℕ) (c n : ℕ) → length numbers ≡ 0 → length ys ≡ n → replaced d xs ys numbers c n ≡ ys
unfolding replaced
nothing_replaced d xs ys [] c n none long = sym (fill_by_all (λ p. get_or ys p d) ys n d long (λ k below. refl))
nothing_replaced d xs ys (m ∷ numbers) c n none long = absurd (omega arith)

times_some : (q c : ℕ) → 0 < q * c → 0 < q
times_some zero c h = absurd (omega (arith, h))
times_some (suc q) c h = omega arith

-- the atoms of a cell, which are a part of the things
pub part_of : {A : Type 0} (d : A) (xs : List A) (c k q : ℕ) → 0 < length xs → length xs ≡ q * c →
    map (atom_of_cell d xs c k) (range_with_len 0 c) ≡ take c (drop (k % q * c) xs)
part_of d xs c k q some whole =
    let times : 0 < q = times_some q c (omega (arith, some, whole)) in
    let fits : k % q * c + c ≤ q * c = row_fits (k % q) c q c (mod_below k q times) (omega arith) in
    let place : (r : ℕ) → r < c → (k * c + r) % length xs ≡ k % q * c + r = λ r below.
    let spread : k * c ≡ k / q * (q * c) + k % q * c = ap (λ m. m * c) (sym (div-add-mod' k q)) ∙ omega arith in
    let parted : k * c + r ≡ k / q * (q * c) + (k % q * c + r) = omega (arith, spread) in
    (λ i. parted i % whole i) ∙ mod-mul-add (k / q) (q * c) (k % q * c + r) (omega (arith, fits, below))
    in
    same_map (atom_of_cell d xs c k) (λ r. get_or xs (k % q * c + r) d) c d (λ r below. ap (λ m. get_or xs m d) (place r below))
    ∙ sym (window xs (k % q * c) c d (omega (arith, fits, whole)))

-- or all of them again and again
pub again : {A : Type 0} (d : A) (xs : List A) (c k q : ℕ) → 0 < length xs → c ≡ q * length xs →
    map (atom_of_cell d xs c k) (range_with_len 0 c) ≡ runs (length xs) xs (replicate q 0)
again d xs c k q some whole =
    let n = length xs in
    let places : List ℕ = replicate q 0 in
    let long : length places * n ≡ c = ap (λ m. m * n) (length-replicate q 0) ∙ sym whole in
    let at : (j : ℕ) → j < c → (k * c + j) % n ≡ get_or places (j / n) 0 * n + j % n = λ j below.
    let row : j / n < q = div_below j n q some (omega (arith, below, whole)) in
    let first : get_or places (j / n) 0 ≡ 0 = get_or-replicate q (j / n) 0 0 row in
    let spread : k * c + j ≡ (k * q) * n + j = ap (λ m. k * m + j) whole ∙ omega arith in
    let none : get_or places (j / n) 0 * n + j % n ≡ j % n = ap (λ m. m * n + j % n) first ∙ omega arith in
    ap (λ m. m % n) spread ∙ mul-add-mod_self_right (k * q) n j ∙ sym none
    in
    same_map (atom_of_cell d xs c k) (λ j. get_or xs (get_or places (j / n) 0 * n + j % n) d) c d (λ j below. ap (λ m. get_or xs m d) (at j below))
    ∙ ap (λ m. map (λ j. get_or xs (get_or places (j / n) 0 * n + j % n) d) (range_with_len 0 m)) (sym long)
    ∙ runs_by_place n xs places d (All-replicate (Fits n n) q 0 (omega arith))

-- of two numbers the greater is a multiple of the other
pub whole_parts : (c n : ℕ) → 0 < c → 0 < n → c < n → (Divides c n ⊎ Divides n c) → (0 < n / c) × (n ≡ n / c * c)
whole_parts c n sized some less (inl (q, e)) =
    let count : n / c ≡ q = ap (λ m. m / c) e ∙ mul-div_cancel q sized in
    (omega (arith, count, times_some q c (omega (arith, some, e))), e ∙ ap (λ m. m * c) (sym count))
whole_parts c n sized some less (inr (zero, e)) = absurd (omega (arith, e, sized))
whole_parts c n sized some less (inr (suc q, e)) = absurd (omega (arith, e, less))

pub whole_times : (c n : ℕ) → 0 < n → n ≤ c → (Divides c n ⊎ Divides n c) → c ≡ c / n * n
whole_times c n some less (inl (zero, e)) = absurd (omega (arith, e, some))
whole_times c n some less (inl (suc q, e)) =
    let same : c ≡ 1 * n = omega (arith, e, less) in
    same ∙ ap (λ m. m * n) (sym (ap (λ m. m / n) same ∙ mul-div_cancel 1 some))
whole_times c n some less (inr (q, e)) = e ∙ ap (λ m. m * n) (sym (ap (λ m. m / n) e ∙ mul-div_cancel q some))
