-- A list again and again.
use Rattle.std.specs.Prelude.{ℕ, zero, suc, ◌+◌, ◌*◌, ◌/◌, ◌%◌, ◌<◌, ◌≤◌, ◌≡◌, List, [], ◌∷◌, ◌++◌, length, map, take, get_or, ◌==◌, ◌||◌}
use Rattle.std.specs.List.{range_with_len, list_any}
use Rattle.std.proofs.Common.{arith, sym, ◌∙◌, ap, refl, subst}
use Rattle.std.proofs.Math.Nat.{zero-mul, mul-zero, mul-suc}
use Rattle.std.proofs.lemmas.Bool.{ne_eqb}
use Rattle.jdata.specs.Noun.{product}
use Rattle.std.proofs.lemmas.List.{map-append, take-map, length-map, get_or-take, length-take, take_all}
use Rattle.std.proofs.lemmas.List.FromFn.{fill_by_all}
use Rattle.std.proofs.lemmas.Nat.{mod-mul-add, div-add-mod', mod_below}
use Rattle.jdata.proofs.Lists.{split_map}

-- so many copies of a list, one after the other
abbrev pub cycle : {A : Type 0} → ℕ → List A → List A
cycle zero l = []
cycle (suc n) l = cycle n l ++ l

pub cycle_more : {A : Type 0} (n : ℕ) (l : List A) → cycle (n + 1) l ≡ cycle n l ++ l
cycle_more n l = ap (λ k. cycle k l) (let one : n + 1 ≡ suc n = omega arith in one)

pub map-cycle : {A B : Type 0} (f : A → B) (n : ℕ) (l : List A) → map f (cycle n l) ≡ cycle n (map f l)
map-cycle f zero l = refl
map-cycle f (suc n) l = map-append f (cycle n l) l ∙ ap (λ r. r ++ map f l) (map-cycle f n l)

-- the item at a place
abbrev item : {A : Type 0} → List A → A → ℕ → A
item l d p = get_or l (p % length l) d

-- the places behind n copies are those of a further copy
further : {A : Type 0} (l : List A) (d : A) (n q : ℕ) → q < length l → item l d (n * length l + q) ≡ get_or l q d
further l d n q h = ap (λ p. get_or l p d) (mod-mul-add n (length l) q h)

listed : {A : Type 0} (l : List A) (d : A) (n k : ℕ) → k ≤ length l → map (λ q. item l d (n * length l + q)) (range_with_len 0 k) ≡ take k l
listed l d n k h =
    sym (fill_by_all (λ q. item l d (n * length l + q)) (take k l) k d (omega (arith, length-take k l))
    (λ q below. get_or-take k l q d below ∙ sym (further l d n q (omega arith))))

pub cycle_is : {A : Type 0} (l : List A) (d : A) (n : ℕ) → cycle n l ≡ map (item l d) (range_with_len 0 (n * length l))
cycle_is l d zero = ap (λ k. map (item l d) (range_with_len 0 k)) (sym (zero-mul (length l)))
cycle_is l d (suc n) =
    let m = length l in
    let count : suc n * m ≡ n * m + m = omega arith in
    (λ i. cycle_is l d n i ++ sym (listed l d n m (omega arith) ∙ take_all m l (omega arith)) i)
    ∙ sym (split_map (item l d) (n * m) m)
    ∙ ap (λ k. map (item l d) (range_with_len 0 k)) (sym count)

pub again_is : {A : Type 0} (l : List A) (d : A) (size : ℕ) → 0 < length l →
    cycle (size / length l) l ++ take (size % length l) l ≡ map (λ p. get_or l (p % length l) d) (range_with_len 0 size)
again_is l d size some =
    let m = length l in
    let n = size / m in
    let r = size % m in
    (λ i. cycle_is l d n i ++ sym (listed l d n r (omega (arith, mod_below size m some))) i)
    ∙ sym (split_map (item l d) (n * m) r)
    ∙ ap (λ k. map (item l d) (range_with_len 0 k)) (div-add-mod' size m)

pub again_mapped : {A B : Type 0} (f : A → B) (l : List A) (d : B) (n size : ℕ) → n ≡ size / length l → 0 < length l →
    map f (cycle n l ++ take (size % length l) l) ≡ map (λ p. get_or (map f l) (p % length l) d) (range_with_len 0 size)
again_mapped f l d n size e some =
    let long : length (map f l) ≡ length l = length-map l f in
    ap (λ k. map f (cycle k l ++ take (size % length l) l)) e
    ∙ map-append f (cycle (size / length l) l) (take (size % length l) l)
    ∙ (λ i. map-cycle f (size / length l) l i ++ sym (take-map f (size % length l) l) i)
    ∙ subst (λ (k : ℕ). cycle (size / k) (map f l) ++ take (size % k) (map f l) ≡ map (λ p. get_or (map f l) (p % k) d) (range_with_len 0 size)) long
    (again_is (map f l) d size (omega arith))

same_test : (n p : ℕ) → (suc n * p == 0) ≡ (p == 0)
same_test n zero = ap (λ k. k == 0) (mul-zero (suc n))
same_test n (suc p) = ne_eqb (suc n * suc p) 0 (λ e. omega (arith, mul-suc (suc n) p, e)) ∙ sym (ne_eqb (suc p) 0 (λ e. omega arith))

pub any_zero : (ns : List ℕ) → list_any (λ n. n == 0) ns ≡ (product ns == 0)
any_zero [] = refl
any_zero (zero ∷ ns) = ap (λ k. k == 0) (sym (zero-mul (product ns)))
any_zero (suc n ∷ ns) =
    ap (λ b. b || list_any (λ k. k == 0) ns) (ne_eqb (suc n) 0 (λ e. omega arith)) ∙ any_zero ns ∙ sym (same_test n (product ns))

-- the same of atoms that are kept otherwise
pub seen_again : {A B : Type 0} (h : A → B) (l : List A) (a : List B) (d : B) (size : ℕ) → a ≡ map h l →
    map (λ p. get_or (map h l) (p % length l) d) (range_with_len 0 size) ≡ map (λ p. get_or a (p % length a) d) (range_with_len 0 size)
seen_again h l a d size e =
    ap (λ k. map (λ p. get_or (map h l) (p % k) d) (range_with_len 0 size)) (sym (length-map l h))
    ∙ ap (λ r. map (λ p. get_or r (p % length r) d) (range_with_len 0 size)) (sym e)
