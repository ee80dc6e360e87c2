-- Keys that stand for lists of integers: single atoms, and runs of atoms.
use Rattle.std.specs.Prelude.{◌<ℤ◌, ℕ, suc, ◌^◌, ◌++◌, ◌+◌, ◌*◌, ◌<◌, ◌≤◌, ◌≡◌, ℤ, pos, List, [], ◌∷◌, length, map, take, drop, get_or}
use Rattle.std.specs.List.{range_with_len, All}
use Rattle.std.specs.List.Sorted.{IsPermutation}
use Rattle.std.specs.declared.cmp.Ordering.{Ordering}
use Rattle.std.specs.declared.cmp.Ordering.TheVariants.{Less, Equal, Greater}
use Rattle.std.specs.Cmp.{int_cmp_is, ranks}
use Rattle.std.specs.Cmp.Lexicographic.{slice_cmp}
use Rattle.std.specs.Ordering.{MatchOrdering, int_cmp, nat_cmp, ordering_then}
use Rattle.std.proofs.Common.{arith, sym, ◌∙◌, ap, refl, Bor}
use Rattle.std.proofs.lemmas.List.{length-map, get_or-map, map-append, take_more}
use Rattle.std.proofs.lemmas.List.FromFn.{fill_by_all, map-range_with_len_more, length-map-range_with_len, get_or-range_with_len}
use Rattle.std.proofs.lemmas.List.Sorted.{All-permutation}
use Rattle.std.proofs.lemmas.Int.{ints}
use Rattle.std.proofs.Math.Nat.{mul-le-mul_right}
use Rattle.jdata.specs.Limits.{most_atoms}
use Rattle.jdata.proofs.Lists.{window}
use Rattle.jsearch.proofs.OneGrade.{range_more}

pub map-map : {A B C : Type 0} (f : B → C) (h : A → B) (l : List A) → map f (map h l) ≡ map (λ x. f (h x)) l
map-map f h [] = refl
map-map f h (x ∷ l) = ap (λ r. f (h x) ∷ r) (map-map f h l)

then_equal : (r : Ordering) → ordering_then r Equal ≡ r
then_equal Less = refl
then_equal Equal = refl
then_equal Greater = refl

-- an atom as a list of one
pub single_order : {T : Type 0} (cmp : T → T → Ordering) (number : T → ℤ) → ((a b : T) → cmp a b ≡ int_cmp (number a) (number b)) → (a b : T) →
    cmp a b ≡ slice_cmp int_cmp (number a ∷ []) (number b ∷ [])
single_order cmp number agrees a b = agrees a b ∙ sym (then_equal (int_cmp (number a) (number b)))

-- a run of atoms
pub run_order : {T : Type 0} (cmp : T → T → Ordering) (number : T → ℤ) → ((a b : T) → cmp a b ≡ int_cmp (number a) (number b)) → (xs ys : List T) →
    slice_cmp cmp xs ys ≡ slice_cmp int_cmp (map number xs) (map number ys)
run_order cmp number agrees [] [] = refl
run_order cmp number agrees [] (y ∷ ys) = refl
run_order cmp number agrees (x ∷ xs) [] = refl
run_order cmp number agrees (x ∷ xs) (y ∷ ys) = λ i. ordering_then (agrees x y i) (run_order cmp number agrees xs ys i)

-- of a list each atom is the run of one from its place on
pub singles : {T : Type 0} (number : T → ℤ) (l : List T) (size count : ℕ) → size ≡ 1 → count * size ≡ length l →
    map (λ t. number t ∷ []) l ≡ map (λ p. map number (take size (drop (p * size) l))) (range_with_len 0 (length l))
singles number [] size count one whole = refl
singles {T} number (x ∷ l) size count one whole =
    let all : List T = x ∷ l in
    let f : T → List ℤ = λ t. number t ∷ [] in
    fill_by_all (λ p. map number (take size (drop (p * size) all))) (map f all) (length all) [] (length-map all f)
    (λ k below. get_or-map f all k x [] below ∙ ap (map number) (sym (at_place all k x below)) ∙ (λ i. map number (take (sym one i) (drop (k * sym one i) all))))
  where
    at_place : {T : Type 0} (l : List T) (k : ℕ) (d : T) → k < length l → take 1 (drop (k * 1) l) ≡ get_or l k d ∷ []
    at_place l k d below =
        let at : k * 1 ≡ k = omega arith in
        let first : k + 0 ≡ k = omega arith in
        ap (λ n. take 1 (drop n l)) at ∙ window l k 1 d (omega arith) ∙ ap (λ n. get_or l n d ∷ []) first

pub runs : {T : Type 0} (number : T → ℤ) (keys : List (Bor (List T))) (atoms : List T) (size count : ℕ) →
    map (λ s. s.now) keys ≡ map (λ p. take size (drop (p * size) atoms)) (range_with_len 0 count) →
    map (λ s. map number s.now) keys ≡ map (λ p. map number (take size (drop (p * size) atoms))) (range_with_len 0 count)
runs {T} number keys atoms size count are =
    sym (map-map (map number) (λ (s : Bor (List T)). s.now) keys) ∙ ap (map (map number)) are ∙ map-map (map number) (λ p. take size (drop (p * size) atoms)) (range_with_len 0 count)

-- one more key with its place
pub keyed_more : {K E : Type 0} (first : E → K) (second : E → ℕ) (keys : List K) (i : ℕ) (x : E) (k : K) (old new : List E) → i < length keys → first x ≡ k → second x ≡ i → k ≡ get_or keys i k →
    new ≡ old ++ x ∷ [] → map first old ≡ take i keys → map second old ≡ range_with_len 0 i → (map first new ≡ take (i + 1) keys) × (map second new ≡ range_with_len 0 (i + 1))
keyed_more first second keys i x k old new below key place is e were places = (
  ap (map first) e ∙ map-append first old (x ∷ []) ∙ (λ j. were j ++ (key ∙ is) j ∷ []) ∙ sym (take_more keys i k below),
  ap (map second) e ∙ map-append second old (x ∷ []) ∙ (λ j. places j ++ place j ∷ []) ∙ sym (plain_range i),
)
  where
    plain_range : (n : ℕ) → range_with_len 0 (n + 1) ≡ range_with_len 0 n ++ n ∷ []
    plain_range n = let one : n + 1 ≡ suc n = omega arith in ap (range_with_len 0) one ∙ range_more n

pub as_many : {K E : Type 0} (first : E → K) (keyed : List E) (keys : List K) → map first keyed ≡ keys → length keyed ≡ length keys
as_many first keyed keys e = sym (length-map keyed first) ∙ ap length e

pub keyed_values : {K E : Type 0} (first : E → K) (value : K → List ℤ) (key : ℕ → List ℤ) (keyed : List E) (keys : List K) → map first keyed ≡ keys → map value keys ≡ map key (range_with_len 0 (length keys)) →
    map (λ e. value (first e)) keyed ≡ map key (range_with_len 0 (length keyed))
keyed_values first value key keyed keys e are =
    sym (map-map value first keyed) ∙ ap (map value) e ∙ are ∙ ap (λ n. map key (range_with_len 0 n)) (sym (as_many first keyed keys e))

-- places below a bound, in whatever order
pub small_places : {K : Type 0} (before after : List (K × ℕ)) → length before ≤ most_atoms → map (λ e. e.1) before ≡ range_with_len 0 (length before) → IsPermutation before after → All (λ e. e.1 < 2 ^ 63) after
small_places {K} before after few places moved =
    let P : K × ℕ → Type 0 = λ e. e.1 < 2 ^ 63 in
    All-permutation P before after moved
    (λ k d below.
    let at : (get_or before k d).1 ≡ 0 + k = sym (get_or-map (λ e. e.1) before k d 0 below) ∙ ap (λ l. get_or l k 0) places ∙ get_or-range_with_len 0 (length before) k 0 below in
    omega (arith, at))

-- runs of a list
pub run_within : (size count place n : ℕ) → count * size ≡ n → place < count → place * size + size ≤ n
run_within size count place n whole below =
    let next : (place + 1) * size ≤ count * size = mul-le-mul_right size (omega arith) in
    omega (arith, next, whole)

pub next_run : {T : Type 0} (atoms : List T) (size k : ℕ) (x : Bor (List T)) (now longer : List (Bor (List T))) → x.now ≡ take size (drop (k * size) atoms) → longer ≡ now ++ x ∷ [] →
    map (λ s. s.now) now ≡ map (λ p. take size (drop (p * size) atoms)) (range_with_len 0 k) → map (λ s. s.now) longer ≡ map (λ p. take size (drop (p * size) atoms)) (range_with_len 0 (k + 1))
next_run {T} atoms size k x now longer is e was =
    let f : ℕ → List T = λ p. take size (drop (p * size) atoms) in
    ap (map (λ s. s.now)) e ∙ map-append (λ s. s.now) now (x ∷ []) ∙ (λ i. was i ++ is i ∷ []) ∙ sym (map-range_with_len_more f 0 k k (omega arith))

pub as_many_runs : {T : Type 0} (keys : List (Bor (List T))) (atoms : List T) (size count : ℕ) → map (λ s. s.now) keys ≡ map (λ p. take size (drop (p * size) atoms)) (range_with_len 0 count) → length keys ≡ count
as_many_runs keys atoms size count are = sym (length-map keys (λ s. s.now)) ∙ ap length are ∙ length-map-range_with_len (λ p. take size (drop (p * size) atoms)) 0 count

pub single_count : {T : Type 0} (atoms : List T) (size count : ℕ) → size ≡ 1 → count * size ≡ length atoms → count ≡ length atoms
single_count atoms size count one whole = let times : count * size ≡ count * 1 = ap (λ n. count * n) one in omega (arith, times, whole)

-- characters are in the order of their codes
as_ints : (a b : ℕ) (r : Ordering) → MatchOrdering r (a < b) (a ≡ b) (b < a) → MatchOrdering r (pos a <ℤ pos b) (pos a ≡ pos b) (pos b <ℤ pos a)
as_ints a b Less h = first_of (omega (arith, ints), grind (arith, ints))
as_ints a b Equal h = ap pos h
as_ints a b Greater h = first_of (omega (arith, ints), grind (arith, ints))

pub char_order : (a b : ℕ) → nat_cmp a b ≡ int_cmp (pos a) (pos b)
char_order a b = int_cmp_is (pos a) (pos b) (nat_cmp a b) (as_ints a b (nat_cmp a b) (ranks a b))
