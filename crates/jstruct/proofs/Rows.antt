-- Lists by rows, and rows that stand together.
use Rattle.std.proofs.Common.{◌≡◌, ℕ, ◌+◌, ◌*◌, ◌/◌, ◌%◌, ◌<◌, zero, suc, List, [], ◌∷◌, ◌++◌, map, replicate, refl, sym, ap, ◌∙◌, arith}
use Rattle.std.specs.List.{range_with_len, flat_map}
use Rattle.std.proofs.Math.Nat.{zero-mul}
use Rattle.std.proofs.lemmas.List.{flat_map_more, append_assoc}
use Rattle.std.proofs.lemmas.List.FromFn.{fill_by_all, length-range_with_len, get_or-range_with_len}
use Rattle.std.proofs.lemmas.Nat.{div-mul-add, mod-mul-add}
use Rattle.jdata.proofs.Lists.{same_map, split_map, constant_map}

pub range_more : (a n : ℕ) → range_with_len a (n + 1) ≡ range_with_len a n ++ (a + n) ∷ []
range_more a zero = ap (λ x. x ∷ []) (let e : a ≡ a + 0 = omega arith in e)
range_more a (suc n) =
    let one : suc n + 1 ≡ suc (n + 1) = omega arith in
    let next : (a + 1) + n ≡ a + suc n = omega arith in
    ap (range_with_len a) one ∙ ap (λ l. a ∷ l) (range_more (a + 1) n) ∙ ap (λ x. a ∷ (range_with_len (a + 1) n ++ x ∷ [])) next

pub over_more : {A : Type 0} (f : ℕ → List A) (a n : ℕ) → flat_map f (range_with_len a (n + 1)) ≡ flat_map f (range_with_len a n) ++ f (a + n)
over_more f a n = ap (flat_map f) (range_more a n) ∙ sym (flat_map_more f [] (range_with_len a n) (a + n))

over_suc : {A : Type 0} (f : ℕ → List A) (a n : ℕ) → flat_map f (range_with_len a (suc n)) ≡ flat_map f (range_with_len a n) ++ f (a + n)
over_suc f a n = ap (λ k. flat_map f (range_with_len a k)) (let e : suc n ≡ n + 1 = omega arith in e) ∙ over_more f a n

-- so many rows of c places each
pub by_rows : {A : Type 0} (d : A) (g : ℕ → ℕ → A) (c n : ℕ) →
    map (λ p. g (p / c) (p % c)) (range_with_len 0 (n * c)) ≡ flat_map (λ i. map (g i) (range_with_len 0 c)) (range_with_len 0 n)
by_rows d g c zero = ap (λ k. map (λ p. g (p / c) (p % c)) (range_with_len 0 k)) (zero-mul c)
by_rows {A = A} d g c (suc n) =
    let whole : ℕ → A = λ p. g (p / c) (p % c) in
    let count : suc n * c ≡ n * c + c = omega arith in
    let back : (q : ℕ) → q < c → whole (n * c + q) ≡ g n q = λ q below. λ i. g (div-mul-add n c q below i) (mod-mul-add n c q below i) in
    ap (λ k. map whole (range_with_len 0 k)) count
    ∙ split_map whole (n * c) c
    ∙ (λ i. by_rows d g c n i ++ same_map (λ q. whole (n * c + q)) (g n) c d back i)
    ∙ sym (over_suc (λ i. map (g i) (range_with_len 0 c)) 0 n ∙ ap (λ k. flat_map (λ i. map (g i) (range_with_len 0 c)) (range_with_len 0 n) ++ map (g k) (range_with_len 0 c)) (let e : 0 + n ≡ n = omega arith in e))

pub over_map : {A : Type 0} (f : ℕ → List A) (h : ℕ → ℕ) (l : List ℕ) → flat_map (λ i. f (h i)) l ≡ flat_map f (map h l)
over_map f h [] = refl
over_map f h (x ∷ l) = ap (λ r. f (h x) ++ r) (over_map f h l)

pub over_append : {A : Type 0} (f : ℕ → List A) (l m : List ℕ) → flat_map f (l ++ m) ≡ flat_map f l ++ flat_map f m
over_append f [] m = refl
over_append f (x ∷ l) m = ap (λ r. f x ++ r) (over_append f l m) ∙ sym (append_assoc (f x) (flat_map f l) (flat_map f m))

-- numbers that stand together
pub shifted : (h : ℕ → ℕ) (a n : ℕ) → ((i : ℕ) → i < n → h i ≡ a + i) → map h (range_with_len 0 n) ≡ range_with_len a n
shifted h a n same =
    sym (fill_by_all h (range_with_len a n) n 0 (length-range_with_len a n) (λ k below. get_or-range_with_len a n k 0 below ∙ sym (same k below)))

pub replicate-add : {A : Type 0} (a b : ℕ) (x : A) → replicate (a + b) x ≡ replicate a x ++ replicate b x
replicate-add a b x =
    sym (constant_map x 0 (a + b)) ∙ split_map (λ p. x) a b ∙ (λ i. constant_map x 0 a i ++ constant_map x 0 b i)

pub map_twice : {A B C : Type 0} (f : B → C) (g : A → B) (l : List A) → map f (map g l) ≡ map (λ x. f (g x)) l
map_twice f g [] = refl
map_twice f g (x ∷ l) = ap (λ r. f (g x) ∷ r) (map_twice f g l)
