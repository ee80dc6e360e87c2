-- Lists that are made from a function of the place, and ranges of lists.
use Rattle.std.proofs.Common.{◌≡◌, ℕ, ◌+◌, ◌*◌, ◌<◌, ◌≤◌, zero, suc, List, [], ◌∷◌, ◌++◌, length, get_or, take, drop, map, replicate, refl, sym, ap, ◌∙◌, arith}
use Rattle.std.specs.List.{range_with_len, flat_map}
use Rattle.std.proofs.Math.Nat.{mul-zero}
use Rattle.std.proofs.lemmas.List.{length-take, length-drop, get_or-take, get_or-drop, take-map, drop-map, append_assoc, append-nil, take-take, drop-take, take-append-drop, map-append}
use Rattle.std.proofs.lemmas.List.FromFn.{fill_by_all, map-range_with_len_more, length-map-range_with_len, get_or-map-range_with_len}
use Rattle.jdata.specs.Noun.{greatest}

-- a range of a list, place by place
pub window : {A : Type 0} (l : List A) (s c : ℕ) (d : A) → s + c ≤ length l → take c (drop s l) ≡ map (λ j. get_or l (s + j) d) (range_with_len 0 c)
window l s c d h =
    let long : length (take c (drop s l)) ≡ c = omega (arith, length-take c (drop s l), length-drop s l) in
    fill_by_all (λ j. get_or l (s + j) d) (take c (drop s l)) c d long (λ k below. get_or-take c (drop s l) k d below ∙ get_or-drop s l k d)

-- the same range of a list that a function maps
pub range-map : {A B : Type 0} (f : A → B) (s c : ℕ) (l : List A) → map f (take c (drop s l)) ≡ take c (drop s (map f l))
range-map f s c l = sym (take-map f c (drop s l)) ∙ ap (take c) (sym (drop-map f s l))

pub map-replicate : {A B : Type 0} (f : A → B) (n : ℕ) (x : A) → map f (replicate n x) ≡ replicate n (f x)
map-replicate f zero x = refl
map-replicate f (suc n) x = ap (λ l. f x ∷ l) (map-replicate f n x)

-- the greatest of a part
pub greatest-take : (n : ℕ) (l : List ℕ) → greatest (take n l) ≤ greatest l
greatest-take zero l = omega arith
greatest-take (suc n) [] = omega arith
greatest-take (suc n) (x ∷ l) = omega (arith, greatest-take n l)

pub greatest-drop : (n : ℕ) (l : List ℕ) → greatest (drop n l) ≤ greatest l
greatest-drop zero l = omega arith
greatest-drop (suc n) [] = omega arith
greatest-drop (suc n) (x ∷ l) = omega (arith, greatest-drop n l)

pub greatest-replicate : (n x : ℕ) → greatest (replicate n x) ≤ x
greatest-replicate zero x = omega arith
greatest-replicate (suc n) x = omega (arith, greatest-replicate n x)

-- two functions that agree at the places below n
pub same_map : {A : Type 0} (f h : ℕ → A) (n : ℕ) (d : A) → ((p : ℕ) → p < n → f p ≡ h p) → map f (range_with_len 0 n) ≡ map h (range_with_len 0 n)
same_map f h n d same =
    fill_by_all h (map f (range_with_len 0 n)) n d (length-map-range_with_len f 0 n) (λ k below. get_or-map-range_with_len f 0 n k k d below (omega arith) ∙ same k below)

pub split_map : {A : Type 0} (f : ℕ → A) (a b : ℕ) → map f (range_with_len 0 (a + b)) ≡ map f (range_with_len 0 a) ++ map (λ p. f (a + p)) (range_with_len 0 b)
split_map f a zero = ap (λ n. map f (range_with_len 0 n)) (omega arith) ∙ sym (append-nil (map f (range_with_len 0 a)))
split_map f a (suc b) =
    let more : a + suc b ≡ (a + b) + 1 = omega arith in
    let one : suc b ≡ b + 1 = omega arith in
    ap (λ n. map f (range_with_len 0 n)) more
    ∙ map-range_with_len_more f 0 (a + b) (a + b) (omega arith)
    ∙ ap (λ l. l ++ f (a + b) ∷ []) (split_map f a b)
    ∙ append_assoc (map f (range_with_len 0 a)) (map (λ p. f (a + p)) (range_with_len 0 b)) (f (a + b) ∷ [])
    ∙ ap (λ l. map f (range_with_len 0 a) ++ l) (sym (map-range_with_len_more (λ p. f (a + p)) 0 b b (omega arith)))
    ∙ ap (λ n. map f (range_with_len 0 a) ++ map (λ p. f (a + p)) (range_with_len 0 n)) (sym one)

pub constant_map : {A : Type 0} (x : A) (a n : ℕ) → map (λ p. x) (range_with_len a n) ≡ replicate n x
constant_map x a zero = refl
constant_map x a (suc n) = ap (λ l. x ∷ l) (constant_map x (a + 1) n)

pub factor_some : (p i c : ℕ) → p < i * c → 0 < c
factor_some p i zero h = absurd (omega (arith, mul-zero i, h))
factor_some p i (suc c) h = omega arith

pub take_more_of : {A : Type 0} (a b : ℕ) (l : List A) → take a l ++ take b (drop a l) ≡ take (a + b) l
take_more_of a b l =
    ap (λ r. r ++ take b (drop a l)) (sym (take-take a (a + b) l (omega arith)))
    ∙ ap (λ r. take a (take (a + b) l) ++ r) (sym (drop-take a b l))
    ∙ take-append-drop a (take (a + b) l)

-- ranges one after the other, of a list that a function maps
pub map-gathered : {A B : Type 0} (f : A → B) (c : ℕ) (l : List A) (places : List ℕ) →
    map f (flat_map (λ p. take c (drop p l)) places) ≡ flat_map (λ p. take c (drop p (map f l))) places
map-gathered f c l [] = refl
map-gathered f c l (p ∷ places) =
    map-append f (take c (drop p l)) (flat_map (λ q. take c (drop q l)) places) ∙ (λ i. range-map f p c l i ++ map-gathered f c l places i)
