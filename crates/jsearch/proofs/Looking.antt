-- Cells are looked up by their codes.
use Rattle.std.specs.Prelude.{ℕ, ◌+◌, ℤ, ◌≡◌, ◌↔◌, IsTrue, not, Bool, List, [], ◌∷◌, ◌++◌, length, map, reverse, cond}
use Rattle.std.specs.List.{range_with_len, position_or_len}
use Rattle.std.specs.Ordering.{int_eq}
use Rattle.std.specs.Bool.{Decides}
use Rattle.std.proofs.Common.{sym, ◌∙◌, ap, refl, Bor, arith}
use Rattle.std.proofs.lemmas.List.FromFn.{map-range_with_len_more}
use Rattle.std.proofs.lemmas.Bool.Decides.{same_from_decides, Decides-like, Decides-int_eq}
use Rattle.std.proofs.lemmas.Slice.Eq.{slice_eq-Decides}
use Rattle.std.proofs.lemmas.List.{length-map, map-append, reverse-append}
use Rattle.jdata.specs.Match.{IsMatch}
use Rattle.jdata.specs.declared.noun.Noun.{Noun}
use Rattle.jarray.specs.Matches.{matches}
use Rattle.jarray.proofs.Equality.{matches_decides}
use Rattle.jsearch.specs.Codes.{code}
use Rattle.jsearch.specs.Finding.{first_place, last_place, from_end}
use Rattle.jsearch.proofs.Coding.{code_tells, one_code}
use lib.Pointwise.{pointwise}

-- the test of two codes is that of a match
code_decides : (v w : Noun) → Decides (pointwise int_eq (code v) (code w)) (IsMatch v w)
code_decides v w =
    Decides-like _ (λ e. (code_tells v w [] [] (ap (λ c. c ++ []) e)).0) (λ e. one_code v w e) (slice_eq-Decides Decides-int_eq (code v) (code w) _ refl)

pub codes_match : (v w : Noun) → pointwise int_eq (code v) (code w) ≡ matches v w
codes_match v w = same_from_decides _ _ (code_decides v w) (matches_decides v w)

pub map-map : {A B C : Type 0} (f : B → C) (h : A → B) (l : List A) → map f (map h l) ≡ map (λ x. f (h x)) l
map-map f h [] = refl
map-map f h (x ∷ l) = ap (λ r. f (h x) ∷ r) (map-map f h l)

position-map : {A B : Type 0} (p : B → Bool) (f : A → B) (xs : List A) → position_or_len p (map f xs) ≡ position_or_len (λ x. p (f x)) xs
position-map p f [] = refl
position-map p f (x ∷ xs) = ap (λ n. cond (not (p (f x))) (1 + n) 0) (position-map p f xs)

reverse-map : {A B : Type 0} (f : A → B) (xs : List A) → reverse (map f xs) ≡ map f (reverse xs)
reverse-map f [] = refl
reverse-map f (x ∷ xs) =
    reverse-append (f x ∷ []) (map f xs) ∙ ap (λ l. l ++ f x ∷ []) (reverse-map f xs) ∙ sym (map-append f (reverse xs) (x ∷ []))
    ∙ ap (map f) (sym (reverse-append (x ∷ []) xs))

-- of lists of keys and of the codes that they are
abbrev found_at : List (Bor (List ℤ)) → Bor (List ℤ) → ℕ
found_at keys k = position_or_len (λ y. pointwise int_eq k.now y.now) keys

one_found : (keys : List (Bor (List ℤ))) (vs : List Noun) (v : Noun) (c : List ℤ) → map (λ s. s.now) keys ≡ map code vs → c ≡ code v →
    position_or_len (λ y. pointwise int_eq c y.now) keys ≡ first_place vs v
unfolding first_place
one_found keys vs v c are is =
    sym (position-map (pointwise int_eq c) (λ (y : Bor (List ℤ)). y.now) keys)
    ∙ (λ i. position_or_len (pointwise int_eq (is i)) (are i))
    ∙ position-map (pointwise int_eq (code v)) code vs
    ∙ (λ i. position_or_len (λ w. codes_match v w i) vs)

pub all_found : (among wanted : List (Bor (List ℤ))) (vs : List Noun) (at : ℕ → Noun) (places : List ℕ) →
    map (λ s. s.now) among ≡ map code vs → map (λ s. s.now) wanted ≡ map (λ j. code (at j)) places →
    map (found_at among) wanted ≡ map (λ j. first_place vs (at j)) places
all_found among wanted vs at places are want =
    let each : (c : List ℤ) → ℕ = λ c. position_or_len (λ (y : Bor (List ℤ)). pointwise int_eq c y.now) among in
    sym (map-map each (λ (s : Bor (List ℤ)). s.now) wanted) ∙ ap (map each) want ∙ map-map each (λ j. code (at j)) places
    ∙ (λ i. map (λ j. one_found among vs (at j) (code (at j)) are refl i) places)

pub all_found_last : (among wanted : List (Bor (List ℤ))) (vs : List Noun) (at : ℕ → Noun) (places : List ℕ) →
    map (λ s. s.now) among ≡ map code vs → map (λ s. s.now) wanted ≡ map (λ j. code (at j)) places →
    map (λ k. from_end (length among) (found_at (reverse among) k)) wanted ≡ map (λ j. last_place vs (at j)) places
all_found_last among wanted vs at places are want =
    let turned : map (λ (s : Bor (List ℤ)). s.now) (reverse among) ≡ map code (reverse vs) = sym (reverse-map _ among) ∙ ap reverse are ∙ reverse-map code vs in
    let long : length among ≡ length vs = sym (length-map among (λ (s : Bor (List ℤ)). s.now)) ∙ ap length are ∙ length-map vs code in
    let each : (c : List ℤ) → ℕ = λ c. from_end (length among) (position_or_len (λ (y : Bor (List ℤ)). pointwise int_eq c y.now) (reverse among)) in
    sym (map-map each (λ (s : Bor (List ℤ)). s.now) wanted) ∙ ap (map each) want ∙ map-map each (λ j. code (at j)) places
    ∙ (λ i. map (λ j. from_end (long i) (one_found (reverse among) (reverse vs) (at j) (code (at j)) turned refl i)) places)

-- a test that tells whether two arrays match is the test of a match
pub same_test : (b : Bool) (v w : Noun) → (IsTrue b ↔ IsMatch v w) → b ≡ matches v w
same_test b v w h = same_from_decides b (matches v w) (h.0, h.1) (matches_decides v w)

-- the next code behind those before
pub mapped_next : {V : Type 0} (items : V → List ℤ) (f : ℕ → List ℤ) (k : ℕ) (x : V) (now longer : List V) → items x ≡ f k → longer ≡ now ++ x ∷ [] →
    map items now ≡ map f (range_with_len 0 k) → map items longer ≡ map f (range_with_len 0 (k + 1))
mapped_next items f k x now longer is e was =
    ap (map items) e ∙ map-append items now (x ∷ []) ∙ (λ i. was i ++ is i ∷ []) ∙ sym (map-range_with_len_more f 0 k k (omega arith))
