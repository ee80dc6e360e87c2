-- Places that are filled one after another: what the first so many give, and the first fault.
use Rattle.std.specs.Prelude.{ℕ, zero, suc, ◌+◌, ◌*◌, ◌/◌, ◌<◌, ◌≤◌, ℤ, pos, ◌≡◌, Result, Ok, Err, List, [], ◌∷◌, ◌++◌, map}
use Rattle.std.proofs.Common.{arith, sym, ◌∙◌, ap, refl, subst, take, drop, length, get_or, append_assoc, get_or-drop, w64, of_z, to_z}
use mir.Val.{SFits}
use Rattle.std.proofs.lemmas.Int.{to_z-of_z}
use Rattle.jdata.specs.declared.primitive.Primitive.{Primitive}
use Rattle.jscalar.specs.Dyads.{two_of}
use Rattle.std.proofs.Math.ListN.{set}
use Rattle.std.specs.List.{range_with_len}
use Rattle.std.proofs.lemmas.List.FromFn.{map-range_with_len_more, take-map-range_with_len}
use Rattle.std.proofs.lemmas.List.{take-append-drop, take_more_set, drop-set-lt, take_all, drop_all, append-nil}
use Rattle.std.proofs.lemmas.Grind.{drop_more_same}
use Rattle.std.proofs.lemmas.Nat.{div-mul-add}
use Rattle.jdata.specs.declared.fault.Fault.{Fault}
use Rattle.jscalar.specs.Places.{by_place}
use Rattle.jarray.specs.Numbers.{in_place}
use Rattle.jdata.specs.Firsts.{all_or_first, in_front}

-- at the first places, so many of them, stand these numbers
abbrev pub Gives : (ℕ → Result ℤ Fault) → ℕ → List ℤ → Type 0
Gives at count numbers = map at (range_with_len 0 count) ≡ map Ok numbers

all_ok : (l : List ℤ) → all_or_first (map Ok l) ≡ Ok l
all_ok [] = refl
all_ok (n ∷ l) = ap (in_front n) (all_ok l)

pub gives_all : (at : ℕ → Result ℤ Fault) (n : ℕ) (l : List ℤ) → Gives at n l → by_place at n ≡ Ok l
unfolding by_place
gives_all at n l h = ap all_or_first h ∙ all_ok l

abbrev number : ℤ → Result ℤ Fault
number n = Ok n

map_last : (l : List ℤ) (n : ℤ) → map number (l ++ n ∷ []) ≡ map number l ++ number n ∷ []
map_last [] n = refl
map_last (m ∷ l) n = ap (λ r. number m ∷ r) (map_last l n)

pub gives_more : (at : ℕ → Result ℤ Fault) (i : ℕ) (n : ℤ) (l : List ℤ) → at i ≡ Ok n → Gives at i l → Gives at (i + 1) (l ++ n ∷ [])
gives_more at i n l e h =
    map-range_with_len_more at 0 i i (omega arith) ∙ (λ k. h k ++ e k ∷ []) ∙ sym (map_last l n)

fault_after : (l : List ℤ) (f : Fault) (rest : List (Result ℤ Fault)) → all_or_first (map number l ++ Err f ∷ rest) ≡ Err f
fault_after [] f rest = refl
fault_after (n ∷ l) f rest = ap (in_front n) (fault_after l f rest)

pub gives_fault : (at : ℕ → Result ℤ Fault) (i n : ℕ) (l : List ℤ) (f : Fault) → i < n → at i ≡ Err f → Gives at i l → by_place at n ≡ Err f
unfolding by_place
gives_fault at i n l f below e h =
    let all = map at (range_with_len 0 n) in
    let front : take (i + 1) all ≡ map number l ++ Err f ∷ [] =
    take-map-range_with_len at 0 n (i + 1) (omega arith) ∙ map-range_with_len_more at 0 i i (omega arith) ∙ (λ k. h k ++ e k ∷ []) in
    ap all_or_first (sym (take-append-drop (i + 1) all) ∙ ap (λ x. x ++ drop (i + 1) all) front ∙ append_assoc (map number l) (Err f ∷ []) (drop (i + 1) all)) ∙ fault_after l f (drop (i + 1) all)

pub gives_pushed : (at : ℕ → Result ℤ Fault) (i : ℕ) (n : ℤ) (l longer : List ℤ) → SFits w64 n → longer ≡ l ++ to_z w64 (of_z w64 n) ∷ [] → at i ≡ Ok n → Gives at i l → Gives at (i + 1) longer
gives_pushed at i n l longer f p e h =
    subst (Gives at (i + 1)) (sym (p ∙ ap (λ m. l ++ m ∷ []) (to_z-of_z w64 n f))) (gives_more at i n l e h)

pub gives_end : (at : ℕ → Result ℤ Fault) (i n : ℕ) (l : List ℤ) → n ≤ i → i ≤ n → Gives at i l → by_place at n ≡ Ok l
gives_end at i n l h k g = let end : i ≡ n = omega arith in gives_all at n l (subst (λ j. Gives at j l) end g)

-- a list whose first places are filled in place
pub record IsFilled (at : ℕ → Result ℤ Fault) (i : ℕ) (now old : List ℤ) : Type 0 where
  pub done : Gives at i (take i now)
  pub rest : drop i now ≡ drop i old

pub filled_none : (at : ℕ → Result ℤ Fault) (l : List ℤ) → IsFilled at 0 l l
filled_none at l = record { done = refl; rest = refl }

pub filled_more : (at : ℕ → Result ℤ Fault) (i : ℕ) (n : ℤ) (now old : List ℤ) → i < length now → at i ≡ Ok n → IsFilled at i now old → IsFilled at (i + 1) (set now i n) old
filled_more at i n now old h e was = record {
  done = subst (Gives at (i + 1)) (sym (take_more_set now i n h)) (gives_more at i n (take i now) e was.done);
  rest = drop-set-lt (i + 1) now i n (omega arith) ∙ drop_more_same now old i was.rest;
}

pub filled_read : (at : ℕ → Result ℤ Fault) (i : ℕ) (n : ℤ) (now old : List ℤ) → i < length now → SFits w64 n → at i ≡ Ok n → IsFilled at i now old → IsFilled at (i + 1) (set now i (to_z w64 (of_z w64 n))) old
filled_read at i n now old h f e was = subst (λ m. IsFilled at (i + 1) (set now i m) old) (sym (to_z-of_z w64 n f)) (filled_more at i n now old h e was)

-- what is still at the place that comes next
pub next_is : (at : ℕ → Result ℤ Fault) (i : ℕ) (now old : List ℤ) → IsFilled at i now old → get_or now i (pos 0) ≡ get_or old i (pos 0)
next_is at i now old was =
    let here : (l : List ℤ) → get_or (drop i l) 0 (pos 0) ≡ get_or l i (pos 0) = λ l. get_or-drop i l 0 (pos 0) ∙ ap (λ j. get_or l j (pos 0)) (omega arith) in
    sym (here now) ∙ ap (λ l. get_or l 0 (pos 0)) was.rest ∙ here old

pub filled_all : (at : ℕ → Result ℤ Fault) (i n : ℕ) (now old : List ℤ) → length now ≡ n → n ≤ i → i ≤ n → IsFilled at i now old → by_place at n ≡ Ok now
filled_all at i n now old e h k was =
    let end : i ≡ n = omega arith in
    gives_all at n now (subst (λ j. Gives at j now) end (subst (Gives at i) (take_all i now (omega arith)) was.done))

pub none_used : (item used cell : ℕ) → item ≡ 0 → used ≡ 0 → item * cell + used ≡ 0
none_used item used cell e f = ap (λ i. i * cell + used) e ∙ ap (λ u. 0 * cell + u) f ∙ omega arith

-- the place of the atom in use
pub in_use : (item used cell at : ℕ) → item * cell + used ≡ at → used < cell → at / cell ≡ item
in_use item used cell at e h = ap (λ x. x / cell) (sym e) ∙ div-mul-add item cell used h

-- a number that was read and passed is that number
pub as_read : (verb : Primitive) (x y : ℤ) (r : Result ℤ Fault) → SFits w64 x → SFits w64 y → r ≡ two_of verb (to_z w64 (of_z w64 x)) (to_z w64 (of_z w64 y)) → r ≡ two_of verb x y
as_read verb x y r f g e = e ∙ (λ i. two_of verb (to_z-of_z w64 x f i) (to_z-of_z w64 y g i))

-- each of xs serves so many of ys
abbrev pub right_at : Primitive → List ℤ → ℕ → List ℤ → ℕ → Result ℤ Fault
right_at verb xs cell ys j = two_of verb (get_or xs (j / cell) (pos 0)) (get_or ys j (pos 0))

-- each of ys serves so many of xs
abbrev pub left_at : Primitive → List ℤ → List ℤ → ℕ → ℕ → Result ℤ Fault
left_at verb xs ys cell j = two_of verb (get_or xs j (pos 0)) (get_or ys (j / cell) (pos 0))

same_from : (at other : ℕ → Result ℤ Fault) (a n : ℕ) → ((j : ℕ) → a ≤ j → j < a + n → at j ≡ other j) → map at (range_with_len a n) ≡ map other (range_with_len a n)
same_from at other a zero h = refl
same_from at other a (suc n) h =
    let first = h a (omega arith) (omega arith) in
    let rest = same_from at other (a + 1) n (λ j below above. h j (omega arith) (omega arith)) in
    λ i. first i ∷ rest i

-- two functions that are the same at the first places
pub same_by_place : (at other : ℕ → Result ℤ Fault) (n : ℕ) → ((j : ℕ) → j < n → at j ≡ other j) → by_place at n ≡ by_place other n
unfolding by_place
same_by_place at other n h = ap all_or_first (same_from at other 0 n (λ j below above. h j (omega arith)))

-- what a buffer has after its slice was written
pub written_back : (now old : List ℤ) (len : ℕ) → length now ≡ length old → len ≡ length old → take len (now ++ drop (length now) old) ≡ now
written_back now old len e h =
    ap (λ l. take len (now ++ l)) (drop_all (length now) old (omega arith)) ∙ ap (take len) (append-nil now) ∙ take_all len now (omega arith)

pub when_done : {Done : Type 0} (r : Result Done Fault) (done : Done) (now : List ℤ) (meant : Result (List ℤ) Fault) → r ≡ Ok done → in_place r now ≡ meant → meant ≡ Ok now
when_done r done now meant e h = sym h ∙ ap (λ q. in_place q now) e

pub when_faulty : {Done : Type 0} (r : Result Done Fault) (f : Fault) (now : List ℤ) (meant : Result (List ℤ) Fault) → r ≡ Err f → in_place r now ≡ meant → meant ≡ Err f
when_faulty r f now meant e h = sym h ∙ ap (λ q. in_place q now) e
