-- Places that are filled one after another, with a flag for whether any has no number.
use Rattle.std.proofs.Common.{◌≡◌, ℕ, zero, suc, ◌+◌, ◌*◌, ◌/◌, ◌<◌, ◌≤◌, List, [], ◌∷◌, ◌++◌, map, length, take, drop, get_or, Ok, Err, Result, refl, sym, ap, ◌∙◌, arith, true, false, get_or-drop, w64, of_z, to_z}
use Rattle.std.proofs.Math.ListN.{set}
use Rattle.std.specs.Prelude.{ℤ, pos, Bool, ◌||◌}
use mir.Val.{SFits}
use Rattle.std.specs.List.{range_with_len}
use Rattle.std.proofs.lemmas.Int.{to_z-of_z}
use Rattle.std.proofs.lemmas.List.FromFn.{map-range_with_len_more}
use Rattle.std.proofs.lemmas.List.{take_more_set, drop-set-lt, take_all, drop-drop}
use Rattle.std.proofs.lemmas.Grind.{drop_more_same}
use Rattle.std.proofs.lemmas.Nat.{div-mul-add}
use Rattle.jdata.specs.declared.fault.Fault.{Fault}
use Rattle.jdata.specs.Firsts.{all_or_first, in_front}
use Rattle.jscalar.specs.Places.{by_place}
use Rattle.jscalar.specs.Flagged.{flagged}

-- a list, and one more
abbrev after : Result (List ℤ) Fault → Result ℤ Fault → Result (List ℤ) Fault
after (Err fault) last = Err fault
after (Ok l) (Ok n) = Ok (l ++ n ∷ [])
after (Ok l) (Err fault) = Err fault

behind_first : (m : ℤ) (rest : Result (List ℤ) Fault) (last : Result ℤ Fault) → in_front m (after rest last) ≡ after (in_front m rest) last
behind_first m (Err fault) last = refl
behind_first m (Ok l) (Ok n) = refl
behind_first m (Ok l) (Err fault) = refl

one_more : (rs : List (Result ℤ Fault)) (last : Result ℤ Fault) → all_or_first (rs ++ last ∷ []) ≡ after (all_or_first rs) last
one_more [] (Ok n) = refl
one_more [] (Err fault) = refl
one_more (Ok m ∷ rs) last = ap (in_front m) (one_more rs last) ∙ behind_first m (all_or_first rs) last
one_more (Err fault ∷ rs) last = refl

both_flags : (why : Fault) (l : List ℤ) (n : ℤ) (any none : Bool) → after (flagged why l any) (flagged why n none) ≡ flagged why (l ++ n ∷ []) (any || none)
both_flags why l n true none = refl
both_flags why l n false true = refl
both_flags why l n false false = refl

-- the first places of now have their numbers, but for those that have none, and the others are as they were
pub record IsFilled (why : Fault) (at : ℕ → Result ℤ Fault) (i : ℕ) (any : Bool) (now old : List ℤ) : Type 0 where
  pub done : by_place at i ≡ flagged why (take i now) any
  pub rest : drop i now ≡ drop i old

pub filled_none : (why : Fault) (at : ℕ → Result ℤ Fault) (l : List ℤ) → IsFilled why at 0 false l l
unfolding by_place
filled_none why at l = record { done = refl; rest = refl }

place_more : (at : ℕ → Result ℤ Fault) (i : ℕ) → by_place at (i + 1) ≡ after (by_place at i) (at i)
unfolding by_place
place_more at i = ap all_or_first (map-range_with_len_more at 0 i i (omega arith)) ∙ one_more (map at (range_with_len 0 i)) (at i)

pub filled_more : (why : Fault) (at : ℕ → Result ℤ Fault) (i : ℕ) (n : ℤ) (any none : Bool) (now old : List ℤ) → i < length now → SFits w64 n → at i ≡ flagged why n none → IsFilled why at i any now old → IsFilled why at (i + 1) (any || none) (set now i (to_z w64 (of_z w64 n))) old
filled_more why at i n any none now old h f e was = record {
  done = place_more at i ∙ ap (λ r. after r (at i)) was.done ∙ ap (after (flagged why (take i now) any)) e ∙ both_flags why (take i now) n any none
      ∙ ap (λ l. flagged why l (any || none)) (sym (ap (λ m. take (i + 1) (set now i m)) (to_z-of_z w64 n f) ∙ take_more_set now i n h));
  rest = drop-set-lt (i + 1) now i (to_z w64 (of_z w64 n)) (omega arith) ∙ drop_more_same now old i was.rest;
}

drop_on : (i k : ℕ) (now old : List ℤ) → drop i now ≡ drop i old → drop (i + k) now ≡ drop (i + k) old
drop_on i k now old e = sym (drop-drop k i now) ∙ ap (drop k) e ∙ drop-drop k i old

-- what is still at the place that comes next
pub next_is : (why : Fault) (at : ℕ → Result ℤ Fault) (i : ℕ) (any : Bool) (now old : List ℤ) → IsFilled why at i any now old → get_or now i (pos 0) ≡ get_or old i (pos 0)
next_is why at i any now old was =
    let here : (l : List ℤ) → get_or (drop i l) 0 (pos 0) ≡ get_or l i (pos 0) = λ l. get_or-drop i l 0 (pos 0) ∙ ap (λ j. get_or l j (pos 0)) (omega arith) in
    sym (here now) ∙ ap (λ l. get_or l 0 (pos 0)) was.rest ∙ here old

-- numbers that were read and passed are those numbers
pub as_read : (meant : ℤ → ℤ → Result ℤ Fault) (x y was : ℤ) (r : Result ℤ Fault) → SFits w64 x → SFits w64 y → y ≡ was → meant (to_z w64 (of_z w64 x)) (to_z w64 (of_z w64 y)) ≡ r → meant x was ≡ r
as_read meant x y was r f g e h = ap (meant x) (sym e) ∙ (λ i. meant (sym (to_z-of_z w64 x f) i) (sym (to_z-of_z w64 y g) i)) ∙ h

pub as_read_right : (meant : ℤ → ℤ → Result ℤ Fault) (x y was : ℤ) (r : Result ℤ Fault) → SFits w64 y → y ≡ was → meant x (to_z w64 (of_z w64 y)) ≡ r → meant x was ≡ r
as_read_right meant x y was r g e h = ap (meant x) (sym e ∙ sym (to_z-of_z w64 y g)) ∙ h

-- what a loop gave
pub flag_all : (why : Fault) (at : ℕ → Result ℤ Fault) (i n : ℕ) (any : Bool) (now old : List ℤ) → length now ≡ n → n ≤ i → i ≤ n → IsFilled why at i any now old → by_place at n ≡ flagged why now any
flag_all why at i n any now old long h k was =
    ap (by_place at) (omega arith) ∙ was.done ∙ ap (λ l. flagged why l any) (take_all i now (omega arith))

-- piece by piece
abbrev both : Result (List ℤ) Fault → Result (List ℤ) Fault → Result (List ℤ) Fault
both (Err fault) rest = Err fault
both (Ok l) (Ok m) = Ok (l ++ m)
both (Ok l) (Err fault) = Err fault

both_behind : (m : ℤ) (first rest : Result (List ℤ) Fault) → in_front m (both first rest) ≡ both (in_front m first) rest
both_behind m (Err fault) rest = refl
both_behind m (Ok l) (Ok n) = refl
both_behind m (Ok l) (Err fault) = refl

both_none : (rest : Result (List ℤ) Fault) → rest ≡ both (Ok []) rest
both_none (Ok n) = refl
both_none (Err fault) = refl

all_of_both : (rs ss : List (Result ℤ Fault)) → all_or_first (rs ++ ss) ≡ both (all_or_first rs) (all_or_first ss)
all_of_both [] ss = both_none (all_or_first ss)
all_of_both (Ok m ∷ rs) ss = ap (in_front m) (all_of_both rs ss) ∙ both_behind m (all_or_first rs) (all_or_first ss)
all_of_both (Err fault ∷ rs) ss = refl

pub moved : (at : ℕ → Result ℤ Fault) (i a k : ℕ) → map at (range_with_len (i + a) k) ≡ map (λ j. at (i + j)) (range_with_len a k)
moved at i a zero = refl
moved at i a (suc k) = ap (λ l. at (i + a) ∷ l) (ap (λ b. map at (range_with_len b k)) (omega arith) ∙ moved at i (a + 1) k)

in_two : (at : ℕ → Result ℤ Fault) (a i k : ℕ) → map at (range_with_len a (i + k)) ≡ map at (range_with_len a i) ++ map at (range_with_len (a + i) k)
in_two at a zero k = let e : a ≡ a + 0 = omega arith in let d : 0 + k ≡ k = omega arith in ap (λ n. map at (range_with_len a n)) d ∙ ap (λ b. map at (range_with_len b k)) e
in_two at a (suc i) k =
    let e : suc i + k ≡ suc (i + k) = omega arith in
    let d : a + 1 + i ≡ a + suc i = omega arith in
    ap (λ n. map at (range_with_len a n)) e ∙ ap (λ l. at a ∷ l) (in_two at (a + 1) i k ∙ ap (λ b. map at (range_with_len (a + 1) i) ++ map at (range_with_len b k)) d)

place_both : (at : ℕ → Result ℤ Fault) (i k : ℕ) → by_place at (i + k) ≡ both (by_place at i) (by_place (λ j. at (i + j)) k)
unfolding by_place
place_both at i k =
    let z : 0 + i ≡ i + 0 = omega arith in
    ap all_or_first (in_two at 0 i k ∙ ap (λ b. map at (range_with_len 0 i) ++ map at (range_with_len b k)) z ∙ ap (λ l. map at (range_with_len 0 i) ++ l) (moved at i 0 k))
    ∙ all_of_both (map at (range_with_len 0 i)) (map (λ j. at (i + j)) (range_with_len 0 k))

flags_of_both : (why : Fault) (l m : List ℤ) (any none : Bool) → both (flagged why l any) (flagged why m none) ≡ flagged why (l ++ m) (any || none)
flags_of_both why l m true none = refl
flags_of_both why l m false true = refl
flags_of_both why l m false false = refl

pub filled_piece : (why : Fault) (at : ℕ → Result ℤ Fault) (i k : ℕ) (any none : Bool) (now old new piece : List ℤ) → IsFilled why at i any now old → by_place (λ j. at (i + j)) k ≡ flagged why piece none → take (i + k) new ≡ take i now ++ piece → drop (i + k) new ≡ drop (i + k) now → IsFilled why at (i + k) (any || none) new old
filled_piece why at i k any none now old new piece was h front back = record {
  done = place_both at i k ∙ ap (λ r. both r (by_place (λ j. at (i + j)) k)) was.done ∙ ap (both (flagged why (take i now) any)) h ∙ flags_of_both why (take i now) piece any none ∙ ap (λ l. flagged why l (any || none)) (sym front);
  rest = back ∙ drop_on i k now old was.rest;
}

pub same_from : (at other : ℕ → Result ℤ Fault) (a n : ℕ) → ((j : ℕ) → a ≤ j → j < a + n → at j ≡ other j) → map at (range_with_len a n) ≡ map other (range_with_len a n)
same_from at other a zero h = refl
same_from at other a (suc n) h =
    let first = h a (omega arith) (omega arith) in
    let rest = same_from at other (a + 1) n (λ j below above. h j (omega arith) (omega arith)) in
    λ i. first i ∷ rest i

-- two functions that are the same at the first places
pub same_by_place : (at other : ℕ → Result ℤ Fault) (n : ℕ) → ((j : ℕ) → j < n → at j ≡ other j) → by_place at n ≡ by_place other n
unfolding by_place
same_by_place at other n h = ap all_or_first (same_from at other 0 n (λ j below above. h j (omega arith)))

-- the place of the atom in use
pub in_use : (item used cell at : ℕ) → item * cell + used ≡ at → used < cell → at / cell ≡ item
in_use item used cell at e h = ap (λ x. x / cell) (sym e) ∙ div-mul-add item cell used h
