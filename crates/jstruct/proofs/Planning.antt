-- Layouts of changed axes, axis by axis.
use Rattle.std.proofs.Common.{◌≡◌, ℕ, ◌+◌, ◌-◌, ◌*◌, ◌%◌, ◌<◌, ◌≤◌, min, suc, Bool, true, false, List, [], ◌∷◌, ◌++◌, length, take, drop, map, refl, sym, ap, ◌∙◌, arith, inl, inr}
use Rattle.std.specs.Prelude.{nat_lt, nat_le, ◌&&◌, if◌then◌else◌, ℤ, pos, negsuc, int_lt, unsigned_abs}
use Rattle.std.specs.List.{range_with_len}
use Rattle.std.proofs.lemmas.Bool.{ltb-true, ltb-false, le-leb, lt-leb}
use Rattle.std.proofs.lemmas.Int.{ints}
use Rattle.std.proofs.lemmas.Nat.{mod-mul-add}
use Rattle.jdata.specs.Indexes.{index_at, has_index, at_or}
use Rattle.jdata.specs.Noun.{product}
use Rattle.jdata.proofs.Indexing.{has_index_at}
use Rattle.jdata.proofs.Lists.{same_map}
use Rattle.jstruct.specs.declared.change.Change.{Change}
use Rattle.jstruct.specs.declared.change.Change.TheVariants as change
use Rattle.jstruct.specs.declared.change.Layout.{Layout}
use Rattle.jstruct.specs.Laying.{turns, from_the_end, length_after, axes_after, index_before}
use Rattle.jstruct.specs.Layouts.{laid_length, number_at, IsLayout, ArePlanned, AllLie, laid_axes, laid_index, laid, two_stretches}

-- a number of a changed axis lies in one of the stretches
at_number : (l : Layout) (i r : ℕ) → (i < l.first.count → l.first.start + i ≡ r) → (l.first.count ≤ i → l.second.start + (i - l.first.count) ≡ r) → number_at l i ≡ r
at_number l i r f g =
    let go : (b : Bool) → nat_lt i l.first.count ≡ b → (if b then l.first.start + i else l.second.start + (i - l.first.count)) ≡ r =
    λ b. elim b as (λ w. nat_lt i l.first.count ≡ w → (if w then l.first.start + i else l.second.start + (i - l.first.count)) ≡ r) [
      | true ↦ λ e. f (ltb-true i l.first.count e)
      | false ↦ λ e. g (ltb-false i l.first.count e)
    ] in
    go (nat_lt i l.first.count) refl

end_in : (k n i : ℕ) → k ≤ n + i → from_the_end k n i ≡ (n + i) - k
end_in k n i h =
    let go : (b : Bool) → b ≡ true → (if b then (n + i) - k else n + i) ≡ (n + i) - k = λ b e. rw e refl in
    go (nat_le k (n + i)) (le-leb k (n + i) h)

end_out : (k n i : ℕ) → n + i < k → from_the_end k n i ≡ n + i
end_out k n i h =
    let go : (b : Bool) → b ≡ false → (if b then (n + i) - k else n + i) ≡ n + i = λ b e. rw e refl in
    go (nat_le k (n + i)) (lt-leb k (n + i) h)

front : (k n kept : ℕ) → kept ≡ min k n → IsLayout change.Take (pos k) n (two_stretches 0 kept n (k - kept))
front k n kept e = record {
  long = omega arith;
  numbers = λ i h. at_number (two_stretches 0 kept n (k - kept)) i i (λ below. omega arith) (λ above. omega arith);
  first = inl (omega arith);
  second = inr (omega arith);
}

back : (j n kept : ℕ) → kept ≡ min (suc j) n → IsLayout change.Take (negsuc j) n (two_stretches n (suc j - kept) (n - kept) kept)
back j n kept e = record {
  long = omega arith;
  numbers = λ i h.
      at_number (two_stretches n (suc j - kept) (n - kept) kept) i (from_the_end (suc j) n i)
      (λ below. sym (end_out (suc j) n i (omega arith)))
      (λ above. let there = end_in (suc j) n i (omega arith) in omega (arith, there));
  first = inr (omega arith);
  second = inl (omega arith);
}

pub taken_front : (x : ℤ) (n count kept : ℕ) → count ≡ unsigned_abs x → kept ≡ min count n → int_lt x (pos 0) ≡ false → IsLayout change.Take x n (two_stretches 0 kept n (count - kept))
taken_front (pos k) n count kept e f h = rw e (front k n kept (f ∙ ap (λ m. min m n) e))
taken_front (negsuc k) n count kept e f h = cc

pub taken_back : (x : ℤ) (n count kept : ℕ) → count ≡ unsigned_abs x → kept ≡ min count n → int_lt x (pos 0) ≡ true → IsLayout change.Take x n (two_stretches n (count - kept) (n - kept) kept)
taken_back (pos k) n count kept e f h = absurd (grind (arith, ints))
taken_back (negsuc k) n count kept e f h = rw e (back k n kept (f ∙ ap (λ m. min m n) e))

pub dropped_front : (x : ℤ) (n count gone : ℕ) → count ≡ unsigned_abs x → gone ≡ min count n → int_lt x (pos 0) ≡ false → IsLayout change.Drop x n (two_stretches gone (n - gone) n 0)
dropped_front (pos k) n count gone e f h = record {
  long = omega arith;
  numbers = λ i below. at_number (two_stretches gone (n - gone) n 0) i (k + i) (λ in_first. omega arith) (λ above. absurd (omega arith));
  first = inl (omega arith);
  second = inr (omega arith);
}
dropped_front (negsuc k) n count gone e f h = cc

pub dropped_back : (x : ℤ) (n count gone : ℕ) → count ≡ unsigned_abs x → gone ≡ min count n → int_lt x (pos 0) ≡ true → IsLayout change.Drop x n (two_stretches 0 (n - gone) n 0)
dropped_back (pos k) n count gone e f h = absurd (grind (arith, ints))
dropped_back (negsuc k) n count gone e f h = record {
  long = omega arith;
  numbers = λ i below. at_number (two_stretches 0 (n - gone) n 0) i i (λ in_first. omega arith) (λ above. absurd (omega arith));
  first = inl (omega arith);
  second = inr (omega arith);
}

pub turned_layout : (x : ℤ) (n g : ℕ) → (1 ≤ n → g ≡ turns x n) → g ≤ n → IsLayout change.Turn x n (two_stretches g (n - g) 0 g)
turned_layout x n g e h = record {
  long = omega arith;
  numbers = λ i below.
      let same = e (omega arith) in
      ap (λ t. number_at (two_stretches t (n - t) 0 t) i) same
      ∙ at_number (two_stretches (turns x n) (n - turns x n) 0 (turns x n)) i ((turns x n + i) % n)
      (λ in_first.
      let small = mod-mul-add 0 n (turns x n + i) (omega (arith, same)) in
      let none : 0 * n + (turns x n + i) ≡ turns x n + i = omega arith in
      sym (ap (λ p. p % n) (sym none) ∙ small))
      (λ above.
      let r = i - (n - turns x n) in
      let big = mod-mul-add 1 n r (omega (arith, same)) in
      let once : 1 * n + r ≡ turns x n + i = omega (arith, same) in
      let zeros : 0 + r ≡ r = omega arith in
      zeros ∙ sym (ap (λ p. p % n) (sym once) ∙ big));
  first = inl (omega arith);
  second = inl (omega arith);
}

-- one more axis
pub planned_more : (c : Change) (xs : List ℤ) (ns : List ℕ) (ls : List Layout) (x : ℤ) (n : ℕ) (l : Layout) → length xs ≡ length ns →
    ArePlanned c xs ns ls → IsLayout c x n l → ArePlanned c (xs ++ x ∷ []) (ns ++ n ∷ []) (ls ++ l ∷ [])
planned_more c [] [] [] x n l e h is = (is, tt)
planned_more c [] [] (m ∷ ls) x n l e h is = absurd h
planned_more c [] (k ∷ ns) ls x n l e h is = absurd (omega arith)
planned_more c (y ∷ xs) [] ls x n l e h is = absurd (omega arith)
planned_more c (y ∷ xs) (k ∷ ns) [] x n l e h is = absurd h
planned_more c (y ∷ xs) (k ∷ ns) (m ∷ ls) x n l e h is = (h.0, planned_more c xs ns ls x n l (omega arith) h.1 is)

pub planned_front : (c : Change) (xs : List ℤ) (ns : List ℕ) (ls : List Layout) → length xs ≤ length ns → ArePlanned c xs (take (length xs) ns) ls → ArePlanned c xs ns ls
planned_front c [] ns [] e h = tt
planned_front c [] ns (m ∷ ls) e h = absurd h
planned_front c (y ∷ xs) [] ls e h = absurd (omega arith)
planned_front c (y ∷ xs) (k ∷ ns) [] e h = absurd h
planned_front c (y ∷ xs) (k ∷ ns) (m ∷ ls) e h = (h.0, planned_front c xs ns ls (omega arith) h.1)

pub axes_more : (c : Change) (xs : List ℤ) (ns : List ℕ) (x : ℤ) (n : ℕ) → length xs ≡ length ns →
    axes_after c (xs ++ x ∷ []) (ns ++ n ∷ []) ≡ axes_after c xs ns ++ length_after c x n ∷ []
axes_more c [] [] x n e = refl
axes_more c [] (k ∷ ns) x n e = absurd (omega arith)
axes_more c (y ∷ xs) [] x n e = absurd (omega arith)
axes_more c (y ∷ xs) (k ∷ ns) x n e = ap (λ l. length_after c y k ∷ l) (axes_more c xs ns x n (omega arith))

pub axes_rest : (c : Change) (xs : List ℤ) (ns : List ℕ) → length xs ≤ length ns → axes_after c xs (take (length xs) ns) ++ drop (length xs) ns ≡ axes_after c xs ns
axes_rest c [] ns e = refl
axes_rest c (y ∷ xs) [] e = absurd (omega arith)
axes_rest c (y ∷ xs) (k ∷ ns) e = ap (λ l. length_after c y k ∷ l) (axes_rest c xs ns (omega arith))

-- what the layouts of all axes come to
pub all_lie : (c : Change) (xs : List ℤ) (ns : List ℕ) (ls : List Layout) → ArePlanned c xs ns ls → AllLie ls ns
all_lie c [] ns [] h = tt
all_lie c [] ns (m ∷ ls) h = absurd h
all_lie c (y ∷ xs) [] ls h = absurd h
all_lie c (y ∷ xs) (k ∷ ns) [] h = absurd h
all_lie c (y ∷ xs) (k ∷ ns) (m ∷ ls) h = ((h.0.first, h.0.second), all_lie c xs ns ls h.1)

pub same_axes : (c : Change) (xs : List ℤ) (ns : List ℕ) (ls : List Layout) → ArePlanned c xs ns ls → laid_axes ls ns ≡ axes_after c xs ns
same_axes c [] ns [] h = refl
same_axes c [] ns (m ∷ ls) h = absurd h
same_axes c (y ∷ xs) [] ls h = absurd h
same_axes c (y ∷ xs) (k ∷ ns) [] h = absurd h
same_axes c (y ∷ xs) (k ∷ ns) (m ∷ ls) h = λ i. h.0.long i ∷ same_axes c xs ns ls h.1 i

first_of_two : (a b : Bool) → a && b ≡ true → a ≡ true
first_of_two true b e = refl
first_of_two false b e = cc

second_of_two : (a b : Bool) → a && b ≡ true → b ≡ true
second_of_two true b e = e
second_of_two false b e = cc

same_index : (c : Change) (xs : List ℤ) (ns : List ℕ) (ls : List Layout) (index : List ℕ) → ArePlanned c xs ns ls → has_index (laid_axes ls ns) index ≡ true →
    laid_index ls index ≡ index_before c xs ns index
same_index c [] ns [] index h there = refl
same_index c [] ns (m ∷ ls) index h there = absurd h
same_index c (y ∷ xs) [] ls index h there = absurd h
same_index c (y ∷ xs) (k ∷ ns) [] index h there = absurd h
same_index c (y ∷ xs) (k ∷ ns) (m ∷ ls) [] h there = cc
same_index c (y ∷ xs) (k ∷ ns) (m ∷ ls) (i ∷ is) h there =
    let here : i < laid_length m = ltb-true i (laid_length m) (first_of_two (nat_lt i (laid_length m)) (has_index (laid_axes ls ns) is) there) in
    let rest = same_index c xs ns ls is h.1 (second_of_two (nat_lt i (laid_length m)) (has_index (laid_axes ls ns) is) there) in
    λ p. h.0.numbers i here p ∷ rest p

-- the items along planned axes are those whose indexes the change gives
pub planned_items : {A : Type 0} (f : A) (c : Change) (xs : List ℤ) (ns : List ℕ) (ls : List Layout) (items : List A) → ArePlanned c xs ns ls →
    laid f ls ns items ≡ map (λ p. at_or f ns items (index_before c xs ns (index_at (axes_after c xs ns) p))) (range_with_len 0 (product (axes_after c xs ns)))
unfolding laid
planned_items {A = A} f c xs ns ls items h =
    let whole = laid_axes ls ns in
    same_map (λ p. at_or f ns items (laid_index ls (index_at whole p))) (λ p. at_or f ns items (index_before c xs ns (index_at whole p))) (product whole) f
    (λ p below. ap (at_or f ns items) (same_index c xs ns ls (index_at whole p) h (has_index_at whole p below)))
    ∙ ap (λ axes. map (λ p. at_or f ns items (index_before c xs ns (index_at axes p))) (range_with_len 0 (product axes))) (same_axes c xs ns ls h)
