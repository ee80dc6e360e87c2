-- Arrays with cells replaced: they are arrays, and where there are no atoms on one side they stay as they were.
use Rattle.std.specs.Prelude.{ℕ, zero, suc, ◌*◌, ◌/◌, ◌%◌, ◌+◌, ◌<◌, ◌≤◌, ◌≡◌, max, Option, Some, None, List, [], ◌∷◌, length, map, replicate, get_or}
use Rattle.std.specs.List.{range_with_len}
use Rattle.std.proofs.Common.{arith, sym, ◌∙◌, ap, refl}
use Rattle.std.proofs.Math.Nat.{mul-zero}
use Rattle.jdata.specs.Fills.{fill_of}
use Rattle.jdata.specs.Limits.{IsArray, most_levels}
use Rattle.jdata.specs.Noun.{noun, shape, kind, atoms, product, level, atom_level, greatest}
use Rattle.jdata.specs.declared.noun.Noun.{Noun, roll-out-Noun}
use Rattle.jdata.specs.declared.noun.Kind.{Kind}
use Rattle.jdata.proofs.Arrays.{fills_are_array}
use Rattle.jdata.proofs.Levels.{level_is}
use Rattle.jamend.specs.Amended.{with_cells}
use Rattle.jamend.specs.Replacing.{atom_from, atom_replaced, replaced, last_place}
use Rattle.jamend.proofs.Replaced.{replaced_none, length-replaced, map-replaced, nothing_replaced}

-- numbers at most m
greatest_mapped : (f : ℕ → ℕ) (a n m : ℕ) → ((i : ℕ) → f i ≤ m) → greatest (map f (range_with_len a n)) ≤ m
greatest_mapped f a zero m h = omega arith
greatest_mapped f a (suc n) m h = omega (arith, h a, greatest_mapped f (a + 1) n m h)

one_at_most : (l : List ℕ) (i d m : ℕ) → greatest l ≤ m → d ≤ m → get_or l i d ≤ m
one_at_most [] i d m h low = low
one_at_most (n ∷ l) zero d m h low = omega (arith, h)
one_at_most (n ∷ l) (suc i) d m h low = one_at_most l i d m (omega (arith, h)) low

from_at_most : (xs ys : List ℕ) (d c p m : ℕ) (o : Option ℕ) → greatest xs ≤ m → greatest ys ≤ m → d ≤ m → atom_from d xs ys c p o ≤ m
from_at_most xs ys d c p m (Some k) hx hy low = one_at_most xs ((k * c + p % c) % length xs) d m hx low
from_at_most xs ys d c p m None hx hy low = one_at_most ys p d m hy low

replaced_at_most : (xs ys : List ℕ) (d c n m : ℕ) (numbers : List ℕ) → greatest xs ≤ m → greatest ys ≤ m → d ≤ m → greatest (replaced d xs ys numbers c n) ≤ m
unfolding replaced
replaced_at_most xs ys d c n m numbers hx hy low =
    greatest_mapped (atom_replaced d xs ys numbers c) 0 n m (λ p. from_at_most xs ys d c p m (last_place numbers (length numbers) (p / c)) hx hy low)

fill_low : (k : Kind) → atom_level (fill_of k) ≤ most_levels
fill_low k =
    let one = fills_are_array (1 ∷ []) k (record { rank = omega arith; extent_at_most = omega arith }) in
    let here : level (noun (1 ∷ []) k (replicate 1 (fill_of k))) ≡ max (atom_level (fill_of k)) 0 = level_is (noun (1 ∷ []) k (replicate 1 (fill_of k))) in
    omega (arith, here, one.level_at_most)

pub amended_is_array : (x y : Noun) (c : ℕ) (numbers : List ℕ) → IsArray x → IsArray y → IsArray (with_cells x y c numbers)
unfolding with_cells
amended_is_array x y c numbers a b =
    let d = fill_of (kind y) in
    let n = product (shape y) in
    record {
      whole = length-replaced d (atoms x) (atoms y) numbers c n;
      within = b.within;
      level_at_most =
          let here = level_is (noun (shape y) (kind y) (replaced d (atoms x) (atoms y) numbers c n)) in
          let levels = ap greatest (map-replaced atom_level d (atoms x) (atoms y) numbers c n) in
          let low =
          replaced_at_most (map atom_level (atoms x)) (map atom_level (atoms y)) (atom_level d) c n most_levels numbers
          (omega (arith, level_is x, a.level_at_most)) (omega (arith, level_is y, b.level_at_most)) (fill_low (kind y)) in
          omega (arith, here, levels, low);
    }

-- as the code makes it
pub made_of : (x y : Noun) (c : ℕ) (numbers : List ℕ) → IsArray y →
    with_cells x y c numbers ≡ noun (shape y) (kind y) (replaced (fill_of (kind y)) (atoms x) (atoms y) numbers c (length (atoms y)))
unfolding with_cells
made_of x y c numbers b = ap (λ n. noun (shape y) (kind y) (replaced (fill_of (kind y)) (atoms x) (atoms y) numbers c n)) (sym b.whole)

same_atoms : (x y : Noun) (c : ℕ) (numbers : List ℕ) → IsArray y → replaced (fill_of (kind y)) (atoms x) (atoms y) numbers c (length (atoms y)) ≡ atoms y → with_cells x y c numbers ≡ y
same_atoms x y c numbers b e = made_of x y c numbers b ∙ ap (noun (shape y) (kind y)) e ∙ roll-out-Noun y

no_things : {A : Type 0} (l : List A) → length l ≡ 0 → [] ≡ l
no_things [] e = refl
no_things (a ∷ l) e = absurd (omega arith)

pub none_to_replace : (x y : Noun) (c : ℕ) (numbers : List ℕ) → IsArray y → length (atoms y) ≡ 0 → with_cells x y c numbers ≡ y
none_to_replace x y c numbers b e =
    same_atoms x y c numbers b (replaced_none (fill_of (kind y)) (atoms x) (atoms y) numbers c (length (atoms y)) e ∙ no_things (atoms y) e)

-- x has no atoms, so it stands for no cell that has any
pub none_to_stand : (x y : Noun) (c n : ℕ) (numbers : List ℕ) → IsArray y → length (atoms x) ≡ 0 → (0 < length numbers * c → 0 < length (atoms x)) → length (atoms y) ≡ n * c →
    with_cells x y c numbers ≡ y
none_to_stand x y zero n numbers b none some whole = none_to_replace x y 0 numbers b (whole ∙ mul-zero n)
none_to_stand x y (suc c) n [] b none some whole =
    same_atoms x y (suc c) [] b (nothing_replaced (fill_of (kind y)) (atoms x) (atoms y) [] (suc c) (length (atoms y)) refl refl)
none_to_stand x y (suc c) n (m ∷ numbers) b none some whole = absurd (omega (arith, none, some (omega arith)))
