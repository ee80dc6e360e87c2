-- What changing the first axes of an array answers.
use Rattle.std.proofs.Common.{◌≡◌, ℕ, ◌<◌, ◌≤◌, zero, suc, Bool, true, false, List, [], ◌∷◌, length, map, replicate, refl, sym, ap, ◌∙◌, arith, Ok, Err, Result, subst}
use Rattle.std.specs.Prelude.{nat_lt, if◌then◌else◌, ℤ}
use Rattle.std.specs.List.{range_with_len}
use Rattle.std.proofs.lemmas.Bool.{lt-ltb, le-ltb}
use Rattle.std.proofs.lemmas.List.FromFn.{length-map-range_with_len}
use Rattle.jdata.specs.Fills.{fill_of}
use Rattle.jdata.specs.Indexes.{index_at, at_or}
use Rattle.jdata.specs.Limits.{limited, IsArray, most_atoms}
use Rattle.jdata.specs.Noun.{noun, shape, kind, atoms, product, extent}
use Rattle.jdata.specs.declared.fault.Fault.{Fault}
use Rattle.jdata.specs.declared.fault.Fault.TheVariants as fault
use Rattle.jdata.specs.declared.noun.Noun.{Noun}
use Rattle.jdata.specs.declared.noun.Kind.{Kind}
use Rattle.jdata.specs.declared.noun.Atom.{Atom}
use Rattle.jdata.proofs.Arrays.{same_noun}
use Rattle.jdata.specs.declared.noun.Atom.TheVariants as atom
use Rattle.jarray.specs.Numbers.{is_integers}
use Rattle.jstruct.specs.Arguments.{integers_in}
use Rattle.jstruct.specs.declared.change.Change.{Change}
use Rattle.jstruct.specs.declared.change.Change.TheVariants as change
use Rattle.jstruct.specs.declared.change.Layout.{Layout}
use Rattle.jstruct.specs.Laying.{axes_after, index_before, changed, axes_for, changed_by, numbers_of, turned_by}
use Rattle.jstruct.specs.Layouts.{ArePlanned, laid_axes, laid_index, laid}
use Rattle.jstruct.specs.Sizes.{IsBeyond}
use Rattle.jstruct.proofs.Counting.{integers_seen}
use Rattle.jstruct.proofs.Planning.{planned_items}

pub too_many : (c : Change) (xs : List ℤ) (y : Noun) (ns : List ℕ) → ns ≡ axes_for (length xs) (shape y) → length ns < length xs → changed_by c xs y ≡ Err fault.Length
too_many c xs y ns e h =
    let go : (b : Bool) (r : Result Noun Fault) → b ≡ true → (if b then Err fault.Length else r) ≡ Err fault.Length = λ b r e. rw e refl in
    let n = axes_for (length xs) (shape y) in
    go (nat_lt (length n) (length xs)) (limited (changed c xs n y)) (ap (λ l. nat_lt (length l) (length xs)) (sym e) ∙ lt-ltb (length ns) (length xs) h)

few : (c : Change) (xs : List ℤ) (y : Noun) (ns : List ℕ) → ns ≡ axes_for (length xs) (shape y) → length xs ≤ length ns → changed_by c xs y ≡ limited (changed c xs ns y)
few c xs y ns e h =
    let go : (b : Bool) (r : Result Noun Fault) → b ≡ false → (if b then Err fault.Length else r) ≡ r = λ b r e. rw e refl in
    let n = axes_for (length xs) (shape y) in
    go (nat_lt (length n) (length xs)) (limited (changed c xs n y)) (ap (λ l. nat_lt (length l) (length xs)) (sym e) ∙ le-ltb (length ns) (length xs) h)
    ∙ ap (λ l. limited (changed c xs l y)) (sym e)

pub changed_beyond : (c : Change) (xs : List ℤ) (y : Noun) (ns whole : List ℕ) → ns ≡ axes_for (length xs) (shape y) → length xs ≤ length ns → whole ≡ axes_after c xs ns →
    IsBeyond whole → changed_by c xs y ≡ Err fault.Limit
changed_beyond c xs y ns whole e h w beyond =
    few c xs y ns e h
    ∙ subst IsBeyond w beyond (kind y) (map (λ p. at_or (fill_of (kind y)) ns (atoms y) (index_before c xs ns (index_at (axes_after c xs ns) p))) (range_with_len 0 (product (axes_after c xs ns))))

pub changed_is : (c : Change) (xs : List ℤ) (y : Noun) (ns whole : List ℕ) (ls : List Layout) (k : Kind) (l : List Atom) → ns ≡ axes_for (length xs) (shape y) →
    length xs ≤ length ns → whole ≡ axes_after c xs ns → ArePlanned c xs ns ls → k ≡ kind y → l ≡ laid (fill_of (kind y)) ls ns (atoms y) →
    limited (noun whole k l) ≡ changed_by c xs y
changed_is c xs y ns whole ls k l e h w planned same_kind same_atoms =
    ap limited (same_noun whole (axes_after c xs ns) k (kind y) l _ w same_kind (same_atoms ∙ planned_items (fill_of (kind y)) c xs ns ls (atoms y) planned))
    ∙ sym (few c xs y ns e h)

pub laid-length : {A : Type 0} (f : A) (ls : List Layout) (ns : List ℕ) (items : List A) → length (laid f ls ns items) ≡ product (laid_axes ls ns)
unfolding laid
laid-length f ls ns items = length-map-range_with_len (λ p. at_or f ns items (laid_index ls (index_at (laid_axes ls ns) p))) 0 (product (laid_axes ls ns))

-- the axes of an atom, or of another array, are those of its atoms
ones_extent : (n : ℕ) → extent (replicate n 1) ≡ 1
ones_extent zero = refl
ones_extent (suc n) = let rest = ones_extent n in omega (arith, rest)

ones_product : (n : ℕ) → product (replicate n 1) ≡ 1
ones_product zero = refl
ones_product (suc n) = let rest = ones_product n in omega (arith, rest)

axes_extent : (n m : ℕ) (axes : List ℕ) → 1 ≤ m → extent axes ≤ m → extent (axes_for n axes) ≤ m
axes_extent n m [] one h = omega (arith, ones_extent n)
axes_extent n m (a ∷ axes) one h = h

axes_product : (n : ℕ) (axes : List ℕ) → product (axes_for n axes) ≡ product axes
axes_product n [] = ones_product n
axes_product n (a ∷ axes) = refl

pub axes_within : (y : Noun) (ns : List ℕ) (n : ℕ) → IsArray y → ns ≡ axes_for n (shape y) → extent ns ≤ most_atoms
axes_within y ns n array e = let h = axes_extent n most_atoms (shape y) (omega arith) array.within.extent_at_most in omega (arith, h, ap extent e)

pub axes_whole : (y : Noun) (ns : List ℕ) (n : ℕ) → IsArray y → ns ≡ axes_for n (shape y) → product ns ≡ length (atoms y)
axes_whole y ns n array e = ap product e ∙ axes_product n (shape y) ∙ sym array.whole

-- the integers of an argument, or none
pub the_numbers : (x : Noun) (l : List ℤ) → map atom.Int l ≡ atoms x → is_integers x ≡ true → numbers_of x ≡ Ok l
the_numbers x l seen ints =
    let go : (b : Bool) (u v : Result (List ℤ) Fault) → b ≡ true → (if b then u else v) ≡ u = λ b u v e. rw e refl in
    go (is_integers x) (Ok (integers_in x)) (Err fault.Domain) ints ∙ ap Ok (integers_seen x l seen)

pub no_numbers : (x : Noun) → is_integers x ≡ false → numbers_of x ≡ Err fault.Domain
no_numbers x none =
    let go : (b : Bool) (u v : Result (List ℤ) Fault) → b ≡ false → (if b then u else v) ≡ v = λ b u v e. rw e refl in
    go (is_integers x) (Ok (integers_in x)) (Err fault.Domain) none

pub turned_alone : (xs : List ℤ) (y : Noun) (s : List ℕ) → shape y ≡ s → length s ≡ 0 → turned_by xs y (shape y) ≡ Ok y
turned_alone xs y [] e h = ap (turned_by xs y) e
turned_alone xs y (n ∷ ns) e h = absurd (omega arith)

pub turned_along : (xs : List ℤ) (y : Noun) (s : List ℕ) → shape y ≡ s → (length s ≡ 0 → ⊥) → turned_by xs y (shape y) ≡ changed_by change.Turn xs y
turned_along xs y [] e h = absurd (h refl)
turned_along xs y (n ∷ ns) e h = ap (turned_by xs y) e
