-- When axes are filled with the atoms of an array, and with what.
use Rattle.std.specs.Prelude.{ℕ, ◌*◌, ◌<◌, ◌≤◌, ◌≡◌, ◌≢◌, ◌==◌, ◌&&◌, not, Bool, true, false, if◌then◌else◌, List, [], ◌∷◌, length, map, Result, Err}
use Rattle.std.specs.List.{range_with_len}
use Rattle.std.proofs.Common.{arith, sym, ◌∙◌, ap, refl}
use Rattle.std.proofs.Math.Nat.{one-le-mul}
use Rattle.std.proofs.lemmas.Bool.{ne_eqb, eqb-false}
use Rattle.jdata.specs.Answers.{Answers}
use Rattle.jdata.specs.Firsts.{and_then}
use Rattle.jdata.specs.Limits.{limited, IsArray}
use Rattle.jdata.specs.Noun.{noun, shape, kind, atoms, product}
use Rattle.jdata.specs.Tabulated.{tabulated}
use Rattle.jdata.specs.declared.fault.Fault.{Fault}
use Rattle.jdata.specs.declared.fault.Fault.TheVariants as fault
use Rattle.jdata.specs.declared.fault.Trouble.{Trouble}
use Rattle.jdata.specs.declared.fault.Trouble.TheVariants as trouble
use Rattle.jdata.specs.declared.noun.Noun.{Noun}
use Rattle.jdata.specs.declared.noun.Kind.{Kind}
use Rattle.jdata.specs.declared.noun.Atom.{Atom}
use Rattle.jdata.proofs.Arrays.{same_noun}
use Rattle.jstruct.specs.Items.{item_count, item_axes}
use Rattle.jstruct.specs.Shaping.{filled_axes, again}
use Rattle.jstruct.specs.Sizes.{IsBeyond}

abbrev pub lacks : List ℕ → Noun → Bool
lacks axes y = item_count y == 0 && not (product axes == 0)

pub lacking : (axes seen : List ℕ) (y : Noun) (count : ℕ) (r v : Bool) → count ≡ item_count y → seen ≡ axes →
    r ≡ (count == 0 && not (product seen == 0)) → r ≡ v → lacks axes y ≡ v
lacking axes seen y count r v e f g h = (λ i. sym e i == 0 && not (product (sym f i) == 0)) ∙ sym g ∙ h

pub not_filled : (axes : List ℕ) (y : Noun) → lacks axes y ≡ true → filled_axes axes y ≡ Err fault.Length
not_filled axes y h =
    let go : (b : Bool) (r : Result Noun Fault) → b ≡ true → (if b then Err fault.Length else r) ≡ Err fault.Length = λ b r e. rw e refl in
    go (lacks axes y) (limited (tabulated axes (kind y) (again y))) h

filled : (axes : List ℕ) (y : Noun) → lacks axes y ≡ false → filled_axes axes y ≡ limited (tabulated axes (kind y) (again y))
filled axes y h =
    let go : (b : Bool) (r : Result Noun Fault) → b ≡ false → (if b then Err fault.Length else r) ≡ r = λ b r e. rw e refl in
    go (lacks axes y) (limited (tabulated axes (kind y) (again y))) h

pub filled_beyond : (axes : List ℕ) (y : Noun) → lacks axes y ≡ false → IsBeyond axes → filled_axes axes y ≡ Err fault.Limit
filled_beyond axes y h beyond = filled axes y h ∙ beyond (kind y) (map (again y) (range_with_len 0 (product axes)))

pub filled_is : (axes : List ℕ) (y : Noun) (k : Kind) (l : List Atom) → lacks axes y ≡ false → k ≡ kind y → l ≡ map (again y) (range_with_len 0 (product axes)) →
    limited (noun axes k l) ≡ filled_axes axes y
filled_is axes y k l h e f = ap limited (same_noun axes axes k (kind y) l (map (again y) (range_with_len 0 (product axes))) refl e f) ∙ sym (filled axes y h)

no_lack : (a b : Bool) → a && not b ≡ false → b ≡ false → a ≡ false
no_lack true true h e = cc
no_lack true false h e = cc
no_lack false b h e = refl

product_of_some : (a b : ℕ) → 1 ≤ a → 1 ≤ b → 1 ≤ a * b
product_of_some a b h k = one-le-mul h k

product_some : (axes : List ℕ) (count inner : ℕ) → product axes ≡ count * inner → count ≢ 0 → inner ≢ 0 → 1 ≤ product axes
product_some axes count inner e f g = let h = product_of_some count inner (omega arith) (omega arith) in omega (arith, h, e)

items_counted : (axes : List ℕ) (y : Noun) → shape y ≡ axes → product (shape y) ≡ item_count y * product (item_axes y)
items_counted [] y e = rw e (omega arith)
items_counted (n ∷ ns) y e = rw e refl

-- where axes want atoms and there are items, there are atoms
pub some_atoms : (axes : List ℕ) (y : Noun) (size : ℕ) → IsArray y → size ≡ product axes → lacks axes y ≡ false →
    (product axes ≢ 0 → product (item_axes y) ≢ 0) → 0 < size → 0 < length (atoms y)
some_atoms axes y size array e h inner some =
    let wanted : product axes ≢ 0 = λ none. omega arith in
    let count : item_count y ≢ 0 = eqb-false _ _ (no_lack (item_count y == 0) (product axes == 0) h (ne_eqb _ _ wanted)) in
    let places = product_some (shape y) (item_count y) (product (item_axes y)) (items_counted (shape y) y refl) count (inner wanted) in
    omega (arith, places, array.whole)

-- a fault of the first of two steps, or want of memory there
pub first_refused : {A B : Type 0} (r : Result A Fault) (next : A → Result B Fault) (t : Trouble) → Answers r (Err t) → Answers (and_then r next) (Err t)
first_refused r next (trouble.Fault f) h = ap (λ s. and_then s next) h
first_refused r next trouble.NoMemory h = tt
