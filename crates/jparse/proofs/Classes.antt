-- The classes of the parts that were read.
use Rattle.std.proofs.Common.{◌≡◌, ℕ, zero, suc, ◌<◌, ◌≤◌, List, [], ◌∷◌, length, get_or, Some, None, arith, refl, ap, sym, ◌∙◌, ◌-◌, reverse}
use Rattle.std.proofs.lemmas.List.{get_or-reverse, length-reverse}
use Rattle.jterm.specs.declared.part.Part.{Part}
use Rattle.std.proofs.lemmas.List.Quantifiers.{position-Some}
use Rattle.jparse.specs.declared.table.Group.TheVariants as group
use Rattle.jparse.specs.declared.table.Top.{Top}
use Rattle.jparse.specs.Parsing.{class_of, class_at, row_of, matches, table}

pub class_there : (at : ℕ) (parts : List Part) (d : Part) → at < length parts → Some (class_of (get_or parts at d)) ≡ class_at at parts
class_there at [] d inside = absurd (omega (arith, inside))
class_there zero (part ∷ parts) d inside = refl
class_there (suc at) (part ∷ parts) d inside = class_there at parts d (omega (arith, inside))

pub none_there : (at : ℕ) (parts : List Part) → length parts ≤ at → None ≡ class_at at parts
none_there at [] outside = refl
none_there zero (part ∷ parts) outside = absurd (omega (arith, outside))
none_there (suc at) (part ∷ parts) outside = none_there at parts (omega (arith, outside))

-- the same where the leftmost part stands at the end of a buffer
pub class_read : (items : List Part) (at n : ℕ) (part : Part) → n ≡ length items → at < n → part ≡ get_or items (n - 1 - at) part → Some (class_of part) ≡ class_at at (reverse items)
class_read items at n part all inside read =
    let there : at < length items = omega (arith, all, inside) in
    let same = get_or-reverse items at part there in
    let place : n - 1 - at ≡ length items - 1 - at = omega (arith, all) in
    ap (λ p. Some (class_of p)) (read ∙ ap (λ k. get_or items k part) place ∙ sym same)
    ∙ class_there at (reverse items) part (omega (arith, there, length-reverse items))

pub none_read : (items : List Part) (at n : ℕ) → n ≡ length items → n ≤ at → None ≡ class_at at (reverse items)
none_read items at n all outside = none_there at (reverse items) (omega (arith, all, outside, length-reverse items))

-- the table has nine rows
pub row_below : (top : Top) (row : ℕ) → row_of top ≡ Some row → row < 9
unfolding row_of
row_below top row is = (position-Some (matches top) table row (group.Any, group.Any, group.Any, group.Any) is).0
