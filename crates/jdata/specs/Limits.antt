-- When a shape and atoms are an array, and what is wrong with them where they aren't.
use Rattle.std.specs.Prelude.{◌≡◌, ◌≤◌, ◌==◌, ◌&&◌, nat_le, ℕ, Bool, if◌then◌else◌, List, Result, Ok, Err, length}
use Rattle.jdata.specs.Noun.{shape, atoms, level, product, extent}
use Rattle.jdata.specs.declared.fault.Fault.{Fault}
use Rattle.jdata.specs.declared.fault.Fault.TheVariants as fault
use Rattle.jdata.specs.declared.noun.Noun.{Noun}
use Rattle.jdata.specs.declared.tree.BadTree.{BadTree}
use Rattle.jdata.specs.declared.tree.BadTree.TheVariants as bad

abbrev pub most_axes : ℕ
most_axes = 63

-- 2 ^ 27, of the product of the axes that aren't 0
abbrev pub most_atoms : ℕ
most_atoms = 134217728

abbrev pub most_levels : ℕ
most_levels = 64

abbrev pub is_within : Noun → Bool
is_within v = nat_le (length (shape v)) most_axes && (nat_le (extent (shape v)) most_atoms && nat_le (level v) most_levels)

abbrev pub checked : Noun → Result Noun BadTree
checked v =
    if is_within v
    then (if length (atoms v) == product (shape v) then Ok v else Err (bad.Length (product (shape v)) (length (atoms v))))
    else Err bad.Limit

-- the same with a fault of the language, of a noun that has as many atoms as its shape wants
abbrev pub limited : Noun → Result Noun Fault
limited v = if is_within v then Ok v else Err fault.Limit

-- the axes are a shape
pub record IsShape (axes : List ℕ) : Type 0 where
  pub rank : length axes ≤ most_axes
  pub extent_at_most : extent axes ≤ most_atoms

-- what is true of every array
pub record IsArray (v : Noun) : Type 0 where
  pub whole : length (atoms v) ≡ product (shape v)
  pub within : IsShape (shape v)
  pub level_at_most : level v ≤ most_levels
