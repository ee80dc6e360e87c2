-- Integers (NuVoc "i."): the places of an array of these axes, in ravel order, reversed along each axis with a negative number.
use Rattle.std.specs.Prelude.{ℕ, suc, ◌-◌, ℤ, pos, negsuc, if◌then◌else◌, List, [], ◌∷◌, map, Result, Err}
use Rattle.jdata.specs.Indexes.{place_at}
use Rattle.jdata.specs.Limits.{limited}
use Rattle.jdata.specs.Tabulated.{indexed}
use Rattle.jdata.specs.declared.fault.Fault.{Fault}
use Rattle.jdata.specs.declared.fault.Fault.TheVariants as fault
use Rattle.jdata.specs.declared.noun.Noun.{Noun}
use Rattle.jdata.specs.declared.noun.Kind.TheVariants as sort
use Rattle.jdata.specs.declared.noun.Atom.TheVariants as atom
use Rattle.jarray.specs.Numbers.{is_integers}
use Rattle.jselect.specs.Arguments.{integers_in, is_count}

-- the length of an axis that an integer asks for
abbrev pub magnitude : ℤ → ℕ
magnitude (pos n) = n
magnitude (negsuc n) = suc n

-- an index, counted from the end on each axis with a negative number
abbrev pub turned : List ℤ → List ℕ → List ℕ
turned (z ∷ zs) (i ∷ is) = (if is_count z then i else magnitude z - suc i) ∷ turned zs is
turned zs is = []

abbrev pub place_turned : List ℤ → List ℕ → ℕ
place_turned zs index = place_at (map magnitude zs) (turned zs index)

abbrev pub places_turned : List ℤ → Noun
places_turned zs = indexed (map magnitude zs) sort.Int (λ index. atom.Int (pos (place_turned zs index)))

-- the axes are the numbers in ravel order, so an atom is a list of one
unfoldable pub integers : Noun → Result Noun Fault
integers y = if is_integers y then limited (places_turned (integers_in y)) else Err fault.Domain
