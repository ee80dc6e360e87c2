-- The integers of an array that is an argument, and those among them that count something.
use Rattle.std.specs.Prelude.{ℕ, ℤ, pos, negsuc, Bool, true, false, List, map}
use Rattle.jdata.specs.Noun.{atoms}
use Rattle.jdata.specs.declared.noun.Noun.{Noun}
use Rattle.jdata.specs.declared.noun.Atom.{Atom, Atom-F, out-Atom}
use Rattle.jdata.specs.declared.noun.Atom.TheOpen as one

abbrev pub integer_of : Atom-F Atom Noun → ℤ
integer_of (one.Int n) = n
integer_of other = pos 0

-- the integers in ravel order
abbrev pub integers_in : Noun → List ℤ
integers_in v = map (λ a. integer_of (out-Atom a)) (atoms v)

-- whether an integer counts something
abbrev pub is_count : ℤ → Bool
is_count (pos n) = true
is_count (negsuc n) = false

abbrev pub count_of : ℤ → ℕ
count_of (pos n) = n
count_of (negsuc n) = 0
