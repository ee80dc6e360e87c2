-- The order of items (NuVoc "/:", Grade Up): their atoms are compared in ravel order, integers by value and characters by their
-- codes, and the first that differ decide. Boxes have no order. Places go by their items, and equal items keep their order.
use Rattle.std.specs.Prelude.{ℕ, ℤ, pos, ◌||◌, Bool, List, map}
use Rattle.std.specs.declared.cmp.Ordering.{Ordering}
use Rattle.std.specs.Cmp.Lexicographic.{slice_cmp}
use Rattle.std.specs.Ordering.{int_cmp, nat_cmp, ordering_then}
use Rattle.jdata.specs.Kinds.{is_of_kind}
use Rattle.jdata.specs.Noun.{atoms}
use Rattle.jdata.specs.declared.noun.Noun.{Noun}
use Rattle.jdata.specs.declared.noun.Kind.TheVariants as sort
use Rattle.jdata.specs.declared.noun.Atom.{Atom, Atom-F, out-Atom}
use Rattle.jdata.specs.declared.noun.Atom.TheOpen as one
use Rattle.jsearch.specs.Finding.{item}
use Rattle.jsearch.specs.declared.ordering.Direction.{Direction}
use Rattle.jsearch.specs.declared.ordering.Direction.TheVariants.{Rising, Falling}

-- an array of integers or characters; one without atoms is
abbrev pub has_order : Noun → Bool
has_order y = is_of_kind sort.Int y || is_of_kind sort.Char y

abbrev pub number_of : Atom-F Atom Noun → ℤ
number_of (one.Int n) = n
number_of (one.Char c) = pos c
number_of other = pos 0

abbrev pub numbers_in : Noun → List ℤ
numbers_in v = map (λ a. number_of (out-Atom a)) (atoms v)

abbrev pub compared : Noun → Noun → Ordering
compared v w = slice_cmp int_cmp (numbers_in v) (numbers_in w)

-- places by a list of integers at each; equal lists keep the order of their places
abbrev pub by_keys : (List ℤ → List ℤ → Ordering) → (ℕ → List ℤ) → ℕ → ℕ → Ordering
by_keys order key p q = ordering_then (order (key p) (key q)) (nat_cmp p q)

-- rising order of the places of items
abbrev pub rising : Noun → ℕ → ℕ → Ordering
rising y p q = ordering_then (compared (item y p) (item y q)) (nat_cmp p q)

-- falling order: the greater item first
abbrev pub falling : Noun → ℕ → ℕ → Ordering
falling y p q = ordering_then (compared (item y q) (item y p)) (nat_cmp p q)

abbrev pub in_direction : Direction → Noun → ℕ → ℕ → Ordering
in_direction Rising = rising
in_direction Falling = falling

-- the order of lists of integers, from the least on or from the greatest on
abbrev pub lists_in : Direction → List ℤ → List ℤ → Ordering
lists_in Rising k l = slice_cmp int_cmp k l
lists_in Falling k l = slice_cmp int_cmp l k
