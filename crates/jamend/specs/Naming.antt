-- What `m}` replaces (NuVoc "}"), where m has no integers: the cell that the integers in a box name. The box stands alone, and
-- there is an integer for each axis from the first. Faults: Nonce, Domain.
use Rattle.std.specs.Prelude.{ℤ, ℕ, ◌==◌, ◌&&◌, not, Bool, false, if◌then◌else◌, List, [], ◌∷◌, length, Result, Err}
use Rattle.std.specs.List.{list_any}
use Rattle.jdata.specs.Kinds.{same_kind}
use Rattle.jdata.specs.Noun.{kind, atoms}
use Rattle.jdata.specs.declared.fault.Fault.{Fault}
use Rattle.jdata.specs.declared.fault.Fault.TheVariants as fault
use Rattle.jdata.specs.declared.noun.Noun.{Noun}
use Rattle.jdata.specs.declared.noun.Kind.TheVariants as sort
use Rattle.jdata.specs.declared.noun.Atom.{Atom, Atom-F, out-Atom}
use Rattle.jdata.specs.declared.noun.Atom.TheOpen as one
use Rattle.jselect.specs.From.{numbers_boxed}

abbrev pub has_boxes : Noun → Bool
has_boxes v = same_kind (kind v) sort.Boxed && not (length (atoms v) == 0)

-- a box with boxes in it
abbrev pub is_nested : Atom-F Atom Noun → Bool
is_nested (one.Box content) = has_boxes content
is_nested other = false

-- the integers in a box, and nothing else has any
abbrev pub box_numbers : Atom-F Atom Noun → Result (List ℤ) Fault
box_numbers (one.Box content) = numbers_boxed content
box_numbers other = Err fault.Domain

-- those of the one atom of an array without axes
abbrev pub lone_numbers : List ℕ → List Atom → Result (List ℤ) Fault
lone_numbers [] (a ∷ []) = box_numbers (out-Atom a)
lone_numbers axes others = Err fault.Domain

unfoldable pub cell_numbers : List ℕ → List Atom → Result (List ℤ) Fault
cell_numbers axes items = if list_any (λ a. is_nested (out-Atom a)) items then Err fault.Nonce else lone_numbers axes items
