-- Tests and assertions (J Dictionary, "Control Structures"; NuVoc, "if." and "assert."), by their values.
use Rattle.std.specs.Prelude.{pos, not, Bool, true, List, [], ◌∷◌}
use Rattle.std.specs.List.{list_all}
use Rattle.jarray.specs.Matches.{is_int}
use Rattle.jdata.specs.Noun.{atoms}
use Rattle.jdata.specs.declared.noun.Noun.{Noun}
use Rattle.jdata.specs.declared.noun.Atom.{Atom, out-Atom}

abbrev pub first_holds : List Atom → Bool
first_holds [] = true
first_holds (a ∷ rest) = not (is_int (pos 0) (out-Atom a))

-- a test holds where its value is empty, or its first atom isn't the integer 0
abbrev pub holds : Noun → Bool
holds v = first_holds (atoms v)

-- an assertion holds where each atom is the integer 1
abbrev pub are_ones : Noun → Bool
are_ones v = list_all (λ a. is_int (pos 1) (out-Atom a)) (atoms v)
