-- A scalar dyad on two atoms, which needn't be integers (NuVoc "=" Equal, "~:" Not-Equal), and place by place.
use Rattle.std.specs.Prelude.{Bool, true, false, not, ℤ, Result, Ok, Err}
use Rattle.jdata.specs.declared.fault.Fault.{Fault}
use Rattle.jdata.specs.declared.fault.Fault.TheVariants.{Domain}
use Rattle.jdata.specs.declared.primitive.Primitive.{Primitive}
use Rattle.jdata.specs.declared.primitive.Primitive.TheVariants.{Equal, TildeColon}
use Rattle.jdata.specs.declared.noun.Noun.{Noun}
use Rattle.jdata.specs.declared.noun.Atom.{Atom, Atom-F, out-Atom}
use Rattle.jdata.specs.declared.noun.Atom.TheOpen as one
use Rattle.jscalar.specs.Truths.{truth}
use Rattle.jscalar.specs.Dyads.{two_of}
use Rattle.jarray.specs.Matches.{equal_atoms}

-- the verbs that take any kind
unfoldable pub is_comparison : Primitive → Bool
is_comparison Equal = true
is_comparison TildeColon = true
is_comparison other = false

-- what they give of two atoms that are equal, or aren't
unfoldable pub compared : Primitive → Bool → Result ℤ Fault
compared Equal equal = Ok (truth equal)
compared TildeColon equal = Ok (truth (not equal))
compared other equal = Err Domain

-- two numbers by the verb, other atoms by whether they are equal
abbrev pub of_layers : Primitive → Bool → Atom-F Atom Noun → Atom-F Atom Noun → Result ℤ Fault
of_layers verb equal (one.Int x) (one.Int y) = two_of verb x y
of_layers verb equal left right = compared verb equal

unfoldable pub of_atoms : Primitive → Atom → Atom → Result ℤ Fault
of_atoms verb a b = of_layers verb (equal_atoms a b) (out-Atom a) (out-Atom b)
