-- The scalar monads on arrays (NuVoc, the monads of rank 0 on numbers): each atom by itself.
use Rattle.std.specs.Prelude.{if◌then◌else◌, ℤ, Option, Some, None, Result, Err, map}
use Rattle.jdata.specs.Firsts.{all_or_first}
use Rattle.jdata.specs.Noun.{shape, atoms}
use Rattle.jdata.specs.declared.fault.Fault.{Fault}
use Rattle.jdata.specs.declared.fault.Fault.TheVariants.{Domain, Nonce}
use Rattle.jdata.specs.declared.primitive.Primitive.{Primitive}
use Rattle.jdata.specs.declared.noun.Noun.{Noun}
use Rattle.jdata.specs.declared.noun.Atom.{Atom, Atom-F, out-Atom}
use Rattle.jdata.specs.declared.noun.Atom.TheOpen as one
use Rattle.jscalar.specs.Monads.{monad_on}
use Rattle.jarray.specs.Numbers.{is_integers, integers}

-- what a verb on integers gives of an atom
abbrev pub of_layer : (ℤ → Result ℤ Fault) → Atom-F Atom Noun → Result ℤ Fault
of_layer meant (one.Int n) = meant n
of_layer meant other = Err Domain

unfoldable pub of_atom : (ℤ → Result ℤ Fault) → Atom → Result ℤ Fault
of_atom meant a = of_layer meant (out-Atom a)

-- the kind comes first, then the atoms in ravel order
unfoldable pub each_integer : (ℤ → Result ℤ Fault) → Noun → Result Noun Fault
each_integer meant y = if is_integers y then integers (shape y) (all_or_first (map (of_atom meant) (atoms y))) else Err Domain

abbrev pub each_by : Option (ℤ → Result ℤ Fault) → Noun → Result Noun Fault
each_by (Some meant) y = each_integer meant y
each_by None y = Err Nonce

-- a verb that is no scalar monad is Nonce
abbrev pub scalar_monad : Primitive → Noun → Result Noun Fault
scalar_monad verb y = each_by (monad_on verb) y
