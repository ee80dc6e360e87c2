-- The scalar dyads on arrays (NuVoc, the dyads of ranks 0 0; "Agreement"; "=" Equal and "~:" Not-Equal for the kinds).
use Rattle.std.specs.Prelude.{ℕ, ◌/◌, pos, Bool, ◌&&◌, ◌||◌, if◌then◌else◌, ℤ, Option, Some, None, Result, Err, List, slice_index_or}
use Rattle.jscalar.specs.Places.{by_place}
use Rattle.jdata.specs.Noun.{shape, atoms, product}
use Rattle.jdata.specs.declared.fault.Fault.{Fault}
use Rattle.jdata.specs.declared.fault.Fault.TheVariants.{Domain, Length, Nonce}
use Rattle.jdata.specs.declared.primitive.Primitive.{Primitive}
use Rattle.jdata.specs.declared.noun.Noun.{Noun}
use Rattle.jdata.specs.declared.noun.Atom.{Atom}
use Rattle.jdata.specs.declared.noun.Atom.TheVariants as atom
use Rattle.jscalar.specs.Dyads.{is_scalar_dyad}
use Rattle.jarray.specs.Numbers.{is_integers, integers}
use Rattle.jshape.specs.Agreement.{longer, repeated}
use Rattle.jdyad.specs.Atoms.{is_comparison, of_atoms}

abbrev pub takes : Primitive → Noun → Noun → Bool
takes verb x y = is_comparison verb || (is_integers x && is_integers y)

-- the atom of an argument that atom j of the result is made of
abbrev pub atom_for : List Atom → ℕ → ℕ → Atom
atom_for atoms cell j = slice_index_or atoms (j / cell) (atom.Int (pos 0))

-- the verb on the atoms of both, each repeated so many times
abbrev pub spread : Primitive → List Atom → ℕ → List Atom → ℕ → ℕ → Result ℤ Fault
spread verb xs left ys right j = of_atoms verb (atom_for xs left j) (atom_for ys right j)

-- atom by atom in ravel order of the whole, where the shapes agree on one
abbrev pub of_shape : Primitive → Noun → Noun → Option (List ℕ) → Result Noun Fault
of_shape verb x y None = Err Length
of_shape verb x y (Some whole) =
    integers whole (by_place (spread verb (atoms x) (repeated (shape x) whole) (atoms y) (repeated (shape y) whole)) (product whole))

-- the kinds come first, then the shapes, then the atoms. The whole has the shape of an argument, so no limit is passed
unfoldable pub each_pair : Primitive → Noun → Noun → Result Noun Fault
each_pair verb x y = if takes verb x y then of_shape verb x y (longer (shape x) (shape y)) else Err Domain

-- a verb that is no scalar dyad is Nonce
unfoldable pub scalar_dyad : Primitive → Noun → Noun → Result Noun Fault
scalar_dyad verb x y = if is_scalar_dyad verb then each_pair verb x y else Err Nonce
