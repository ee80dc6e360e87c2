-- The table of primitives, of two arguments (NuVoc, "Vocabulary"): what each gives.
use Rattle.std.specs.Prelude.{ℕ, ◌&&◌, not, if◌then◌else◌, Bool, true, false, ℤ, pos, Option, Some, None, Result, Ok, Err, List}
use Rattle.jdata.specs.Noun.{shape, atoms, product}
use Rattle.jdata.specs.declared.fault.Fault.{Fault}
use Rattle.jdata.specs.declared.fault.Fault.TheVariants.{Nonce, Domain, Length}
use Rattle.jdata.specs.declared.primitive.Primitive.{Primitive}
use Rattle.jdata.specs.declared.primitive.Primitive.TheVariants.{Equal, TildeColon, SlashColon, BackslashColon, CapitalIDot, Dollar, Comma, CommaDot, CommaColon, BarColon, BarDot, LeftBraceDot, RightBraceDot, LeftBracket, RightBracket, LeftBracketColon, Hash, HashDot, HashColon, LeftBrace, LeftBraceColonColon, MinusColon, MinusDot, IDot, IColon, EDot, Semicolon}
use Rattle.jdata.specs.declared.noun.Noun.{Noun}
use Rattle.jdata.specs.declared.noun.Atom.{Atom, Atom-F, out-Atom}
use Rattle.jdata.specs.declared.noun.Atom.TheOpen as one
use Rattle.jarray.specs.Matches.{equal_atoms}
use Rattle.jarray.specs.Numbers.{is_integers, integers}
use Rattle.jboxes.specs.Dyads as links
use Rattle.jsearch.specs.Finding as finding
use Rattle.jsearch.specs.Grades as grades
use Rattle.jsearch.specs.Intervals as intervals
use Rattle.jscalar.specs.Dyads.{dyad_on}
use Rattle.jscalar.specs.Places.{by_place}
use Rattle.jscalar.specs.Truths.{truth}
use Rattle.jshape.specs.Agreement.{longer, repeated}
use Rattle.jdyad.specs.Dyads.{atom_for}
use Rattle.jframe.specs.Ranks.{at_ranks}
use Rattle.jradix.specs.Bases as bases
use Rattle.jradix.specs.Digits as digits
use Rattle.jselect.specs.Copies as copies
use Rattle.jselect.specs.From as choosing
use Rattle.jstruct.specs.Axes as axes
use Rattle.jstruct.specs.Joins as joins
use Rattle.jstruct.specs.Laying as laying
use Rattle.jstruct.specs.Same as sides
use Rattle.jstruct.specs.Shaping as shaping

-- a valence that is left out; what the verb gives of two integers; what it gives of two atoms of any kind; or its left and its
-- right rank, none where there is no limit, and what it gives of two whole arrays
pub data Row : Type 0 where
  Absent : Row
  EachInteger : (ℤ → ℤ → Result ℤ Fault) → Row
  EachAtom : (Atom → Atom → Result ℤ Fault) → Row
  Whole : Option ℤ → Option ℤ → (Noun → Noun → Result Noun Fault) → Row

abbrev pub is_whole : Row → Bool
is_whole (Whole left right meant) = true
is_whole other = false

abbrev pub on_integers : Option (ℤ → ℤ → Result ℤ Fault) → Row
on_integers (Some meant) = EachInteger meant
on_integers None = Absent

abbrev pub if_equal : Atom → Atom → Result ℤ Fault
if_equal a b = Ok (truth (equal_atoms a b))

abbrev pub if_unequal : Atom → Atom → Result ℤ Fault
if_unequal a b = Ok (truth (not (equal_atoms a b)))

-- the two that compare atoms of any kind, the verbs on whole arrays, and the other scalar dyads; the others aren't built
unfoldable pub dyad_of : Primitive → Row
dyad_of Equal = EachAtom if_equal
dyad_of TildeColon = EachAtom if_unequal
dyad_of Dollar = Whole (Some (pos 1)) None shaping.reshaped
dyad_of Comma = Whole None None joins.appended
dyad_of CommaDot = Whole None None joins.stitched
dyad_of CommaColon = Whole None None joins.laminated
dyad_of BarColon = Whole (Some (pos 1)) None axes.transposed_by
dyad_of BarDot = Whole (Some (pos 1)) None laying.turned
dyad_of LeftBraceDot = Whole (Some (pos 1)) None laying.taken
dyad_of RightBraceDot = Whole (Some (pos 1)) None laying.dropped
dyad_of LeftBracket = Whole None None sides.left
dyad_of RightBracket = Whole None None sides.right
dyad_of LeftBracketColon = Whole None None sides.capped_dyad
dyad_of Hash = Whole (Some (pos 1)) None copies.copied
dyad_of HashDot = Whole (Some (pos 1)) (Some (pos 1)) bases.based
dyad_of HashColon = Whole (Some (pos 1)) (Some (pos 0)) digits.digits
dyad_of LeftBrace = Whole (Some (pos 0)) None choosing.selected
dyad_of LeftBraceColonColon = Whole (Some (pos 1)) None choosing.fetched
dyad_of MinusColon = Whole None None finding.matched
dyad_of MinusDot = Whole None None finding.less
dyad_of IDot = Whole None None finding.index_of
dyad_of IColon = Whole None None finding.last_index_of
dyad_of EDot = Whole None None finding.member
dyad_of Semicolon = Whole None None links.linked
dyad_of SlashColon = Whole None None grades.sorted_up
dyad_of BackslashColon = Whole None None grades.sorted_down
dyad_of CapitalIDot = Whole None None intervals.interval_index
dyad_of verb = on_integers (dyad_on verb)

-- what a meaning on integers gives of two atoms
abbrev pub of_integers : (ℤ → ℤ → Result ℤ Fault) → Atom-F Atom Noun → Atom-F Atom Noun → Result ℤ Fault
of_integers meant (one.Int x) (one.Int y) = meant x y
of_integers meant left right = Err Domain

-- atom by atom in ravel order of the whole, where the shapes agree on one: each atom of the argument with the shorter
-- shape serves a cell of the other
abbrev pub of_whole : (Atom → Atom → Result ℤ Fault) → Noun → Noun → Option (List ℕ) → Result Noun Fault
of_whole meant x y None = Err Length
of_whole meant x y (Some whole) =
    integers whole (by_place (λ j. meant (atom_for (atoms x) (repeated (shape x) whole) j) (atom_for (atoms y) (repeated (shape y) whole) j)) (product whole))

abbrev pub each_pair : (Atom → Atom → Result ℤ Fault) → Noun → Noun → Result Noun Fault
each_pair meant x y = of_whole meant x y (longer (shape x) (shape y))

-- what a row gives of two arrays
unfoldable pub given : Row → Noun → Noun → Result Noun Fault
given Absent x y = Err Nonce
given (EachInteger meant) x y =
    if is_integers x && is_integers y then each_pair (λ a b. of_integers meant (out-Atom a) (out-Atom b)) x y else Err Domain
given (EachAtom meant) x y = each_pair meant x y
given (Whole left right meant) x y = at_ranks left right meant x y
