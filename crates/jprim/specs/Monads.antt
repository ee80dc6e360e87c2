-- The table of primitives, of one argument (NuVoc, "Vocabulary"): what each gives.
use Rattle.std.specs.Prelude.{Bool, true, false, ℤ, pos, Option, Some, None, Result, Err}
use Rattle.jdata.specs.declared.fault.Fault.{Fault}
use Rattle.jdata.specs.declared.fault.Fault.TheVariants.{Nonce}
use Rattle.jdata.specs.declared.primitive.Primitive.{Primitive}
use Rattle.jdata.specs.declared.primitive.Primitive.TheVariants.{Equal, SlashColon, BackslashColon, SemicolonColon, QuoteColon, Dollar, Hash, Comma, CommaDot, CommaColon, BarColon, BarDot, LeftBraceDot, LeftBraceColon, RightBraceDot, RightBraceColon, LeftBracket, RightBracket, LeftBracketColon, IDot, IColon, CapitalIDot, Less, Greater, CapitalLDot, HashDot, HashColon, TildeDot, TildeColon, Semicolon}
use Rattle.jdata.specs.declared.noun.Noun.{Noun}
use Rattle.jboxes.specs.Monads as boxes
use Rattle.jboxes.specs.Worded as words
use Rattle.jformat.specs.Format as formats
use Rattle.jframe.specs.Ranks.{at_rank}
use Rattle.jscalar.specs.Monads.{monad_on}
use Rattle.jmono.specs.Monads.{each_integer}
use Rattle.jradix.specs.Bases as bases
use Rattle.jradix.specs.Digits as digits
use Rattle.jsearch.specs.Classes as classes
use Rattle.jsearch.specs.Finding as finding
use Rattle.jsearch.specs.Grades as grades
use Rattle.jsearch.specs.Steps as steps
use Rattle.jsearch.specs.Turned as turned
use Rattle.jselect.specs.Copies as copies
use Rattle.jstruct.specs.Ends as ends
use Rattle.jstruct.specs.Laying as laying
use Rattle.jstruct.specs.Same as sides
use Rattle.jstruct.specs.Shaping as shaping
use Rattle.jstruct.specs.Transposing as transposing

-- a valence that is left out; what the verb gives of each integer; or its rank, none where there is no limit, and what it
-- gives of a whole array
pub data Row : Type 0 where
  Absent : Row
  EachInteger : (ℤ → Result ℤ Fault) → Row
  Whole : Option ℤ → (Noun → Result Noun Fault) → Row

abbrev pub is_whole : Row → Bool
is_whole (Whole rank meant) = true
is_whole other = false

abbrev pub on_integers : Option (ℤ → Result ℤ Fault) → Row
on_integers (Some meant) = EachInteger meant
on_integers None = Absent

-- the verbs on whole arrays, and the scalar monads; the others aren't built
unfoldable pub monad_of : Primitive → Row
monad_of Dollar = Whole None shaping.shape_of
monad_of Hash = Whole None copies.counted
monad_of Comma = Whole None shaping.ravelled
monad_of CommaDot = Whole None shaping.items_ravelled
monad_of CommaColon = Whole None shaping.itemized
monad_of BarColon = Whole None transposing.transposed
monad_of BarDot = Whole None ends.reversed
monad_of LeftBraceDot = Whole None ends.headed
monad_of LeftBraceColon = Whole None ends.tailed
monad_of RightBraceDot = Whole None laying.beheaded
monad_of RightBraceColon = Whole None laying.curtailed
monad_of LeftBracket = Whole None sides.same
monad_of RightBracket = Whole None sides.same
monad_of LeftBracketColon = Whole None sides.capped
monad_of IDot = Whole (Some (pos 1)) turned.integers
monad_of IColon = Whole (Some (pos 0)) steps.steps
monad_of CapitalIDot = Whole (Some (pos 1)) steps.indices
monad_of Less = Whole None boxes.enclosed
monad_of Greater = Whole (Some (pos 0)) boxes.disclosed
monad_of CapitalLDot = Whole None boxes.level_of
monad_of HashDot = Whole (Some (pos 1)) bases.based_two
monad_of HashColon = Whole None digits.binary
monad_of TildeDot = Whole None finding.nub
monad_of TildeColon = Whole None finding.sieve
monad_of Semicolon = Whole None boxes.razed
monad_of Equal = Whole None classes.classified
monad_of SlashColon = Whole None grades.grade_up
monad_of BackslashColon = Whole None grades.grade_down
monad_of SemicolonColon = Whole (Some (pos 1)) words.worded
monad_of QuoteColon = Whole None formats.format_of
monad_of verb = on_integers (monad_on verb)

-- what a row gives of an array
abbrev pub given : Row → Noun → Result Noun Fault
given Absent y = Err Nonce
given (EachInteger meant) y = each_integer meant y
given (Whole rank meant) y = at_rank rank meant y
