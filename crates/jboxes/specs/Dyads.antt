-- Link (J Dictionary and NuVoc, ";"): x in a box, and behind it y, in a box too unless it is of kind boxed.
use Rattle.std.specs.Prelude.{[], ◌∷◌, Result}
use Rattle.jdata.specs.Firsts.{and_then}
use Rattle.jdata.specs.Noun.{kind}
use Rattle.jdata.specs.declared.fault.Fault.{Fault}
use Rattle.jdata.specs.declared.noun.Noun.{Noun}
use Rattle.jdata.specs.declared.noun.Kind.{Kind}
use Rattle.jdata.specs.declared.noun.Kind.TheVariants as sort
use Rattle.jboxes.specs.Monads.{enclosed}
use Rattle.jframe.specs.Joining.{items_joined}

-- the items of x, and behind them those of y (NuVoc ",")
abbrev pub appended : Noun → Noun → Result Noun Fault
appended x y = items_joined (x ∷ y ∷ [])

abbrev pub linked_by : Kind → Noun → Noun → Result Noun Fault
linked_by sort.Int x y = and_then (enclosed x) (λ first. and_then (enclosed y) (appended first))
linked_by sort.Char x y = and_then (enclosed x) (λ first. and_then (enclosed y) (appended first))
linked_by sort.Boxed x y = and_then (enclosed x) (λ first. appended first y)

unfoldable pub linked : Noun → Noun → Result Noun Fault
linked x y = linked_by (kind y) x y
