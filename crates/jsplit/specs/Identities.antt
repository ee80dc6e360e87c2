-- The identity of a verb (NuVoc "/", "Identity function"): what `u/` gives of no items, which leaves other numbers as they are.
use Rattle.std.specs.Prelude.{ℤ, pos, Option, Some, None, replicate, Result, Ok, Err}
use Rattle.jdata.specs.Noun.{noun, product}
use Rattle.jdata.specs.declared.fault.Fault.{Fault}
use Rattle.jdata.specs.declared.fault.Fault.TheVariants as fault
use Rattle.jdata.specs.declared.noun.Noun.{Noun}
use Rattle.jdata.specs.declared.noun.Kind.TheVariants as sort
use Rattle.jdata.specs.declared.noun.Atom.TheVariants as atom
use Rattle.jdata.specs.declared.primitive.Primitive.{Primitive}
use Rattle.jdata.specs.declared.primitive.Primitive.TheVariants as verb
use Rattle.jselect.specs.Items.{item_axes}
use Rattle.jterm.specs.declared.term.Term.{Term}
use Rattle.jterm.specs.declared.term.Term.TheVariants as term

unfoldable pub identity_of : Primitive → Option ℤ
identity_of verb.Plus = Some (pos 0)
identity_of verb.Minus = Some (pos 0)
identity_of verb.PlusDot = Some (pos 0)
identity_of verb.TildeColon = Some (pos 0)
identity_of verb.Bar = Some (pos 0)
identity_of verb.Times = Some (pos 1)
identity_of verb.Divide = Some (pos 1)
identity_of verb.TimesDot = Some (pos 1)
identity_of verb.Equal = Some (pos 1)
identity_of verb.Power = Some (pos 1)
identity_of other = None

-- no other term has one
abbrev pub identity_in : Term → Option ℤ
identity_in (term.Verb v) = identity_of v
identity_in other = None

-- the number at each place of an item of y
abbrev pub filled_item : Option ℤ → Noun → Result Noun Fault
filled_item (Some n) y = Ok (noun (item_axes y) sort.Int (replicate (product (item_axes y)) (atom.Int n)))
filled_item None y = Err fault.Domain

abbrev pub identity : Term → Noun → Result Noun Fault
identity u y = filled_item (identity_in u) y
