use Rattle.std.proofs.Common.{sym, subst, ap, ◌∙◌}
use Rattle.jdata.specs.Limits.{IsArray}
use Rattle.jdata.specs.Noun.{noun}
use Rattle.jselect.specs.Items.{list_axes}
use Rattle.jselect.proofs.Cells.{list_is_array}
use Rattle.jsearch.proofs.cells.items_of.Goals as goal

pub returns-clause-array : goal.returns-clause-array
returns-clause-array c =
    subst IsArray (λ i. noun (sym (c.list_axes.ensures ∙ ap list_axes c.shape.ensures.value) i) (sym c.leaf.ensures.kind i) (sym c.leaf.ensures.atoms i))
    (list_is_array c.args.y.now.noun c.shape.ensures.array)
