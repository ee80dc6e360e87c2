use Rattle.std.proofs.Common.{sym, subst}
use Rattle.jdata.specs.Leaf.{kind_in, atoms_in}
use Rattle.jdata.specs.Limits.{IsArray}
use Rattle.jdata.specs.Noun.{noun}
use Rattle.jselect.specs.Views.{noun_in}
use Rattle.jselect.proofs.Cells.{list_is_array}
use Rattle.jselect.proofs.view.listed.Goals as goal

pub returns-clause-array : goal.returns-clause-array
returns-clause-array c =
    subst (λ s. IsArray (noun s (kind_in c.args.view.atoms) (atoms_in c.args.view.atoms))) (sym c.list_axes.ensures) (list_is_array (noun_in c.args.view) c.requires)
