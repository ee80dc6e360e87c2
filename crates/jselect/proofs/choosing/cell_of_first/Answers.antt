use Rattle.std.proofs.Common.{ap, sym, ◌∙◌, ◌∷◌, []}
use Rattle.jdata.specs.Trees.{atom_of}
use Rattle.jselect.specs.From.{named_by_first}
use Rattle.jselect.specs.Views.{noun_in}
use Rattle.jselect.proofs.Named.{by_first}
use Rattle.jselect.proofs.choosing.cell_of_first.Goals as goal

pub returns-in-len1-up-clause-value : goal.returns-in-len1-up-clause-value
returns-in-len1-up-clause-value c =
    c.cell_of.ensures.value
    ∙ ap (λ a. named_by_first (atom_of a ∷ []) (noun_in c.args.y)) c.first-item.is
    ∙ sym (by_first c.args.cells.now c.first-item.result (noun_in c.args.y) c.in-len1-up.len_at_least)
