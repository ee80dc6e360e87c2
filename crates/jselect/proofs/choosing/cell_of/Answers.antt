use Rattle.std.proofs.Common.{ap, sym, ◌∙◌, ◌∷◌, []}
use Rattle.jdata.specs.Trees.{atom_of}
use Rattle.jselect.specs.From.{named_by_first}
use Rattle.jselect.specs.Views.{noun_in}
use Rattle.jselect.proofs.Named.{by_box, by_pyx}
use Rattle.jselect.proofs.choosing.cell_of.Goals as goal

pub returns-in-Boxed-clause-value : goal.returns-in-Boxed-clause-value
returns-in-Boxed-clause-value c = c.cell_boxed.ensures.value ∙ sym (ap (λ a. named_by_first (atom_of a ∷ []) (noun_in c.args.y)) c.in-Boxed.is ∙ by_box c.in-Boxed.content (noun_in c.args.y))

pub returns-in-Pyx-clause-value : goal.returns-in-Pyx-clause-value
returns-in-Pyx-clause-value c = sym (ap (λ a. named_by_first (atom_of a ∷ []) (noun_in c.args.y)) c.in-Pyx.is ∙ by_pyx c.in-Pyx.field-0 (noun_in c.args.y))
