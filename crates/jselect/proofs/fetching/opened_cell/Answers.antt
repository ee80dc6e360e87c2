use Rattle.std.proofs.Common.{ap, sym, ◌∙◌}
use Rattle.jdata.specs.Trees.{atom_of}
use Rattle.jdata.specs.declared.noun.Atom.{out-Atom}
use Rattle.jselect.specs.From.{content_of}
use Rattle.jselect.specs.Views.{noun_in}
use Rattle.jselect.proofs.Fetched.{box_opened, pyx_stays}
use Rattle.jselect.proofs.fetching.opened_cell.Goals as goal

pub returns-in-Boxed-clause-value : goal.returns-in-Boxed-clause-value
returns-in-Boxed-clause-value c =
    c.view_of_tree.ensures.value
    ∙ sym (ap (λ a. content_of (out-Atom (atom_of a)) (noun_in c.args.view)) c.in-Boxed.is ∙ box_opened c.in-Boxed.content (noun_in c.args.view))

pub returns-in-Pyx-clause-value : goal.returns-in-Pyx-clause-value
returns-in-Pyx-clause-value c =
    sym (ap (λ a. content_of (out-Atom (atom_of a)) (noun_in c.args.view)) c.in-Pyx.is ∙ pyx_stays c.in-Pyx.field-0 (noun_in c.args.view))
