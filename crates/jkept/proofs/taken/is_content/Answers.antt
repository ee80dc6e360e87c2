use Rattle.std.proofs.Common.{sym, ap, ◌∙◌}
use Rattle.jarray.specs.Matches.{is_box, matches}
use Rattle.jdata.specs.Trees.{atom_of}
use Rattle.jdata.specs.declared.noun.Atom.{out-Atom}
use Rattle.jkept.proofs.Contents.{same_test, box_passes, pyx_fails}
use Rattle.jkept.proofs.taken.is_content.Goals as goal

pub returns-in-Boxed : goal.returns-in-Boxed
returns-in-Boxed c =
    same_test c.same.result c.args.content.now c.in-Boxed.other c.same.ensures
    ∙ (sym (box_passes (matches c.args.content.now) c.in-Boxed.other)
    ∙ ap (λ x. is_box (matches c.args.content.now) (out-Atom (atom_of x))) (sym c.in-Boxed.is))

pub returns-in-Pyx : goal.returns-in-Pyx
returns-in-Pyx c =
    sym (pyx_fails (matches c.args.content.now) c.in-Pyx.field-0)
    ∙ ap (λ x. is_box (matches c.args.content.now) (out-Atom (atom_of x))) (sym c.in-Pyx.is)
