use Rattle.std.proofs.Common.{Bool, sym, ap, ◌∙◌}
use Rattle.jarray.specs.Matches.{is_box, matches}
use Rattle.jdata.specs.Trees.{atom_of}
use Rattle.jdata.specs.declared.noun.Noun.{Noun}
use Rattle.jdata.specs.declared.noun.Atom.{out-Atom}
use Rattle.jkept.proofs.Contents.{some_cell, box_passes, pyx_fails}
use Rattle.jkept.proofs.taken.is_shared.Goals as goal

pub returns-in-Boxed : goal.returns-in-Boxed
returns-in-Boxed c =
    let test : Noun → Bool = λ content. some_cell (matches content) c.args.others.now in
    c.has_content.ensures
    ∙ (sym (box_passes test c.in-Boxed.content)
    ∙ ap (λ x. is_box test (out-Atom (atom_of x))) (sym c.in-Boxed.is))

pub returns-in-Pyx : goal.returns-in-Pyx
returns-in-Pyx c =
    let test : Noun → Bool = λ content. some_cell (matches content) c.args.others.now in
    sym (pyx_fails test c.in-Pyx.field-0) ∙ ap (λ x. is_box test (out-Atom (atom_of x))) (sym c.in-Pyx.is)
