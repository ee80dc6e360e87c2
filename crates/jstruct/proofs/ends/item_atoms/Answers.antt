use Rattle.std.proofs.Common.{◌∙◌, arith, ap, length}
use Rattle.jdata.specs.Fills.{fill_of}
use Rattle.jdata.specs.Leaf.{kind_in, atoms_in}
use Rattle.std.proofs.lemmas.Result.{IfOk-weaker}
use Rattle.std.proofs.Common.{replicate}
use Rattle.jdata.specs.Limits.{most_atoms}
use Rattle.jstruct.proofs.FromLast.{item_there, item_missing, item_fits}
use Rattle.jstruct.proofs.ends.item_atoms.Goals as goal

pub returns-then-at-count-clause-atoms : goal.returns-then-at-count-clause-atoms
returns-then-at-count-clause-atoms c =
    IfOk-weaker c.filled.result _ _
    (λ l e. e ∙ ap (λ k. replicate c.args.size (fill_of k)) c.kind.ensures
    ∙ item_missing (atoms_in c.args.atoms) c.args.at c.args.size c.args.count (fill_of (kind_in c.args.atoms)) c.if-at-count.true c.requires.whole)
    c.filled.ensures.atoms

pub overflow_mul-at : goal.overflow_mul-at
overflow_mul-at c = omega (arith, item_fits c.args.at c.args.size c.args.count most_atoms c.if-at-count.false c.requires.bound)

pub copy_range-requires : goal.copy_range-requires
copy_range-requires c = omega (arith, item_fits c.args.at c.args.size c.args.count (length (atoms_in c.args.atoms)) c.if-at-count.false (omega (arith, c.requires.whole)))

pub returns-clause-atoms : goal.returns-clause-atoms
returns-clause-atoms c =
    IfOk-weaker c.copy_range.result _ _
    (λ l e. e ∙ item_there (atoms_in c.args.atoms) c.args.at c.args.size c.args.count (fill_of (kind_in c.args.atoms)) c.if-at-count.false c.requires.whole)
    c.copy_range.ensures.atoms
