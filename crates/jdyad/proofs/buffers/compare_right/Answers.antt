use Rattle.std.proofs.Common.{sym, ap, ◌∙◌, length}
use Rattle.std.specs.Prelude.{Ok}
use Rattle.jdata.specs.Trees.{atoms_of}
use Rattle.jdata.specs.Leaf.{atoms_in}
use Rattle.jscalar.specs.Places.{by_place}
use Rattle.jdyad.proofs.Comparing.{pair_at}
use Rattle.jdyad.proofs.Verbs.{right_compared}
use Rattle.jdyad.proofs.buffers.compare_right.Goals as goal

pub returns-in-Ok : goal.returns-in-Ok
returns-in-Ok c =
    let ys = atoms_of c.args.ys.now in
    right_compared c.args.verb c.requires.comparison (atoms_in c.args.xs) c.args.cell ys (length ys)
    ∙ ap (λ l. by_place (pair_at c.args.verb (atoms_in c.args.xs) c.args.cell l) (length l)) (sym c.leaf.ensures.atoms)
    ∙ c.in-Ok.ensures ∙ ap (λ l. Ok l) (sym c.of.ensures)
