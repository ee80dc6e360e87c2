use Rattle.std.proofs.Common.{sym, ap, ◌∙◌, length}
use Rattle.std.specs.Prelude.{Ok}
use Rattle.jdata.specs.Trees.{atoms_of}
use Rattle.jdata.specs.Leaf.{atoms_in}
use Rattle.jscalar.specs.Places.{by_place}
use Rattle.jdyad.proofs.Comparing.{pair_at}
use Rattle.jdyad.proofs.Verbs.{left_compared}
use Rattle.jdyad.proofs.buffers.compare_left.Goals as goal

pub returns-in-Ok : goal.returns-in-Ok
returns-in-Ok c =
    let xs = atoms_of c.args.xs.now in
    left_compared c.args.verb c.requires.comparison xs (atoms_in c.args.ys) c.args.cell (length xs)
    ∙ ap (λ l. by_place (pair_at c.args.verb (atoms_in c.args.ys) c.args.cell l) (length l)) (sym c.leaf.ensures.atoms)
    ∙ c.in-Ok.ensures ∙ ap (λ l. Ok l) (sym c.of.ensures)
