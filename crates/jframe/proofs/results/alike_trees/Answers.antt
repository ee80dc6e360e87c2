use Rattle.std.proofs.Common.{arith, sym, ap, ◌∙◌, ◌≡◌, ◌*◌, ◌++◌, ◌∷◌, [], take, drop}
use Rattle.jdata.specs.Leaf.{kind_in, atoms_in}
use Rattle.jdata.specs.Noun.{noun}
use Rattle.jframe.proofs.Alike.{alike_none, alike_next, range_ends, range_fits}
use Rattle.jframe.proofs.results.alike_trees.Goals as goal

pub loop-at-init : goal.loop-at-init
loop-at-init c = c.new-trees.ensures.items ∙ sym (alike_none c.args.axes.now (kind_in c.args.atoms) (atoms_in c.args.atoms))

pub overflow_mul-at : goal.overflow_mul-at
overflow_mul-at c =
    omega (arith, range_fits c.args.axes.now c.args.count c.loop-at.at c.product_of-size.result c.product_of-size.ensures c.requires.shape c.requires.few c.loop-at-test.true)

pub cell_of-requires-clause-within : goal.cell_of-requires-clause-within
cell_of-requires-clause-within c =
    range_ends c.args.axes.now c.args.count c.loop-at.at c.product_of-size.result _ c.product_of-size.ensures c.requires.whole c.loop-at-test.true

pub loop-at-preserved : goal.loop-at-preserved
loop-at-preserved c =
    let axes = c.args.axes.now in
    let here = c.in_ok-cell_of.ensures ∙ ap (λ m. noun axes (kind_in c.args.atoms) (take m (drop (c.loop-at.at * m) (atoms_in c.args.atoms)))) c.product_of-size.ensures in
    c.in_ok-push.ensures.items ∙ (λ i. c.loop-at.invariant i ++ here i ∷ [])
    ∙ sym (alike_next axes (kind_in c.args.atoms) (atoms_in c.args.atoms) c.loop-at.at)
