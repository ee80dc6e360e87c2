use Rattle.std.proofs.Common.{Ok, Err, length, arith, sym, ap, subst, ◌∙◌}
use Rattle.std.proofs.lemmas.List.{length-map}
use Rattle.jdata.specs.Answers.{Answers}
use Rattle.jdata.specs.Noun.{atoms}
use Rattle.jdata.proofs.Arrays.{few_atoms}
use Rattle.jframe.specs.Joining.{items_joined}
use Rattle.jboxes.specs.Monads.{content_of}
use Rattle.jboxes.proofs.Linked.{contents_are}
use Rattle.jboxes.proofs.verbs.raze_boxes.Goals as goal

pub join_arrays-requires : goal.join_arrays-requires
join_arrays-requires c =
    let tree = c.in_ok-tree.tree in
    let are = contents_are tree tree _ _ c.in_ok-contents.contents.items (λ i. tree) c.into_parts-boxes.ensures c.in_ok-contents.ensures in
    let long = ap length are ∙ length-map (atoms tree) content_of in
    let few = few_atoms tree c.shape-axes.ensures.array in
    omega (arith, long, few)

pub returns-in-Ok : goal.returns-in-Ok
returns-in-Ok c =
    let are = contents_are c.args.y.noun c.in_ok-tree.tree _ _ c.in_ok-contents.contents.items c.in_ok-tree.ensures.value c.into_parts-boxes.ensures c.in_ok-contents.ensures in
    ap items_joined (sym are) ∙ c.in-Ok.ensures ∙ ap (λ p. Ok p.noun) (sym c.of.ensures)

pub returns-in-Err : goal.returns-in-Err
returns-in-Err c =
    let are = contents_are c.args.y.noun c.in_ok-tree.tree _ _ c.in_ok-contents.contents.items c.in_ok-tree.ensures.value c.into_parts-boxes.ensures c.in_ok-contents.ensures in
    subst (λ v. Answers (items_joined v) (Err c.in-Err.trouble)) are c.in-Err.ensures
