use Rattle.std.proofs.Common.{Ok, Err, max, length, sym, ap, subst, ◌∙◌}
use Rattle.jdata.specs.Answers.{Answers}
use Rattle.jdata.specs.Noun.{shape, atoms, product}
use Rattle.jboxes.specs.Monads.{results}
use Rattle.jboxes.proofs.Opened.{results_count, results_are, assembled_is}
use Rattle.jboxes.proofs.verbs.disclose_boxes.Goals as goal

pub assemble-requires : goal.assemble-requires
assemble-requires c =
    let y = c.args.y.noun in
    let tree = c.in_ok-tree.tree in
    let are = results_are y tree _ _ c.in_ok-contents.contents.items c.in_ok-tree.ensures.value c.into_parts-boxes.ensures c.in_ok-contents.ensures in
    let along = c.in_ok-frame.ensures ∙ c.shape.ensures.value in
    ap length are ∙ ap (λ v. length (results (atoms v))) (sym c.in_ok-tree.ensures.value)
    ∙ results_count (atoms tree) (product (shape tree)) c.shape.ensures.array.whole ∙ ap (λ f. max (product f) 1) (sym along)

pub returns-in-Ok : goal.returns-in-Ok
returns-in-Ok c =
    let y = c.args.y.noun in
    let tree = c.in_ok-tree.tree in
    let are = results_are y tree _ _ c.in_ok-contents.contents.items c.in_ok-tree.ensures.value c.into_parts-boxes.ensures c.in_ok-contents.ensures in
    assembled_is y tree c.in_ok-frame.frame c.in_ok-contents.contents.items c.in_ok-tree.ensures.value (c.in_ok-frame.ensures ∙ c.shape.ensures.value) are ∙ c.in-Ok.ensures ∙ ap (λ p. Ok p.noun) (sym c.of.ensures)

pub returns : goal.returns
returns c =
    let y = c.args.y.noun in
    let tree = c.in_ok-tree.tree in
    let are = results_are y tree _ _ c.in_ok-contents.contents.items c.in_ok-tree.ensures.value c.into_parts-boxes.ensures c.in_ok-contents.ensures in
    subst (λ w. Answers w (Err c.in-Err.trouble)) (sym (assembled_is y tree c.in_ok-frame.frame c.in_ok-contents.contents.items c.in_ok-tree.ensures.value (c.in_ok-frame.ensures ∙ c.shape.ensures.value) are)) c.in-Err.ensures
