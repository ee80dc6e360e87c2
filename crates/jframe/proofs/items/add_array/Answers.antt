use Rattle.std.proofs.Common.{◌≡◌, ◌+◌, ◌∷◌, ◌++◌, suc, true, false, length, map, arith, ap, sym, ◌∙◌}
use Rattle.std.proofs.lemmas.Bool.{lt-ltb, le-ltb, eqb-true, eqb-false}
use Rattle.std.proofs.lemmas.Result.{on_ok_weaker}
use Rattle.jdata.specs.Noun.{shape}
use Rattle.jframe.specs.Blocks.{block_axes}
use Rattle.jframe.specs.Joining.{has_axes, items_given}
use Rattle.jframe.proofs.Blocks.{block_of_array, block_of_atom}
use Rattle.jframe.proofs.items.add_array.Goals as goal

pub returns : goal.returns
returns g c =
    let item = c.args.item.now in
    let v = c.args.tree in
    let long = ap length c.shape.ensures.value in
    let some = eqb-false _ _ (sym c.is_empty.ensures ∙ c.if-is_empty.false) in
    let has : has_axes v ≡ true = lt-ltb 0 (length (shape v)) (omega (arith, long, some)) in
    let rank : length item + 1 ≡ suc (length item) = omega arith in
    let e : c.as_slice.result.now ≡ block_axes item v =
    c.as_slice.ensures.value ∙ c.in_ok-axes.ensures ∙ ap (λ n. n ∷ item) (c.items_given-count.ensures.value ∙ ap (λ r. items_given r v) rank) in
    on_ok_weaker c.add.result
    (λ h. h ∙ ap (λ l. map g.T.Item.atom c.args.items.now.items ++ l) (block_of_array g.T.Item.kind item c.as_slice.result.now v has e))
    c.add.ensures

pub returns-then-is_empty : goal.returns-then-is_empty
returns-then-is_empty g c =
    let item = c.args.item.now in
    let v = c.args.tree in
    let long = ap length c.shape.ensures.value in
    let none = eqb-true _ _ (sym c.is_empty.ensures ∙ c.if-is_empty.true) in
    let has : has_axes v ≡ false = le-ltb 0 (length (shape v)) (omega (arith, long, none)) in
    on_ok_weaker c.add_atom.result
    (λ h. h ∙ ap (λ l. map g.T.Item.atom c.args.items.now.items ++ l) (block_of_atom g.T.Item.kind item v c.product_of.result has c.shape.ensures.array c.product_of.ensures))
    c.add_atom.ensures
