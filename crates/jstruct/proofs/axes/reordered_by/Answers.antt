use Rattle.std.proofs.Common.{◌≡◌, ℕ, List, ◌∙◌, ap, sym, subst, length, map, Ok}
use Rattle.jdata.specs.Firsts.{and_then}
use Rattle.jdata.specs.Limits.{limited}
use Rattle.jdata.specs.Noun.{shape}
use Rattle.jarray.specs.Placed.{Gives}
use Rattle.jstruct.specs.Axes.{axis_named, last_axes, new_order, reordered}
use Rattle.jstruct.specs.Orders.{IsOrder}
use Rattle.jstruct.proofs.Ordering.{last_is_order, new_is_order}
use Rattle.jstruct.proofs.axes.reordered_by.Goals as goal

pub reordered-requires : goal.reordered-requires
reordered-requires c =
    let r = length c.shape-rank.result.now in
    let o = last_is_order r (map (axis_named r) c.args.numbers.now) c.in-Ok.last c.in-Ok.ensures in
    let e : c.as_slice.result.now ≡ new_order r c.in-Ok.last = c.as_slice.ensures.value ∙ c.in-Ok-new_order.ensures ∙ ap (new_order r) c.items.ensures in
    subst (λ (n : ℕ). IsOrder n c.as_slice.result.now) (ap length c.shape-rank.ensures.value)
    (subst (λ (l : List ℕ). IsOrder r l) (sym e) (new_is_order r c.in-Ok.last o))

pub returns : goal.returns
returns c =
    let y = c.args.y.now.noun in
    let r = length c.shape-rank.result.now in
    let rank : r ≡ length (shape y) = ap length c.shape-rank.ensures.value in
    let e : c.as_slice.result.now ≡ new_order (length (shape y)) c.in-Ok.last =
    c.as_slice.ensures.value ∙ c.in-Ok-new_order.ensures ∙ (λ i. new_order (rank i) (c.items.ensures i)) in
    let named : last_axes (length (shape y)) c.args.numbers.now ≡ Ok c.in-Ok.last = ap (λ n. last_axes n c.args.numbers.now) (sym rank) ∙ c.in-Ok.ensures in
    subst (λ m. Gives m c.reordered.result)
    (ap (λ l. limited (reordered l y)) e ∙ sym (ap (λ r. and_then r (λ last. limited (reordered (new_order (length (shape y)) last) y))) named))
    c.reordered.ensures
