use Rattle.std.proofs.Common.{◌≡◌, ◌<◌, ◌++◌, ◌∷◌, [], ◌∙◌, sym, ap, arith, rules, length, take, drop, get_or}
use Rattle.std.specs.Prelude.{pos}
use Rattle.std.proofs.lemmas.Int.{to_z-of_z}
use Rattle.std.proofs.lemmas.List.{take_more, take_all, take_rest, length-take}
use mir.Syntax.{w64}
use Rattle.jstruct.specs.Laying.{axes_after, length_after}
use Rattle.jstruct.proofs.Planning.{axes_more, axes_rest}
use Rattle.jstruct.proofs.change.axes_after.Goals as goal

pub loop-i-preserved : goal.loop-i-preserved
loop-i-preserved c =
    let i = c.loop-i.i in
    let xs = c.args.numbers.now in
    let ns = c.args.axes.now in
    let x = get_or xs i (pos 0) in
    let n = get_or ns i 0 in
    let axis : i < length ns = omega arith in
    let long : length (take i xs) ≡ length (take i ns) = omega (arith, length-take i xs, length-take i ns) in
    let value = c.length_after.ensures ∙ ap (λ z. length_after c.args.change z n) (to_z-of_z w64 x (search rules)) in
    c.in_ok-push.ensures.items
    ∙ (λ k. c.loop-i.invariant k ++ value k ∷ [])
    ∙ sym (axes_more c.args.change (take i xs) (take i ns) x n long)
    ∙ (λ k. axes_after c.args.change (sym (take_more xs i (pos 0) c.loop-i-test.true) k) (sym (take_more ns i 0 axis) k))

pub returns : goal.returns
returns c =
    let i = c.loop-i.i in
    let xs = c.args.numbers.now in
    let ns = c.args.axes.now in
    let done : i ≡ length xs = omega (arith, c.loop-i-test.false, c.loop-i.auto.i-end) in
    c.in_ok-extend_from_slice.ensures.items
    ∙ ap (λ r. c.loop-i.changed.items ++ r) (take_rest ns (length xs))
    ∙ (λ k. (c.loop-i.invariant ∙ (λ j. axes_after c.args.change (take_all i xs c.loop-i-test.false j) (take (done j) ns))) k ++ drop (length xs) ns)
    ∙ axes_rest c.args.change xs ns c.requires
