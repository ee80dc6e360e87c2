use Rattle.std.proofs.Common.{◌≡◌, ◌∙◌, ◌++◌, ◌∷◌, [], sym, arith, get_or}
use Rattle.std.specs.Prelude.{pos}
use Rattle.std.proofs.lemmas.Int.{ints}
use Rattle.std.proofs.lemmas.List.{map_more}
use mir.Syntax.{w64}
use mir.Val.{to_z}
use Rattle.jstruct.proofs.Counting.{axis_at_most}
use Rattle.jstruct.proofs.shaping.axis_numbers.Goals as goal

pub overflow_cast-axis : goal.overflow_cast-axis
overflow_cast-axis c = omega (arith, ints, axis_at_most c.args.axes.now c.loop-axis.axis-index, c.requires.extent_at_most)

pub loop-axis-preserved : goal.loop-axis-preserved
loop-axis-preserved c =
    let i = c.loop-axis.axis-index in
    let axes = c.args.axes.now in
    let value : to_z w64 (get_or axes i 0) ≡ pos (get_or axes i 0) = omega (arith, ints, axis_at_most axes i, c.requires.extent_at_most) in
    c.in_ok-push.ensures.items ∙ (λ k. c.loop-axis.invariant k ++ value k ∷ []) ∙ sym (map_more pos axes i 0 c.loop-axis-test.true)
