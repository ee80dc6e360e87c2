use Rattle.std.proofs.Common.{◌≡◌, ℕ, ◌+◌, ◌-◌, [], ◌∷◌, ◌++◌, map, arith, ap, sym, ◌∙◌}
use Rattle.std.specs.List.{range_with_len}
use Rattle.std.proofs.lemmas.List.FromFn.{map-range_with_len_more}
use Rattle.jdata.specs.Noun.{greatest}
use Rattle.jframe.specs.Joining.{axis_given}
use Rattle.jframe.proofs.items.item_axes.Goals as goal

pub loop-axis-preserved : goal.loop-axis-preserved
loop-axis-preserved c =
    let f : ℕ → ℕ = λ axis. greatest (map (axis_given c.args.rank axis) c.args.arrays.now) in
    let i = c.loop-axis.axis in
    let last : 1 + (i - 1) ≡ i = omega arith in
    let next : (i - 1) + 1 ≡ (i + 1) - 1 = omega arith in
    c.in_ok-push.ensures.items
    ∙ (λ k. c.loop-axis.invariant k ++ c.greatest_given.ensures k ∷ [])
    ∙ sym (map-range_with_len_more f 1 (i - 1) i last)
    ∙ ap (λ n. map f (range_with_len 1 n)) next
