use Rattle.std.proofs.Common.{arith, ap, sym, ◌∙◌, ◌≡◌, ◌++◌, ◌∷◌, [], map, get_or}
use Rattle.std.proofs.lemmas.List.FromFn.{map-range_with_len_more}
use Rattle.std.specs.List.{range_with_len}
use Rattle.jdata.specs.Noun.{shape, greatest}
use Rattle.jframe.specs.Assembly as whole
use Rattle.jframe.proofs.common.common_axes.Goals as goal

pub loop-axis-preserved : goal.loop-axis-preserved
loop-axis-preserved c =
    let before = map (whole.greatest_on c.args.results.now) (range_with_len 0 c.loop-axis.axis) in
    let here : c.greatest_on.result ≡ whole.greatest_on c.args.results.now c.loop-axis.axis = c.greatest_on.ensures ∙ ap (λ r. greatest (map (λ v. get_or (whole.raised r (shape v)) c.loop-axis.axis 1) c.args.results.now)) c.greatest_rank-rank.ensures in
    c.in_ok-push.ensures.items ∙ ap (λ l. l ++ c.greatest_on.result ∷ []) c.loop-axis.invariant ∙ ap (λ x. before ++ x ∷ []) here
    ∙ sym (map-range_with_len_more (whole.greatest_on c.args.results.now) 0 c.loop-axis.axis c.loop-axis.axis (omega arith))
