use Rattle.std.proofs.Common.{sym, ◌∙◌, arith}
use Rattle.jyard.proofs.Fillings.{all_same}
use Rattle.jyard.proofs.rows.nones.Goals as goal

pub returns : goal.returns
returns g c = let kept = c.loop-i.invariant in let long = c.loop-i.row.ok.0 in let through = c.loop-i-test.false in (c.of.ensures.1 ∙ all_same _ _ _ _ (sym long ∙ kept.1) (λ k lt. kept.4 k (omega (arith, lt, kept.0, through))), c.of.ensures.0 ∙ kept.2)
