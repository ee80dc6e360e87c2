use Rattle.std.proofs.Common.{◌≡◌, drop}
use Rattle.jexplicit.specs.Body.{all_paired}
use Rattle.jexplicit.proofs.body.all_paired.Given as goal

abbrev pub invariant-loop-line : goal.invariant-loop-line
invariant-loop-line l = all_paired (drop l.line-index l.lines) ≡ all_paired l.lines
