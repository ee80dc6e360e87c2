use Rattle.std.proofs.Common.{◌≡◌, drop}
use Rattle.jexplicit.specs.Body.{names}
use Rattle.jexplicit.proofs.body.names.Given as goal

abbrev pub invariant-loop-line : goal.invariant-loop-line
invariant-loop-line l = names l.letters (drop l.line-index l.lines) ≡ names l.letters l.lines
