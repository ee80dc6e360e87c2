use Rattle.std.proofs.Common.{◌≡◌, drop}
use Rattle.jwords.specs.Trim.{without_leading}
use Rattle.jwords.proofs.trim.without_leading.Given as goal

abbrev pub invariant-loop-i : goal.invariant-loop-i
invariant-loop-i l = without_leading l.text ≡ without_leading (drop l.i l.text)
