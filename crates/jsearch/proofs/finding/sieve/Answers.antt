use Rattle.std.proofs.Common.{Ok, ap}
use Rattle.std.proofs.lemmas.Result.{IfOk-weaker}
use Rattle.jsearch.proofs.Given.{given_gives}
use Rattle.jsearch.proofs.finding.sieve.Goals as goal

pub returns : goal.returns
returns c = given_gives _ _ _ c.given.ensures (IfOk-weaker c.sieve_of-flags.result _ _ (λ t e. ap Ok e) c.sieve_of-flags.ensures)
