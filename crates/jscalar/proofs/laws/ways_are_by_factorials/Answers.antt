use Rattle.jscalar.proofs.LawProofs.{ways_are_by_factorials}
use Rattle.jscalar.proofs.laws.ways_are_by_factorials.Goals as goal

pub returns : goal.returns
returns c = ways_are_by_factorials
