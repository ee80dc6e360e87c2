use Rattle.jsearch.proofs.Given.{given_gives}
use Rattle.jsearch.proofs.finding.last_index_of.Goals as goal

pub returns : goal.returns
returns c = given_gives _ _ _ c.given.ensures c.last_indexes-found.ensures
