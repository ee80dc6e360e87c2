use Rattle.jsearch.proofs.Alike.{integers_match, characters_match}
use Rattle.jsearch.proofs.laws.equal_items_match.Goals as goal

pub returns-clause-integers : goal.returns-clause-integers
returns-clause-integers c = integers_match

pub returns-clause-characters : goal.returns-clause-characters
returns-clause-characters c = characters_match
