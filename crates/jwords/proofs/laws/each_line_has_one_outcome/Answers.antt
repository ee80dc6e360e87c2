use Rattle.jwords.proofs.FormedWords.{each_line_has_one_outcome}
use Rattle.jwords.proofs.laws.each_line_has_one_outcome.Goals as goal

pub returns : goal.returns
returns c = each_line_has_one_outcome
