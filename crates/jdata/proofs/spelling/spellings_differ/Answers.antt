use Rattle.jdata.proofs.Spellings.{differ}
use Rattle.jdata.proofs.spelling.spellings_differ.Goals as goal

pub returns : goal.returns
returns c = differ
