use Rattle.jdata.proofs.Spellings.{tells}
use Rattle.jdata.proofs.spelling.words_tell_verbs.Goals as goal

pub returns : goal.returns
returns c = tells
