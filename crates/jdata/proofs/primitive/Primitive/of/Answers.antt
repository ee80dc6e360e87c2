use Rattle.jdata.specs.Spelling.{verb_of}
use Rattle.jdata.proofs.Spellings.{told}
use Rattle.jdata.proofs.primitive.Primitive.of.Goals as goal

pub returns : goal.returns
unfolding verb_of
returns c = record { value = c.first_spelled.ensures; spelled = told c.args.word.now _ c.first_spelled.ensures }
