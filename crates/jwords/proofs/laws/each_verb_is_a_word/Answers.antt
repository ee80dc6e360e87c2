use Rattle.jwords.proofs.VerbWords.{each_is_a_word}
use Rattle.jwords.proofs.laws.each_verb_is_a_word.Goals as goal

pub returns : goal.returns
returns c = each_is_a_word
