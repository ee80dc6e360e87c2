use Rattle.std.proofs.Common.{subst, ◌∙◌, arith, ◌<◌}
use Rattle.jdata.specs.Answers.{Answers}
use Rattle.jarray.specs.Placed.{noun_in}
use Rattle.jboxes.proofs.Wording.{worded_nothing, not_text}
use Rattle.jboxes.proofs.texts.words_of_others.Goals as goal

pub returns-then-count-eq0 : goal.returns-then-count-eq0
returns-then-count-eq0 c = λ y many others. subst (λ m. Answers m (noun_in c.words_in.result)) (worded_nothing y (many ∙ c.if-count-eq0.true)) c.words_in.ensures

pub returns-else-count-eq0 : goal.returns-else-count-eq0
returns-else-count-eq0 c = λ y many others. not_text y (others (omega arith))
