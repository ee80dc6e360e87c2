use Rattle.std.proofs.Common.{subst}
use Rattle.jdata.specs.Answers.{Answers}
use Rattle.jsearch.proofs.Made.{first_steps}
use Rattle.jsearch.proofs.stepping.first_steps.Goals as goal

pub returns-in-len1-up : goal.returns-in-len1-up
returns-in-len1-up c = subst (λ m. Answers m c.step_list.result) (first_steps c.args.numbers.now c.in-len1-up.len_at_least) c.step_list.ensures
