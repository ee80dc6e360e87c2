use Rattle.std.proofs.Common.{subst}
use Rattle.jarray.specs.Placed.{Gives}
use Rattle.jdata.specs.declared.noun.Noun.{Noun}
use Rattle.jeval.specs.Verbs.{monad}
use Rattle.jeval.proofs.Kernels.{ended_answers}
use Rattle.jeval.proofs.verbs.monad.Goals as goal

pub returns : goal.returns
returns c =
    let P : Noun → Type 0 = λ y. Gives (monad c.args.verb y) c.monad.result in
    ended_answers (monad c.args.verb c.args.y) c.monad.result c.ended.result (subst P c.into_array.ensures c.monad.ensures.answer) c.ended.ensures
