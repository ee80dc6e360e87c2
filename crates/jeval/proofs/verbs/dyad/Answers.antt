use Rattle.std.proofs.Common.{subst}
use Rattle.jarray.specs.Placed.{Gives}
use Rattle.jdata.specs.declared.noun.Noun.{Noun}
use Rattle.jeval.specs.Verbs.{dyad}
use Rattle.jeval.proofs.Kernels.{ended_answers}
use Rattle.jeval.proofs.verbs.dyad.Goals as goal

pub returns : goal.returns
returns c =
    let P : Noun → Type 0 = λ x. Gives (dyad c.args.verb x c.into_array-2.result.noun) c.dyad.result in
    let Q : Noun → Type 0 = λ y. Gives (dyad c.args.verb c.args.x y) c.dyad.result in
    ended_answers (dyad c.args.verb c.args.x c.args.y) c.dyad.result c.ended.result (subst Q c.into_array-2.ensures (subst P c.into_array.ensures c.dyad.ensures.answer)) c.ended.ensures
