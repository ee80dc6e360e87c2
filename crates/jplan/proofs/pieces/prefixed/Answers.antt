use Rattle.std.proofs.Common.{subst}
use Rattle.jdata.specs.Answers.{Answers}
use Rattle.jdata.specs.declared.noun.Noun.{Noun}
use Rattle.jcut.specs.Parted.{Parted}
use Rattle.jplan.specs.Pieces.{prefix_pieces}
use Rattle.jplan.proofs.pieces.prefixed.Goals as goal

pub returns : goal.returns
returns c =
    let came = subst (λ (v : Noun). Answers {Value = Parted} (prefix_pieces c.args.x v) c.prefix_pieces-pieces.result) c.into_array.ensures c.prefix_pieces-pieces.ensures in
    c.on_each.ensures (prefix_pieces c.args.x c.args.y) came
