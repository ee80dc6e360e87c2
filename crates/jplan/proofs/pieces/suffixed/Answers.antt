use Rattle.std.proofs.Common.{subst}
use Rattle.jdata.specs.Answers.{Answers}
use Rattle.jdata.specs.declared.noun.Noun.{Noun}
use Rattle.jcut.specs.Parted.{Parted}
use Rattle.jplan.specs.Pieces.{suffix_pieces}
use Rattle.jplan.proofs.pieces.suffixed.Goals as goal

pub returns : goal.returns
returns c =
    let came = subst (λ (v : Noun). Answers {Value = Parted} (suffix_pieces c.args.x v) c.suffix_pieces-pieces.result) c.into_array.ensures c.suffix_pieces-pieces.ensures in
    c.on_each.ensures (suffix_pieces c.args.x c.args.y) came
