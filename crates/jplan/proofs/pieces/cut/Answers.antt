use Rattle.std.proofs.Common.{subst, Option}
use Rattle.jdata.specs.Answers.{Answers}
use Rattle.jdata.specs.declared.noun.Noun.{Noun}
use Rattle.jcut.specs.Parted.{Parted}
use Rattle.jcut.specs.declared.cutting.Cutting.{Cutting}
use Rattle.jplan.specs.Pieces.{cut_number, cutting_by, intervals}
use Rattle.jplan.specs.Trains.{noun_in}
use Rattle.jplan.proofs.pieces.cut.Goals as goal

pub returns : goal.returns
returns c =
    let k = cutting_by (cut_number (noun_in c.args.number.now)) in
    let here = subst (λ (v : Noun). Answers {Value = Parted} (intervals c.in_ok-cutting.cutting c.args.x v) c.intervals-pieces.result) c.into_array.ensures c.intervals-pieces.ensures in
    let came = subst (λ (o : Option Cutting). Answers {Value = Parted} (intervals o c.args.x c.args.y) c.intervals-pieces.result) c.in_ok-cutting.ensures here in
    c.on_each.ensures (intervals k c.args.x c.args.y) came
