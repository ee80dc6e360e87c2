use Rattle.jterm.specs.Acts.{adverb_of}
use Rattle.jeval.specs.Makings.{operand}
use Rattle.jeval.proofs.Makings.{goes_with, stops_with}
use Rattle.jeval.proofs.building.made_adverb.Goals as goal

pub returns-in_err-left : goal.returns-in_err-left
returns-in_err-left c = stops_with (operand c.args.left) _ c.from_residual.result (adverb_of c.args.word) c.from_residual.ensures c.in_err-left.ensures

pub returns : goal.returns
returns c = goes_with (operand c.args.left) c.in_ok-left.left c.ended.result (adverb_of c.args.word) c.in_ok-left.ensures (c.ended.ensures (adverb_of c.args.word c.in_ok-left.left) c.adverb.ensures.value)
