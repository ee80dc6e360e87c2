use Rattle.std.proofs.Common.{ap, ◌∙◌}
use Rattle.jselect.specs.Items.{item_count}
use Rattle.jcut.specs.Runs.{outside, Fits}
use Rattle.jcut.proofs.Pieced.{nth_mapped, holds_at}
use Rattle.jcut.proofs.pieces.piece_outside.Goals as goal

pub items_outside-requires : goal.items_outside-requires
items_outside-requires c = holds_at (Fits (item_count c.args.whole.now.noun)) c.args.runs.now c.args.number c.nth_run-run.result c.requires.within c.requires.number c.nth_run-run.ensures

pub returns : goal.returns
returns c =
    nth_mapped (outside (item_count c.args.whole.now.noun)) c.args.whole.now.noun c.args.runs.now c.args.number c.nth_run-run.result _ c.nth_run-run.ensures
    (ap (λ a. a.noun) c.of.ensures ∙ c.in_ok-piece.ensures)
