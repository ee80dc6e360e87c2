use Rattle.std.proofs.Common.{subst, map}
use Rattle.std.specs.List.{range_with_len}
use Rattle.jdata.specs.Firsts.{all_or_first}
use Rattle.jdata.specs.Noun.{product}
use Rattle.jframe.specs.Cells.{Parted, nth_cell}
use Rattle.jeval.specs.Made.{Answers}
use Rattle.jeval.specs.Targets as targets
use Rattle.jeval.proofs.targets.opened_items.Goals as goal

pub returns-in-Ok : goal.returns-in-Ok
returns-in-Ok c =
    subst (λ (p : Parted). Answers (all_or_first (map (λ i. targets.opened (nth_cell p.cell c.args.y.now.noun i)) (range_with_len 0 (product p.frame)))) c.each_opened.result) c.in-Ok.ensures.parted c.each_opened.ensures
