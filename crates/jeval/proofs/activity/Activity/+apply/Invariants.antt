use Rattle.std.proofs.Common.{◌≡◌, ◌+◌, ◌*◌, ◌-◌, length}
use Rattle.std.specs.List.{range_with_len}
use Rattle.jdata.specs.Noun.{product}
use Rattle.juses.proofs.Doing.{Relations}
use Rattle.jeval.specs.Applying.{applied, nested, ran}
use Rattle.jeval.specs.Cells.{cells_done, on_cell, on_each}
use Rattle.jplan.specs.Arguments.{x_in}
use Rattle.jplan.specs.Plans.{rest, left_of}
use Rattle.jeval.proofs.Stages.{Stage}
use Rattle.jeval.proofs.activity.Activity.+apply.Given as goal

-- an application goes through its cells, each of which goes down to what the verb is made of and so through a plan,
-- which applies
abbrev pub decreases-apply : goal.decreases-apply
decreases-apply g l = 10 * l.levels + 4

abbrev pub decreases-at_ranks : goal.decreases-at_ranks
decreases-at_ranks g l = 10 * l.levels + 3

abbrev pub decreases-in_cells : goal.decreases-in_cells
decreases-in_cells g l = 10 * l.levels + 2

abbrev pub decreases-on_fills : goal.decreases-on_fills
decreases-on_fills g l = 10 * l.levels + 1

abbrev pub decreases-each_cell : goal.decreases-each_cell
decreases-each_cell g l = 10 * l.levels + 1

abbrev pub decreases-nest : goal.decreases-nest
decreases-nest g l = 10 * l.levels

abbrev pub decreases-descend : goal.decreases-descend
decreases-descend g l = 10 * l.levels + 9

abbrev pub decreases-unfold : goal.decreases-unfold
decreases-unfold g l = 10 * l.levels + 8

abbrev pub decreases-plan : goal.decreases-plan
decreases-plan g l = 10 * l.levels + 7

abbrev pub decreases-repeat : goal.decreases-repeat
decreases-repeat g l = 10 * l.levels + 5

abbrev pub decreases-follow : goal.decreases-follow
decreases-follow g l = 10 * l.levels + 6

abbrev pub invariant-follow-loop-at : goal.invariant-follow-loop-at
invariant-follow-loop-at g l = Stage record { leads = g.U.Uses.leads; refuses = g.U.Uses.refuses; stays = g.met.U.Uses.stays; joins = g.met.U.Uses.joins } l.fn.self (ran (applied l.levels) (rest l.fn.plan)) l.self (ran (applied l.levels) (rest l.at))

abbrev pub decreases-follow-loop-at : goal.decreases-follow-loop-at
decreases-follow-loop-at g l = left_of l.at

-- the cells that are left come behind the results so far
abbrev pub invariant-each_cell-loop-at : goal.invariant-each_cell-loop-at
invariant-each_cell-loop-at g l =
    let uses : Relations g.row.U.Denot = record { leads = g.U.Uses.leads; refuses = g.U.Uses.refuses; stays = g.met.U.Uses.stays; joins = g.met.U.Uses.joins } in
    let one = nested l.levels l.verb in
    let cell = on_cell one l.cells.left l.cells.right (x_in l.cells.x) l.cells.y.value l.cells.frame in
    Stage uses l.fn.self (on_each one l.cells.left l.cells.right (x_in l.cells.x) l.cells.y.value l.cells.frame) l.self (cells_done cell (range_with_len l.at (product l.cells.frame - l.at)) l.results) × (length l.results ≡ l.at)
