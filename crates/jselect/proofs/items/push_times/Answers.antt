use Rattle.std.proofs.Common.{◌++◌, ◌*◌, take, drop, ap, sym, ◌∙◌, replicate}
use Rattle.std.proofs.lemmas.List.{append_assoc, append-nil}
use Rattle.jselect.specs.Picking.{runs}
use Rattle.jselect.proofs.Runs.{runs_none, runs_again}
use Rattle.jselect.proofs.items.push_times.Goals as goal

pub loop-init : goal.loop-init
loop-init g c = sym (ap (λ l. c.args.into.now.items ++ l) (runs_none c.args.cell c.args.items.now) ∙ append-nil c.args.into.now.items)

pub loop-preserved : goal.loop-preserved
loop-preserved g c =
    let item = take c.args.cell (drop (c.args.place * c.args.cell) c.args.items.now) in
    let more = runs_again c.args.cell c.args.items.now c.loop.counter c.args.place in
    let was = append_assoc c.args.into.now.items (runs c.args.cell c.args.items.now (replicate c.loop.counter c.args.place)) item in
    c.in_ok-push_copies.ensures
    ∙ (λ i. c.loop.invariant i ++ c.run-item.ensures i)
    ∙ was
    ∙ ap (λ l. c.args.into.now.items ++ l) (sym more)
