use Rattle.std.proofs.Common.{arith, ap, subst, ◌∙◌, ◌≢◌, ℕ, pos, Some, Result}
use Rattle.jdata.specs.Noun.{product}
use Rattle.jdata.specs.declared.fault.Fault.{Fault}
use Rattle.jdata.specs.declared.noun.Noun.{Noun}
use Rattle.jarray.specs.Placed.{Gives}
use Rattle.jframe.specs.Assembly.{assembled}
use Rattle.jframe.specs.Cells.{nth_cell}
use Rattle.jframe.proofs.Firsts.{places_long}
use Rattle.jselect.specs.From as choosing
use Rattle.jprim.proofs.WithWhole.{look_gives, look_fails}
use Rattle.jprim.proofs.looking.cells_each.Goals as goal

pub finished-requires : goal.finished-requires
finished-requires c =
    let p = c.in-Ok.cells in
    let each : ℕ → Result Noun Fault = λ i. choosing.selected (nth_cell p.cell c.args.x.noun i) c.args.y.noun in
    let long = places_long each (product p.frame) c.in-Ok-look.results c.in-Ok-look.ensures in
    omega (arith, long, c.count.ensures, c.if-count-eq0.false, ap product c.frame.ensures)

pub returns-in-Ok-look : goal.returns-in-Ok-look
returns-in-Ok-look c =
    let p = c.in-Ok.cells in
    let some : product p.frame ≢ 0 = λ e. c.if-count-eq0.false (c.count.ensures ∙ e) in
    let whole = subst (λ f. Gives (assembled f c.in-Ok-look.results) c.finished.result) c.frame.ensures c.finished.ensures in
    look_gives (Some (pos 0)) choosing.selected c.args.x.noun c.args.y.noun p c.in-Ok-look.results c.finished.result c.in-Ok.ensures.parted c.shape-shape.ensures.array some c.in-Ok-look.ensures whole

pub returns : goal.returns
returns c =
    let p = c.in-Ok.cells in
    let some : product p.frame ≢ 0 = λ e. c.if-count-eq0.false (c.count.ensures ∙ e) in
    look_fails (Some (pos 0)) choosing.selected c.args.x.noun c.args.y.noun p c.in-Err-look.trouble c.in-Ok.ensures.parted c.shape-shape.ensures.array some c.in-Err-look.ensures
