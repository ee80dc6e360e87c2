use Rattle.std.proofs.Common.{◌≡◌, ◌∙◌}
use Rattle.jplan.specs.Plans.{rest}
use Rattle.jplan.specs.Several.{several, several_cells, several_of}
use Rattle.jplan.specs.declared.parts.Parts.TheVariants as parts
use Rattle.jplan.proofs.Going.{with_ok, cells_are}
use Rattle.jplan.proofs.several.several_cells.Goals as goal

pub returns-in-Ok : goal.returns-in-Ok
returns-in-Ok c =
    let u = c.args.verb.now in
    let a = c.in-Ok.cells in
    let (same, right_is, x_is, y_is) = c.in-Ok.ensures.ok in
    let is = cells_are u a c.args.left c.args.right c.args.x c.args.y same right_is x_is y_is in
    with_ok (λ p. rest p ≡ several u (several_of (parts.Cells a))) (λ p. rest p ≡ several_cells u c.args.left c.args.right c.args.x c.args.y) c.several.result (λ p e. e ∙ is) c.several.ensures
