use Rattle.std.proofs.Common.{◌≡◌, ◌∙◌, sym, ap, rules, Some}
use Rattle.jplan.specs.Arguments.{frame, x_in}
use Rattle.jplan.proofs.Parting.{y_begins, x_begins, is_repeated, is_within}
use Rattle.jplan.proofs.arguments.Arguments.get.Goals as goal

pub cell-requires-clause-some : goal.cell-requires-clause-some
cell-requires-clause-some c =
    let a = c.args.self.now in
    is_repeated a.right a.frame a.y c.args.at a.parted.y_is (y_begins a.left a.right (x_in a.x) a.y.value a.frame a.parted.frame_is) c.requires

pub cell-requires-clause-within : goal.cell-requires-clause-within
cell-requires-clause-within c =
    let a = c.args.self.now in
    is_within a.right a.frame a.y c.args.at a.parted.y_is (y_begins a.left a.right (x_in a.x) a.y.value a.frame a.parted.frame_is) c.requires

pub cell-requires-in-Some-clause-some : goal.cell-requires-in-Some-clause-some
cell-requires-in-Some-clause-some c =
    let a = c.args.self.now in
    let x = c.in-Some.x in
    let there : a.x ≡ Some x = search rules in
    is_repeated a.left a.frame x c.args.at (a.parted.x_is x there) (x_begins a.left a.right x.value a.y.value a.frame (ap (λ o. frame a.left a.right (x_in o) a.y.value) (sym there) ∙ a.parted.frame_is)) c.requires

pub cell-requires-in-Some-clause-within : goal.cell-requires-in-Some-clause-within
cell-requires-in-Some-clause-within c =
    let a = c.args.self.now in
    let x = c.in-Some.x in
    let there : a.x ≡ Some x = search rules in
    is_within a.left a.frame x c.args.at (a.parted.x_is x there) (x_begins a.left a.right x.value a.y.value a.frame (ap (λ o. frame a.left a.right (x_in o) a.y.value) (sym there) ∙ a.parted.frame_is)) c.requires
