use Rattle.std.proofs.Common.{◌≡◌, ◌≤◌, arith, rules, ap, ◌∙◌, length, drop}
use Rattle.std.proofs.lemmas.List.{take_rest}
use Rattle.jdata.specs.Limits.{most_atoms}
use Rattle.jdata.specs.Noun.{product}
use Rattle.jsearch.proofs.Made.{row_below, row_bound}
use Rattle.jsearch.proofs.counting.+place_turned.Goals as goal

pub turned-requires : goal.turned-requires
turned-requires t c =
    let some : 1 ≤ length c.args.axes.now = first_of (search rules, grind arith, grind (arith, c.in-len1-up-len1-up)) in
    let cell : c.product_of-cell.result ≡ product (drop 1 c.args.axes.now) = c.product_of-cell.ensures ∙ ap product (take_rest c.args.axes.now 1) in
    row_below c.args.axes.now c.args.place c.product_of-cell.result c.requires.within some cell

pub row_place-requires-clause-bound : goal.row_place-requires-clause-bound
row_place-requires-clause-bound t c =
    let some : 1 ≤ length c.args.axes.now = first_of (search rules, grind arith, grind (arith, c.in-len1-up-len1-up)) in
    let cell : c.product_of-cell.result ≡ product (drop 1 c.args.axes.now) = c.product_of-cell.ensures ∙ ap product (take_rest c.args.axes.now 1) in
    row_bound most_atoms c.args.axes.now c.product_of-cell.result c.requires.bound some cell
