use Rattle.std.proofs.Common.{arith, ap, sym, ◌∙◌, ◌++◌, ◌/◌, length}
use Rattle.std.proofs.lemmas.Result.{on_ok_weaker}
use Rattle.jamend.proofs.Replaced.{whole_parts, whole_times, part_of, again}
use Rattle.jamend.proofs.replacing.push_cell.Goals as goal

pub nonzero_rem-part : goal.nonzero_rem-part
nonzero_rem-part g c = (whole_parts c.args.size (length c.args.items.now) c.requires.sized c.requires.some (omega (arith, c.if-size-items.true)) c.requires.parts).0

pub returns-then-size-items : goal.returns-then-size-items
returns-then-size-items g c =
    let n = length c.args.items.now in
    let whole = (whole_parts c.args.size n c.requires.sized c.requires.some (omega (arith, c.if-size-items.true)) c.requires.parts).1 in
    let same = c.run.ensures ∙ sym (part_of g.T.Item.blank c.args.items.now c.args.size c.args.place (n / c.args.size) c.requires.some whole) in
    on_ok_weaker c.push_copies.result (λ h. h ∙ ap (λ l. c.args.into.now.items ++ l) same) c.push_copies.ensures

pub returns-else-size-items : goal.returns-else-size-items
returns-else-size-items g c =
    let n = length c.args.items.now in
    let whole = whole_times c.args.size n c.requires.some (omega (arith, c.if-size-items.false)) c.requires.parts in
    let same = sym (again g.T.Item.blank c.args.items.now c.args.size c.args.place (c.args.size / n) c.requires.some whole) in
    on_ok_weaker c.push_times.result (λ h. h ∙ ap (λ l. c.args.into.now.items ++ l) same) c.push_times.ensures
