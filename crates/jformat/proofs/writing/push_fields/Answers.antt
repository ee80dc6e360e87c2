use Rattle.std.proofs.Common.{◌≡◌, get_or, pos, refl, arith, w64, to_z, of_z, rules}
use Rattle.std.proofs.lemmas.Int.{to_z-of_z}
use Rattle.jformat.proofs.Grid.{field_more}
use Rattle.jformat.proofs.writing.push_fields.Goals as goal

pub loop-column-preserved : goal.loop-column-preserved
loop-column-preserved c =
    let widths = c.args.widths.now in
    let numbers = c.args.numbers.now in
    let j = c.loop-column.column in
    let n = get_or numbers j (pos 0) in
    let whole : to_z w64 (of_z w64 n) ≡ n = to_z-of_z w64 n (search rules) in
    field_more widths numbers j (get_or widths j 0) (to_z w64 (of_z w64 n)) c.args.out.now.items c.loop-column.out.items c.push_gap.new.out.items c.push_field.new.out.items (omega arith) refl whole c.loop-column.invariant c.in_ok-push_gap.ensures c.in_ok-push_field.ensures
