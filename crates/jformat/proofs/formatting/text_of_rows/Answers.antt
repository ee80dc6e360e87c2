use Rattle.std.proofs.Common.{◌≤◌, ◌+◌, ◌*◌, map, arith}
use Rattle.std.proofs.lemmas.Nat.{row_fits}
use Rattle.jnumber.specs.Spelling.{written}
use Rattle.jformat.specs.Rows.{integer_row}
use Rattle.jformat.proofs.Ranges.{made_more}
use Rattle.jformat.proofs.LaidOut.{widths_match, row_is}
use Rattle.jformat.proofs.formatting.text_of_rows.Goals as goal

pub atoms_of_row-requires : goal.atoms_of_row-requires
atoms_of_row-requires c =
    let fits : c.loop-row.row * c.args.columns + c.args.columns ≤ c.args.rows * c.args.columns = row_fits c.loop-row.row c.args.columns c.args.rows c.args.columns c.loop-row-test.true (omega arith) in
    omega (arith, fits, c.requires.room)

pub push_fields-requires : goal.push_fields-requires
push_fields-requires c =
    let fits : c.loop-row.row * c.args.columns + c.args.columns ≤ c.args.rows * c.args.columns = row_fits c.loop-row.row c.args.columns c.args.rows c.args.columns c.loop-row-test.true (omega arith) in
    widths_match c.args.numbers.now c.atoms_of_row.result.now c.args.widths.now c.args.rows c.args.columns c.loop-row.row c.loop-row-test.true (omega (arith, fits, c.requires.room)) c.requires.widths c.atoms_of_row.ensures

pub loop-row-preserved : goal.loop-row-preserved
loop-row-preserved c =
    let fits : c.loop-row.row * c.args.columns + c.args.columns ≤ c.args.rows * c.args.columns = row_fits c.loop-row.row c.args.columns c.args.rows c.args.columns c.loop-row-test.true (omega arith) in
    made_more (integer_row (map written c.args.numbers.now) c.args.rows c.args.columns) c.loop-row.row c.loop-row.text.items _ c.push_fields.new.out.items c.loop-row.invariant c.in_ok-push_fields.ensures
    (row_is c.args.numbers.now c.atoms_of_row.result.now c.args.widths.now c.args.rows c.args.columns c.loop-row.row c.loop-row-test.true (omega (arith, fits, c.requires.room)) c.requires.widths c.atoms_of_row.ensures)
