use Rattle.std.proofs.Common.{◌≡◌, ◌≢◌, ◌++◌, ◌==◌, cond, ℕ, length, map, take, drop, get_or, ap, ◌∙◌, arith}
use Rattle.std.specs.List.{range_with_len}
use Rattle.std.proofs.lemmas.Bool.Decides.{nat_tests}
use Rattle.std.proofs.lemmas.List.{take_at}
use Rattle.std.proofs.lemmas.List.FromFn.{fill_by_all}
use Rattle.jnumber.specs.Spelling.{written}
use Rattle.jformat.specs.Rows.{width_of}
use Rattle.jformat.proofs.Grid.{widened}
use Rattle.jformat.proofs.widths.column_widths.Goals as goal

some_rows : (rows columns : ℕ) → rows ≢ 0 → columns ≡ cond (rows == 0) 0 columns
some_rows rows columns h = grind (arith, nat_tests)

pub loop-row-preserved : goal.loop-row-preserved
loop-row-preserved c =
    let l = c.loop-row in
    let numbers = c.args.numbers.now in
    let columns = c.args.columns in
    let new = c.widen.new.widths in
    let same : take l.widths.len (new ++ drop (length new) l.widths.items) ≡ new = take_at new (drop (length new) l.widths.items) l.widths.len (omega arith) in
    record {
      all = ap length same ∙ omega arith;
      so_far = λ j h. ap (λ x. get_or x j 0) same
          ∙ widened numbers columns l.row j l.widths.items c.as_mut_slice.result.now new c.atoms_of_row.result.now h c.as_mut_slice.ensures.value c.atoms_of_row.ensures (c.widen.ensures j (omega (arith, h))) (l.invariant.so_far j h);
    }

pub returns : goal.returns
returns c =
    let l = c.loop-row in
    let texts = map written c.args.numbers.now in
    let columns = c.args.columns in
    let end : l.row ≡ c.args.rows = omega arith in
    fill_by_all (width_of texts c.args.rows columns) l.widths.items columns 0 l.invariant.all (λ k h. l.invariant.so_far k h ∙ ap (λ r. width_of texts r columns k) end)
    ∙ ap (λ n. map (width_of texts c.args.rows columns) (range_with_len 0 n)) (some_rows c.args.rows columns c.if-rows-eq0.false)
