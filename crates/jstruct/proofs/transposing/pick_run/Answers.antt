use Rattle.std.proofs.Common.{◌≡◌, ◌+◌, ◌*◌, ◌++◌, ◌∷◌, [], ◌∙◌, arith, ap, sym, get_or}
use Rattle.std.proofs.lemmas.List.{append-nil}
use Rattle.jstruct.proofs.Weighing.{run_more, whole_run, rows_picked, step_fits}
use Rattle.jstruct.proofs.transposing.pick_run.Goals as goal

pub overflow_mul-i : goal.overflow_mul-i
overflow_mul-i g c = omega (arith, step_fits c.loop-i.i c.args.axis c.args.weight c.loop-i-test.true c.requires.short c.requires.light)

pub overflow_add-start : goal.overflow_add-start
overflow_add-start g c = omega (arith, c.requires.near, step_fits c.loop-i.i c.args.axis c.args.weight c.loop-i-test.true c.requires.short c.requires.light)

pub loop-i-init : goal.loop-i-init
loop-i-init g c = sym (append-nil c.args.into.now.items)

pub loop-i-preserved : goal.loop-i-preserved
loop-i-preserved g c =
    let i = c.loop-i.i in
    c.in-Ok.ensures
    ∙ ap (λ l. l ++ get_or c.args.items.now (c.args.start + i * c.args.weight) g.T.Item.blank ∷ []) c.loop-i.invariant
    ∙ run_more g.T.Item.blank c.args.weight c.args.start i c.args.items.now c.args.into.now.items

pub returns : goal.returns
returns g c =
    let all : c.loop-i.i ≡ c.args.axis = omega arith in
    c.loop-i.invariant
    ∙ ap (λ n. c.args.into.now.items ++ rows_picked g.T.Item.blank c.args.weight [] [] c.args.start c.args.items.now n) all
    ∙ ap (λ l. c.args.into.now.items ++ l) (whole_run g.T.Item.blank c.args.axis c.args.weight c.args.start c.args.items.now)
