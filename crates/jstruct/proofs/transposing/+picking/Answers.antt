use Rattle.std.proofs.Common.{◌≡◌, ◌≤◌, ◌+◌, ◌*◌, ◌^◌, ◌++◌, ◌∙◌, ℕ, arith, rules, ap, sym, length, get_or}
use Rattle.std.proofs.lemmas.Bool.{eqb-true}
use Rattle.std.proofs.lemmas.Result.{on_ok_weaker}
use Rattle.std.proofs.lemmas.List.{append-nil}
use Rattle.jdata.specs.Limits.{most_atoms}
use Rattle.jstruct.specs.Weights.{picked}
use Rattle.jstruct.proofs.Stretches.{rest}
use Rattle.jstruct.proofs.Weighing.{picked_one, picked_run, rows_more, all_rows, rows_picked, rest_short, rest_long, step_fits}
use Rattle.jstruct.proofs.transposing.+picking.Goals as goal

pub pick-returns-then-is_empty : goal.pick-returns-then-is_empty
pick-returns-then-is_empty g t c =
    let none : length c.args.axes.now ≡ 0 = eqb-true _ _ (sym c.is_empty.ensures ∙ c.if-is_empty.true) in
    on_ok_weaker c.push_item.result
    (λ e. e ∙ ap (λ l. c.args.into.now.items ++ l) (picked_one g.T.Item.blank c.args.axes.now c.args.weights.now c.args.start c.args.items.now none c.requires.same))
    c.push_item.ensures

pub pick-returns-then-axes-eq1 : goal.pick-returns-then-axes-eq1
pick-returns-then-axes-eq1 g t c =
    let one : length c.args.axes.now ≡ 1 = search rules in
    on_ok_weaker c.pick_run.result
    (λ e. e ∙ ap (λ l. c.args.into.now.items ++ l) (picked_run g.T.Item.blank c.args.axes.now c.args.weights.now c.args.start c.args.items.now one c.requires.same))
    c.pick_run.ensures

pub pick_along-overflow_mul-i : goal.pick_along-overflow_mul-i
pick_along-overflow_mul-i g t c = omega (arith, step_fits c.loop-i.i (get_or c.args.axes.now 0 0) (get_or c.args.weights.now 0 0) c.loop-i-test.true (c.requires.short 0) (c.requires.light 0))

pub pick_along-overflow_add-start : goal.pick_along-overflow_add-start
pick_along-overflow_add-start g t c = omega (arith, c.requires.near, c.requires.some, step_fits c.loop-i.i (get_or c.args.axes.now 0 0) (get_or c.args.weights.now 0 0) c.loop-i-test.true (c.requires.short 0) (c.requires.light 0))

pub pick_along-loop-i-init : goal.pick_along-loop-i-init
pick_along-loop-i-init g t c = sym (append-nil c.args.into.now.items)

pub pick_along-pick-requires : goal.pick_along-pick-requires
pick_along-pick-requires g t c =
    let i = c.loop-i.i in
    let w = get_or c.args.weights.now 0 0 in
    let fits = step_fits i (get_or c.args.axes.now 0 0) w c.loop-i-test.true (c.requires.short 0) (c.requires.light 0) in
    let same : length (rest c.args.weights.now) ≡ length (rest c.args.axes.now) = omega (arith, rest_long c.args.weights.now, rest_long c.args.axes.now, c.requires.same) in
    let near : (c.args.start + i * w) + length (rest c.args.axes.now) * 2 ^ 54 ≤ 63 * 2 ^ 54 = omega (arith, rest_long c.args.axes.now, c.requires.near, c.requires.some, fits) in
    let short : (k : ℕ) → get_or (rest c.args.axes.now) k 0 ≤ most_atoms = rest_short c.args.axes.now most_atoms c.requires.short in
    let light : (k : ℕ) → get_or (rest c.args.weights.now) k 0 ≤ most_atoms = rest_short c.args.weights.now most_atoms c.requires.light in
    search (rules, same, near, short, light)

pub pick_along-loop-i-preserved : goal.pick_along-loop-i-preserved
pick_along-loop-i-preserved g t c =
    let w = get_or c.args.weights.now 0 0 in
    c.in-Ok.ensures
    ∙ ap (λ l. l ++ picked g.T.Item.blank (rest c.args.axes.now) (rest c.args.weights.now) (c.args.start + c.loop-i.i * w) c.args.items.now) c.loop-i.invariant
    ∙ rows_more g.T.Item.blank w (rest c.args.axes.now) (rest c.args.weights.now) c.args.start c.loop-i.i c.args.items.now c.args.into.now.items

pub pick_along-returns : goal.pick_along-returns
pick_along-returns g t c =
    let all : c.loop-i.i ≡ get_or c.args.axes.now 0 0 = omega arith in
    c.loop-i.invariant
    ∙ ap (λ n. c.args.into.now.items ++ rows_picked g.T.Item.blank (get_or c.args.weights.now 0 0) (rest c.args.axes.now) (rest c.args.weights.now) c.args.start c.args.items.now n) all
    ∙ ap (λ l. c.args.into.now.items ++ l) (all_rows g.T.Item.blank c.args.axes.now c.args.weights.now c.args.start c.args.items.now c.requires.some c.requires.same)
