use Rattle.std.proofs.Common.{◌≡◌, ◌≤◌, ◌+◌, ◌-◌, ◌*◌, ◌++◌, ◌∙◌, arith, rules, ap, sym, length, take, drop, get_or}
use Rattle.std.proofs.lemmas.Bool.{eqb-true, eqb-false}
use Rattle.std.proofs.lemmas.Result.{on_ok_weaker}
use Rattle.std.proofs.lemmas.List.{append-nil, length-drop, take_rest}
use Rattle.jdata.specs.Noun.{product, extent}
use Rattle.jdata.specs.Limits.{most_atoms}
use Rattle.jstruct.specs.Layouts.{AllLie, laid_axes, laid, stretch_laid}
use Rattle.jstruct.specs.declared.change.Layout.{Layout}
use Rattle.jstruct.proofs.Stretches.{rest, some_axes, some_whole, rest_within, rows_fit, rows_there, rest_lie, rest_whole, no_layouts, both_stretches, all_fills, ends_on_axis, in_range, no_rows, row_more}
use Rattle.jstruct.proofs.laying.+laying.Goals as goal

pub lay-returns-then-is_empty : goal.lay-returns-then-is_empty
lay-returns-then-is_empty g t c =
    let none : length c.args.layouts.now ≡ 0 = eqb-true _ _ (sym c.is_empty.ensures ∙ c.if-is_empty.true) in
    on_ok_weaker c.push_copies.result
    (λ e. e ∙ ap (λ n. c.args.into.now.items ++ take n c.args.items.now) c.product_of.ensures
    ∙ ap (λ l. c.args.into.now.items ++ l) (no_layouts g.T.Item.blank c.args.layouts.now c.args.axes.now c.args.items.now none c.requires.enough))
    c.push_copies.ensures

pub lay-returns-in-Ok : goal.lay-returns-in-Ok
lay-returns-in-Ok g t c =
    let many : length c.args.layouts.now ≡ 0 → ⊥ = eqb-false _ _ (sym c.is_empty.ensures ∙ c.if-is_empty.false) in
    let some : 1 ≤ length c.args.layouts.now = omega arith in
    let d : Layout = record { first = record { start = 0; count = 0 }; second = record { start = 0; count = 0 } } in
    on_ok_weaker c.lay_stretch-in-Ok.result
    (λ e. e ∙ ap (λ l. l ++ stretch_laid g.T.Item.blank (get_or c.args.layouts.now 0 d).second c.args.layouts.now c.args.axes.now c.args.items.now) c.in-Ok.ensures
    ∙ both_stretches g.T.Item.blank c.args.layouts.now c.args.axes.now c.args.items.now c.args.into.now.items d c.requires.lies some)
    c.lay_stretch-in-Ok.ensures

pub lay_stretch-slice_bounds-inner-count : goal.lay_stretch-slice_bounds-inner-count
lay_stretch-slice_bounds-inner-count g t c = some_axes c.args.layouts.now c.args.axes.now c.requires.lies c.requires.some

pub lay_stretch-slice_bounds-inner-start : goal.lay_stretch-slice_bounds-inner-start
lay_stretch-slice_bounds-inner-start g t c = some_axes c.args.layouts.now c.args.axes.now c.requires.lies c.requires.some

pub lay_stretch-bounds-axes-0 : goal.lay_stretch-bounds-axes-0
lay_stretch-bounds-axes-0 g t c = some_axes c.args.layouts.now c.args.axes.now c.requires.lies c.requires.some

pub lay_stretch-slice_bounds-product_of-count : goal.lay_stretch-slice_bounds-product_of-count
lay_stretch-slice_bounds-product_of-count g t c = some_whole c.args.layouts.now c.args.axes.now c.args.whole.now c.requires.lies c.requires.some c.requires.whole

pub lay_stretch-slice_bounds-product_of-start : goal.lay_stretch-slice_bounds-product_of-start
lay_stretch-slice_bounds-product_of-start g t c = some_whole c.args.layouts.now c.args.axes.now c.args.whole.now c.requires.lies c.requires.some c.requires.whole

pub lay_stretch-product_of-requires : goal.lay_stretch-product_of-requires
lay_stretch-product_of-requires g t c = rest_within c.args.whole.now most_atoms c.requires.new

pub lay_stretch-overflow_mul-stretch : goal.lay_stretch-overflow_mul-stretch
lay_stretch-overflow_mul-stretch g t c =
    let some = some_whole c.args.layouts.now c.args.axes.now c.args.whole.now c.requires.lies c.requires.some c.requires.whole in
    omega (arith, rows_fit c.args.whole.now most_atoms c.args.stretch.count c.product_of.result some c.product_of.ensures c.requires.new c.requires.fits)

pub lay_stretch-returns-then-stretch-axes : goal.lay_stretch-returns-then-stretch-axes
lay_stretch-returns-then-stretch-axes g t c =
    on_ok_weaker c.push_fills.result
    (λ e. e ∙ ap (λ l. c.args.into.now.items ++ l)
    (all_fills g.T.Item.blank c.args.stretch c.args.layouts.now c.args.axes.now c.args.whole.now c.args.items.now c.product_of.result c.requires.lies c.requires.some c.requires.whole c.product_of.ensures c.if-stretch-axes.true))
    c.push_fills.ensures

pub lay_stretch-product_of-size-requires : goal.lay_stretch-product_of-size-requires
lay_stretch-product_of-size-requires g t c = rest_within c.args.axes.now most_atoms c.requires.old

pub lay_stretch-returns-then-layouts-eq1 : goal.lay_stretch-returns-then-layouts-eq1
lay_stretch-returns-then-layouts-eq1 g t c =
    on_ok_weaker c.push_copies.result
    (λ e. e ∙ ap (λ l. c.args.into.now.items ++ l)
    (in_range g.T.Item.blank c.args.stretch c.args.layouts.now c.args.axes.now c.args.items.now c.product_of-size.result c.requires.lies c.if-layouts-eq1.true c.product_of-size.ensures c.requires.on_axis c.if-stretch-axes.false c.requires.enough))
    c.push_copies.ensures

pub lay_stretch-loop-i-init : goal.lay_stretch-loop-i-init
lay_stretch-loop-i-init g t c =
    sym (append-nil c.args.into.now.items)
    ∙ ap (λ l. c.args.into.now.items ++ l) (sym (no_rows g.T.Item.blank c.args.stretch.start c.args.layouts.now c.args.axes.now c.args.items.now))

pub lay_stretch-lay-requires : goal.lay_stretch-lay-requires
lay_stretch-lay-requires g t c =
    let axis = some_axes c.args.layouts.now c.args.axes.now c.requires.lies c.requires.some in
    let lies : AllLie (rest c.args.layouts.now) (rest c.args.axes.now) = rest_lie c.args.layouts.now c.args.axes.now c.requires.lies c.requires.some in
    let whole : rest c.args.whole.now ≡ laid_axes (rest c.args.layouts.now) (rest c.args.axes.now) = rest_whole c.args.layouts.now c.args.axes.now c.args.whole.now c.requires.lies c.requires.some c.requires.whole in
    let old : extent (rest c.args.axes.now) ≤ most_atoms = rest_within c.args.axes.now most_atoms c.requires.old in
    let new : extent (rest c.args.whole.now) ≤ most_atoms = rest_within c.args.whole.now most_atoms c.requires.new in
    let i = c.loop-i.i in
    let p = c.product_of-size.result in
    let items = c.args.items.now in
    let ends = ends_on_axis c.args.stretch (get_or c.args.axes.now 0 0) c.requires.on_axis c.if-stretch-axes.false in
    let rows = rows_there c.args.axes.now (i + 1) p (length items) axis c.product_of-size.ensures c.requires.enough (omega (arith, ends)) in
    let sum : (i + 1) * p ≡ i * p + p = omega arith in
    let behind : length (take (length items - i * p) (drop (i * p) items)) ≡ length (drop (i * p) items) = ap length (take_rest items (i * p)) in
    let enough : product (rest c.args.axes.now) ≤ length (take (length items - i * p) (drop (i * p) items)) = omega (arith, rows, sum, behind, length-drop (i * p) items, c.product_of-size.ensures) in
    search (rules, lies, whole, old, new, enough)

pub lay_stretch-loop-i-preserved : goal.lay_stretch-loop-i-preserved
lay_stretch-loop-i-preserved g t c =
    let ends = ends_on_axis c.args.stretch (get_or c.args.axes.now 0 0) c.requires.on_axis c.if-stretch-axes.false in
    c.in-Ok.ensures
    ∙ ap (λ l. l ++ laid g.T.Item.blank (rest c.args.layouts.now) (rest c.args.axes.now) (take (length c.args.items.now - c.loop-i.i * c.product_of-size.result) (drop (c.loop-i.i * c.product_of-size.result) c.args.items.now))) c.loop-i.invariant
    ∙ row_more g.T.Item.blank c.args.stretch.start c.loop-i.i c.product_of-size.result c.args.layouts.now c.args.axes.now c.args.items.now c.args.into.now.items c.requires.lies c.requires.some (omega arith) (omega (arith, ends)) c.product_of-size.ensures

pub lay_stretch-returns : goal.lay_stretch-returns
lay_stretch-returns g t c =
    let all : c.loop-i.i - c.args.stretch.start ≡ c.args.stretch.count = omega arith in
    c.loop-i.invariant
    ∙ ap (λ k. c.args.into.now.items ++ stretch_laid g.T.Item.blank (record { start = c.args.stretch.start; count = k }) c.args.layouts.now c.args.axes.now c.args.items.now) all
