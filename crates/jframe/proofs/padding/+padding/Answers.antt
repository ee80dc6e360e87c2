use Rattle.std.proofs.Common.{arith, ap, sym, ◌∙◌, ◌≡◌, ◌+◌, ◌*◌, ◌≤◌, ◌∷◌, ◌++◌, length, take, drop, slice_index_or, replicate, ◌-◌}
use Rattle.std.proofs.lemmas.Bool.{eqb-true, eqb-false}
use Rattle.std.proofs.lemmas.Result.{on_ok_weaker}
use Rattle.std.proofs.lemmas.List.{append-nil, append_assoc, drop-drop}
use Rattle.std.proofs.Math.Nat.{zero-mul}
use Rattle.std.proofs.lemmas.Slice.Eq.{slice_eq-Decides}
use Rattle.std.proofs.lemmas.Bool.Decides.{Decides-eqb}
use Rattle.jdata.specs.Noun.{product}
use Rattle.jdata.specs.Limits.{most_atoms}
use Rattle.jframe.specs.Padding.{spread}
use Rattle.jframe.proofs.Spreading.{rest_within, fills_fit, atoms_alone, fits_long, one_item, one_axis, spread_none, spread_more, spread_same}
use Rattle.jframe.proofs.padding.+padding.Goals as goal

pub pad-move_items-requires : goal.pad-move_items-requires
pad-move_items-requires g t c =
    let none : length c.args.whole.now ≡ 0 = eqb-true _ _ (sym c.is_empty.ensures ∙ c.if-is_empty.true) in
    let alone = atoms_alone c.args.part.now c.args.whole.now c.requires.fits none in
    omega (arith, c.requires.enough, ap product alone.0)

pub pad-returns-then-is_empty-clause-into : goal.pad-returns-then-is_empty-clause-into
pad-returns-then-is_empty-clause-into g t c =
    let none : length c.args.whole.now ≡ 0 = eqb-true _ _ (sym c.is_empty.ensures ∙ c.if-is_empty.true) in
    let h = one_item g.T.Item.blank _ _ _ c.requires.fits none c.requires.enough in
    on_ok_weaker c.move_items.result (λ e. e ∙ ap (λ l. c.args.into.now.items ++ l) h.0) c.move_items.ensures.into

pub pad-returns-then-is_empty-clause-from : goal.pad-returns-then-is_empty-clause-from
pad-returns-then-is_empty-clause-from g t c =
    let none : length c.args.whole.now ≡ 0 = eqb-true _ _ (sym c.is_empty.ensures ∙ c.if-is_empty.true) in
    let h = one_item g.T.Item.blank _ _ _ c.requires.fits none c.requires.enough in
    on_ok_weaker c.move_items.result (λ e. e ∙ h.1) c.move_items.ensures.from

pub pad-product_of-requires : goal.pad-product_of-requires
pad-product_of-requires g t c = rest_within c.args.whole.now most_atoms c.requires.bound

pub pad-overflow_mul-fills : goal.pad-overflow_mul-fills
pad-overflow_mul-fills g t c =
    let h = fills_fit c.args.whole.now most_atoms (slice_index_or c.args.part.now 0 0) c.product_of.result c.product_of.ensures c.requires.bound in
    omega (arith, h)

pub pad-returns-in-Ok-clause-into : goal.pad-returns-in-Ok-clause-into
pad-returns-in-Ok-clause-into g t c =
    let filled : length c.args.whole.now ≡ 0 → ⊥ = eqb-false _ _ (sym c.is_empty.ensures ∙ c.if-is_empty.false) in
    let some : 1 ≤ length c.args.whole.now = omega arith in
    let any : 1 ≤ length c.args.part.now = omega (arith, fits_long _ _ c.requires.fits) in
    let h = one_axis g.T.Item.blank c.args.part.now c.args.whole.now c.args.from.now.items c.product_of.result c.requires.fits some any c.product_of.ensures in
    on_ok_weaker c.push_fills.result
    (λ e. e ∙ ap (λ l. l ++ replicate ((slice_index_or c.args.whole.now 0 0 - slice_index_or c.args.part.now 0 0) * c.product_of.result) g.T.Item.blank) c.in-Ok.ensures.into
    ∙ append_assoc c.args.into.now.items _ _ ∙ ap (λ l. c.args.into.now.items ++ l) h)
    c.push_fills.ensures

pub pad_rows-returns-then-eq-clause-into : goal.pad_rows-returns-then-eq-clause-into
pad_rows-returns-then-eq-clause-into g t c =
    let same : c.args.whole.now ≡ c.args.part.now = (slice_eq-Decides Decides-eqb c.args.whole.now c.args.part.now c.eq.result c.eq.ensures).0 c.if-eq.true in
    let rows = ap (λ n. c.args.count * n) (c.product_of.ensures) in
    let enough : product (c.args.count ∷ c.args.whole.now) ≤ length c.args.from.now.items = omega (arith, ap (λ l. c.args.count * product l) same, c.requires.enough) in
    let h = spread_same g.T.Item.blank (c.args.count ∷ c.args.whole.now) c.args.from.now.items enough in
    on_ok_weaker c.move_items.result
    (λ e. e ∙ ap (λ n. c.args.into.now.items ++ take n c.args.from.now.items) rows
    ∙ ap (λ l. c.args.into.now.items ++ l) (sym h)
    ∙ ap (λ l. c.args.into.now.items ++ spread g.T.Item.blank (c.args.count ∷ c.args.whole.now) (c.args.count ∷ l) c.args.from.now.items) same)
    c.move_items.ensures.into

pub pad_rows-loop-init : goal.pad_rows-loop-init
pad_rows-loop-init g t c = (
  sym (append-nil c.args.into.now.items) ∙ ap (λ l. c.args.into.now.items ++ l) (sym (spread_none g.T.Item.blank c.args.whole.now c.args.part.now c.args.from.now.items)),
  ap (λ n. drop n c.args.from.now.items) (sym (zero-mul (product c.args.part.now))),
)

pub pad_rows-loop-preserved : goal.pad_rows-loop-preserved
pad_rows-loop-preserved g t c =
    let step : c.loop.counter * product c.args.part.now + product c.args.part.now ≡ (c.loop.counter + 1) * product c.args.part.now = omega arith in (
      c.in-Ok.ensures.into
          ∙ ap (λ l. l ++ spread g.T.Item.blank c.args.whole.now c.args.part.now c.loop.from.items) c.loop.invariant.0
          ∙ append_assoc c.args.into.now.items _ _
          ∙ ap (λ l. c.args.into.now.items ++ (spread g.T.Item.blank (c.loop.counter ∷ c.args.whole.now) (c.loop.counter ∷ c.args.part.now) c.args.from.now.items ++ spread g.T.Item.blank c.args.whole.now c.args.part.now l)) c.loop.invariant.1
          ∙ ap (λ l. c.args.into.now.items ++ l) (sym (spread_more g.T.Item.blank c.args.whole.now c.args.part.now c.args.from.now.items c.loop.counter)),
      c.in-Ok.ensures.from
          ∙ ap (drop (product c.args.part.now)) c.loop.invariant.1
          ∙ drop-drop (product c.args.part.now) (c.loop.counter * product c.args.part.now) c.args.from.now.items
          ∙ ap (λ n. drop n c.args.from.now.items) step,
    )
