use Rattle.std.proofs.Common.{arith, ap, sym, subst, ◌∙◌, ◌-◌, ◌*◌, ◌<◌, ◌≤◌, ◌⊎◌, ◌||◌, Ok, [], length, drop, take}
use Rattle.std.specs.List.{All}
use Rattle.std.proofs.lemmas.List.Elements.{All-cons, All-nil}
use Rattle.jdata.specs.Answers.{Answers}
use Rattle.jdata.specs.Kinds.{kinds_match}
use Rattle.jdata.specs.Limits.{most_atoms}
use Rattle.jdata.specs.Noun.{shape, atoms, product, extent}
use Rattle.jdata.specs.declared.noun.Noun.{Noun}
use Rattle.jdata.proofs.Extents.{parts_are_within}
use Rattle.jselect.proofs.Cells.{named_is}
use Rattle.jamend.specs.Amended as meant
use Rattle.jamend.specs.Replacing.{Divides}
use Rattle.jamend.proofs.Amends.{cell_of_kinds, cell_too_many, cell_of_shape, cell_not_there, cell_replaced}
use Rattle.jamend.proofs.Checking.{fits_end}
use Rattle.jamend.proofs.Ending.{parts_fit, last_some, last_divides}
use Rattle.jamend.proofs.amending.cell_amended.Goals as goal

pub returns-then-not-kinds_agree : goal.returns-then-not-kinds_agree
returns-then-not-kinds_agree c =
    let agree = c.kinds_agree.ensures
    ∙ (λ i. kinds_match (c.leaf.ensures.kind i) (c.leaf-2.ensures.kind i) (c.leaf.ensures.atoms i) || kinds_match (c.leaf-2.ensures.kind i) (c.leaf.ensures.kind i) (c.leaf-2.ensures.atoms i)) in
    cell_of_kinds c.args.x.now.noun c.args.y.now.noun c.args.numbers.now (sym agree ∙ c.if-not-kinds_agree.true)

pub returns-then-numbers-axes : goal.returns-then-numbers-axes
returns-then-numbers-axes c =
    let agree = c.kinds_agree.ensures
    ∙ (λ i. kinds_match (c.leaf.ensures.kind i) (c.leaf-2.ensures.kind i) (c.leaf.ensures.atoms i) || kinds_match (c.leaf-2.ensures.kind i) (c.leaf.ensures.kind i) (c.leaf-2.ensures.atoms i)) in
    cell_too_many c.args.x.now.noun c.args.y.now.noun c.args.numbers.now (sym agree ∙ c.if-not-kinds_agree.false)
    (subst (λ s. length s < length c.args.numbers.now) c.shape-axes.ensures.value c.if-numbers-axes.true)

pub returns-in-Some : goal.returns-in-Some
returns-in-Some c =
    let x = c.args.x.now.noun in
    let y = c.args.y.now.noun in
    let l = c.args.numbers.now in
    let agree = c.kinds_agree.ensures
    ∙ (λ i. kinds_match (c.leaf.ensures.kind i) (c.leaf-2.ensures.kind i) (c.leaf.ensures.atoms i) || kinds_match (c.leaf-2.ensures.kind i) (c.leaf.ensures.kind i) (c.leaf-2.ensures.atoms i)) in
    let few : length l ≤ length (shape y) = subst (λ s. length l ≤ length s) c.shape-axes.ensures.value (omega (arith, c.if-numbers-axes.false)) in
    let back = c.split_at.ensures.back ∙ ap (drop (length l)) c.shape-axes.ensures.value in
    let wrong = sym (c.shape_fault.ensures ∙ (λ i. meant.shape_fault (back i) (c.shape.ensures.value i))) ∙ c.in-Some.is in
    cell_of_shape x y l c.in-Some.fault (sym agree ∙ c.if-not-kinds_agree.false) few wrong

pub returns-in-Err : goal.returns-in-Err
returns-in-Err c =
    let x = c.args.x.now.noun in
    let y = c.args.y.now.noun in
    let l = c.args.numbers.now in
    let agree = c.kinds_agree.ensures
    ∙ (λ i. kinds_match (c.leaf.ensures.kind i) (c.leaf-2.ensures.kind i) (c.leaf.ensures.atoms i) || kinds_match (c.leaf-2.ensures.kind i) (c.leaf.ensures.kind i) (c.leaf-2.ensures.atoms i)) in
    let few : length l ≤ length (shape y) = subst (λ s. length l ≤ length s) c.shape-axes.ensures.value (omega (arith, c.if-numbers-axes.false)) in
    let back = c.split_at.ensures.back ∙ ap (drop (length l)) c.shape-axes.ensures.value in
    let right = sym (c.shape_fault.ensures ∙ (λ i. meant.shape_fault (back i) (c.shape.ensures.value i))) ∙ c.in_default.is in
    let number = sym (c.cell_number.ensures ∙ ap (λ s. meant.cell_number s l) c.shape-axes.ensures.value) in
    cell_not_there x y l c.in-Err.fault (sym agree ∙ c.if-not-kinds_agree.false) few right (number ∙ c.in-Err.is)

pub product_of-requires : goal.product_of-requires
product_of-requires c =
    let axes = c.shape-axes.result.now in
    let whole = subst (λ s. extent s ≤ most_atoms) (sym c.shape-axes.ensures.value) c.shape-axes.ensures.array.within.extent_at_most in
    subst (λ s. extent s ≤ most_atoms) (sym c.split_at.ensures.back) (omega (arith, whole, (parts_are_within (length c.args.numbers.now) axes).1))

pub product_of-requires-2 : goal.product_of-requires-2
product_of-requires-2 c =
    let axes = c.shape-axes.result.now in
    let whole = subst (λ s. extent s ≤ most_atoms) (sym c.shape-axes.ensures.value) c.shape-axes.ensures.array.within.extent_at_most in
    subst (λ s. extent s ≤ most_atoms) (sym c.split_at.ensures.front) (omega (arith, whole, (parts_are_within (length c.args.numbers.now) axes).0))

pub with_cells-requires-clause-whole : goal.with_cells-requires-clause-whole
with_cells-requires-clause-whole c =
    let y = c.args.y.now.noun in
    let l = c.args.numbers.now in
    let front = c.product_of-2.ensures ∙ ap product (c.split_at.ensures.front ∙ ap (take (length l)) c.shape-axes.ensures.value) in
    let back = c.product_of.ensures ∙ ap product (c.split_at.ensures.back ∙ ap (drop (length l)) c.shape-axes.ensures.value) in
    c.shape-axes.ensures.array.whole ∙ last_divides (length l) (shape y) ∙ sym (λ i. front i * back i)

pub with_cells-requires-clause-within : goal.with_cells-requires-clause-within
with_cells-requires-clause-within c =
    let y = c.args.y.now.noun in
    let l = c.args.numbers.now in
    let few : length l ≤ length (shape y) = subst (λ s. length l ≤ length s) c.shape-axes.ensures.value (omega (arith, c.if-numbers-axes.false)) in
    let number = sym (c.cell_number.ensures ∙ ap (λ s. meant.cell_number s l) c.shape-axes.ensures.value) in
    let front = c.product_of-2.ensures ∙ ap product (c.split_at.ensures.front ∙ ap (take (length l)) c.shape-axes.ensures.value) in
    let named = named_is l y c.in-Ok.number c.shape-axes.ensures.array few (number ∙ c.in-Ok.is) in
    let below = subst (λ n. c.in-Ok.number < n) (sym front) named.within in
    subst (λ ps. All (λ p. p < c.product_of-2.result) ps) (sym c.from_ref.ensures.value)
    (All-cons (λ p. p < c.product_of-2.result) c.in-Ok.number [] below (All-nil (λ p. p < c.product_of-2.result)))

pub with_cells-requires-clause-some : goal.with_cells-requires-clause-some
with_cells-requires-clause-some c =
    let x = c.args.x.now.noun in
    let y = c.args.y.now.noun in
    let l = c.args.numbers.now in
    let rest = drop (length l) (shape y) in
    let back = c.split_at.ensures.back ∙ ap (drop (length l)) c.shape-axes.ensures.value in
    let right = sym (c.shape_fault.ensures ∙ (λ i. meant.shape_fault (back i) (c.shape.ensures.value i))) ∙ c.in_default.is in
    let cell = c.product_of.ensures ∙ ap product back in
    λ h. subst (λ k. 0 < k) (sym c.shape.ensures.array.whole)
    (last_some [] rest (shape x) (length rest - length (shape x)) (length c.from_ref.result.now) (fits_end rest (shape x) right) (ap length c.from_ref.ensures.value)
    (subst (λ k. 0 < length c.from_ref.result.now * k) cell h))

pub with_cells-requires-clause-parts : goal.with_cells-requires-clause-parts
with_cells-requires-clause-parts c =
    let x = c.args.x.now.noun in
    let y = c.args.y.now.noun in
    let l = c.args.numbers.now in
    let rest = drop (length l) (shape y) in
    let back = c.split_at.ensures.back ∙ ap (drop (length l)) c.shape-axes.ensures.value in
    let right = sym (c.shape_fault.ensures ∙ (λ i. meant.shape_fault (back i) (c.shape.ensures.value i))) ∙ c.in_default.is in
    let cell = c.product_of.ensures ∙ ap product back in
    let fit = parts_fit [] rest (shape x) (length rest - length (shape x)) (fits_end rest (shape x) right) in
    subst (λ k. Divides k (length (atoms x)) ⊎ Divides (length (atoms x)) k) (sym cell)
    (subst (λ k. Divides (product rest) k ⊎ Divides k (product rest)) (sym c.shape.ensures.array.whole) fit)

pub returns : goal.returns
returns c =
    let x = c.args.x.now.noun in
    let y = c.args.y.now.noun in
    let l = c.args.numbers.now in
    let agree = c.kinds_agree.ensures
    ∙ (λ i. kinds_match (c.leaf.ensures.kind i) (c.leaf-2.ensures.kind i) (c.leaf.ensures.atoms i) || kinds_match (c.leaf-2.ensures.kind i) (c.leaf.ensures.kind i) (c.leaf-2.ensures.atoms i)) in
    let few : length l ≤ length (shape y) = subst (λ s. length l ≤ length s) c.shape-axes.ensures.value (omega (arith, c.if-numbers-axes.false)) in
    let back = c.split_at.ensures.back ∙ ap (drop (length l)) c.shape-axes.ensures.value in
    let right = sym (c.shape_fault.ensures ∙ (λ i. meant.shape_fault (back i) (c.shape.ensures.value i))) ∙ c.in_default.is in
    let number = sym (c.cell_number.ensures ∙ ap (λ s. meant.cell_number s l) c.shape-axes.ensures.value) in
    let cell = c.product_of.ensures ∙ ap product back in
    subst (λ r. Answers {Value = Noun} r c.with_cells.result)
    ((λ i. Ok (meant.with_cells x y (cell i) (c.from_ref.ensures.value i))) ∙ sym (cell_replaced x y l c.in-Ok.number (sym agree ∙ c.if-not-kinds_agree.false) few right (number ∙ c.in-Ok.is)))
    c.with_cells.ensures
