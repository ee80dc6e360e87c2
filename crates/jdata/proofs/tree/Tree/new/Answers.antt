use Rattle.std.proofs.Common.{arith, sym, ◌∙◌, ap, ◌≡◌, ◌≤◌, length, Ok, Err}
use Rattle.jdata.specs.Limits.{IsArray, most_axes, most_atoms, most_levels}
use Rattle.jdata.specs.Noun.{product, extent, level}
use Rattle.jdata.specs.Trees.{noun_of}
use Rattle.jdata.proofs.Checks.{too_many_axes, too_deep, wrong_length, passes}
use Rattle.jdata.proofs.Levels.{level_is}
use Rattle.jdata.specs.declared.tree.BadTree.TheVariants as bad
use Rattle.jdata.proofs.tree.Tree.new.Goals as goal

pub returns-then-len-gt-MAX_RANK : goal.returns-then-len-gt-MAX_RANK
returns-then-len-gt-MAX_RANK c =
    sym (too_many_axes (noun_of c.args.shape.items c.args.items) (omega (arith, c.if-len-gt-MAX_RANK.true, c.len.ensures, c.args.shape.ok.0)))

pub returns-then-depth-gt-MAX_LEVEL : goal.returns-then-depth-gt-MAX_LEVEL
returns-then-depth-gt-MAX_LEVEL c =
    let v = noun_of c.args.shape.items c.args.items in
    sym (too_deep v (omega (arith, level_is v, c.level-depth.ensures, c.if-depth-gt-MAX_LEVEL.true)))

pub returns-then-count-product : goal.returns-then-count-product
returns-then-count-product c =
    let v = noun_of c.args.shape.items c.args.items in
    let p : c.in-Some.product ≡ product c.args.shape.items = c.in-Some.ensures.0 ∙ ap product c.as_slice.ensures.value in
    let e : extent c.args.shape.items ≤ most_atoms = rw (← c.as_slice.ensures.value) c.in-Some.ensures.1 in
    (λ i. Err (bad.Length (p i) (c.len-count.ensures i)))
    ∙ sym (wrong_length v (omega (arith, c.if-len-gt-MAX_RANK.false, c.len.ensures, c.args.shape.ok.0)) e (omega (arith, level_is v, c.level-depth.ensures, c.if-depth-gt-MAX_LEVEL.false)) (λ same. c.if-count-product.true (c.len-count.ensures ∙ same ∙ sym p)))

pub invariant_of-result : goal.invariant_of-result
invariant_of-result c =
    let v = noun_of c.args.shape.items c.args.items in
    let p : c.in-Some.product ≡ product c.args.shape.items = c.in-Some.ensures.0 ∙ ap product c.as_slice.ensures.value in
    let rank : length c.args.shape.items ≤ most_axes = omega (arith, c.if-len-gt-MAX_RANK.false, c.len.ensures, c.args.shape.ok.0) in
    let deep : level v ≤ most_levels = omega (arith, level_is v, c.level-depth.ensures, c.if-depth-gt-MAX_LEVEL.false) in
    let e : extent c.args.shape.items ≤ most_atoms = rw (← c.as_slice.ensures.value) c.in-Some.ensures.1 in
    let array : IsArray v = record { whole = sym c.len-count.ensures ∙ c.if-count-product.false ∙ p; within = record { rank = rank; extent_at_most = e }; level_at_most = deep } in
    rw c.of.ensures (record { array = array; depth_is = c.level-depth.ensures ∙ sym (level_is v) })

pub returns : goal.returns
returns c =
    let v = noun_of c.args.shape.items c.args.items in
    let p : c.in-Some.product ≡ product c.args.shape.items = c.in-Some.ensures.0 ∙ ap product c.as_slice.ensures.value in
    let e : extent c.args.shape.items ≤ most_atoms = rw (← c.as_slice.ensures.value) c.in-Some.ensures.1 in
    ap (λ axes. Ok (noun_of axes c.args.items)) c.of.ensures
    ∙ sym (passes v (omega (arith, c.if-len-gt-MAX_RANK.false, c.len.ensures, c.args.shape.ok.0)) e (omega (arith, level_is v, c.level-depth.ensures, c.if-depth-gt-MAX_LEVEL.false)) (sym c.len-count.ensures ∙ c.if-count-product.false ∙ p))
