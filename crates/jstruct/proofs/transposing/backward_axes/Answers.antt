use Rattle.std.proofs.Common.{◌≡◌, ◌+◌, ◌-◌, ◌*◌, ◌++◌, ◌∷◌, [], ◌∙◌, arith, ap, sym, length, drop, get_or, reverse}
use Rattle.std.proofs.Math.Nat.{mul_comm}
use Rattle.std.proofs.lemmas.List.{drop_all}
use Rattle.jdata.specs.Limits.{most_atoms}
use Rattle.jdata.specs.Noun.{product}
use Rattle.jstruct.specs.Weights.{weights_of}
use Rattle.jstruct.proofs.Weighing.{backward_axis, backward_weight, next_weight, weight_fits}
use Rattle.jstruct.proofs.transposing.backward_axes.Goals as goal

pub loop-k-init : goal.loop-k-init
loop-k-init c =
    let none = drop_all (length c.args.axes.now - 0) c.args.axes.now (omega arith) in
    record {
      axes = c.in_ok-backward.ensures.items ∙ ap reverse (sym none);
      weights = c.in_ok-weights.ensures.items ∙ ap (λ l. reverse (weights_of l)) (sym none);
      weight = ap product (sym none);
    }

pub overflow_mul-weight : goal.overflow_mul-weight
overflow_mul-weight c =
    let axes = c.args.axes.now in
    let k = c.loop-k.k in
    let next = next_weight axes k c.loop-k-test.true in
    let turned = mul_comm (get_or axes (length axes - 1 - k) 0) (product (drop (length axes - k) axes)) in
    let same = ap (λ w. w * get_or axes (length axes - 1 - k) 0) c.loop-k.invariant.weight in
    omega (arith, next, turned, same, weight_fits axes (length axes - (k + 1)) most_atoms c.requires.extent_at_most)

pub loop-k-preserved : goal.loop-k-preserved
loop-k-preserved c =
    let axes = c.args.axes.now in
    let k = c.loop-k.k in
    let axis = get_or axes (length axes - 1 - k) 0 in
    record {
      axes = c.in_ok-push.ensures.items ∙ (λ i. c.loop-k.invariant.axes i ++ axis ∷ []) ∙ sym (backward_axis axes k c.loop-k-test.true);
      weights = c.in_ok-push-2.ensures.items ∙ (λ i. c.loop-k.invariant.weights i ++ c.loop-k.invariant.weight i ∷ []) ∙ sym (backward_weight axes k c.loop-k-test.true);
      weight =
          ap (λ w. w * axis) c.loop-k.invariant.weight ∙ mul_comm (product (drop (length axes - k) axes)) axis ∙ sym (next_weight axes k c.loop-k-test.true);
    }

pub returns-clause-axes : goal.returns-clause-axes
returns-clause-axes c =
    let all : length c.args.axes.now - c.loop-k.k ≡ 0 = omega (arith, c.loop-k-test.false) in
    c.loop-k.invariant.axes ∙ ap (λ n. reverse (drop n c.args.axes.now)) all

pub returns-clause-weights : goal.returns-clause-weights
returns-clause-weights c =
    let all : length c.args.axes.now - c.loop-k.k ≡ 0 = omega (arith, c.loop-k-test.false) in
    c.loop-k.invariant.weights ∙ ap (λ n. reverse (weights_of (drop n c.args.axes.now))) all
