use Rattle.std.proofs.Common.{◌≡◌, ◌<◌, ◌+◌, ◌++◌, ◌∷◌, [], List, ℕ, sym, subst, arith, rules, length, take, get_or}
use Rattle.std.specs.Prelude.{ℤ, pos}
use Rattle.std.proofs.lemmas.Int.{to_z-of_z}
use Rattle.std.proofs.lemmas.List.{take_more, take_all, length-take}
use mir.Syntax.{w64}
use Rattle.jstruct.specs.declared.change.Layout.{Layout}
use Rattle.jstruct.specs.Layouts.{ArePlanned, IsLayout}
use Rattle.jstruct.proofs.Counting.{axis_at_most}
use Rattle.jstruct.proofs.Planning.{planned_more, planned_front}
use Rattle.jstruct.proofs.change.plan.Goals as goal

pub laid_out-requires : goal.laid_out-requires
laid_out-requires c = omega (arith, axis_at_most c.args.axes.now c.loop-i.i, c.requires.bound)

pub loop-i-preserved : goal.loop-i-preserved
loop-i-preserved c =
    let i = c.loop-i.i in
    let xs = c.args.numbers.now in
    let ns = c.args.axes.now in
    let ls = c.loop-i.layouts.items in
    let x = get_or xs i (pos 0) in
    let n = get_or ns i 0 in
    let l = c.laid_out.result in
    let axis : i < length ns = omega (arith, c.requires.long) in
    let long : length (take i xs) ≡ length (take i ns) = omega (arith, length-take i xs, length-take i ns) in
    let same = to_z-of_z w64 x (search rules) in
    let is : IsLayout c.args.change x n l = subst (λ z. IsLayout c.args.change z n l) same c.laid_out.ensures in
    subst (λ (r : List Layout). ArePlanned c.args.change (take (i + 1) xs) (take (i + 1) ns) r) (sym c.in_ok-push.ensures.items)
    (subst (λ (ys : List ℤ). ArePlanned c.args.change ys (take (i + 1) ns) (ls ++ l ∷ [])) (sym (take_more xs i (pos 0) c.loop-i-test.true))
    (subst (λ (ms : List ℕ). ArePlanned c.args.change (take i xs ++ x ∷ []) ms (ls ++ l ∷ [])) (sym (take_more ns i 0 axis))
    (planned_more c.args.change (take i xs) (take i ns) ls x n l long c.loop-i.invariant is)))

pub returns : goal.returns
returns c =
    let i = c.loop-i.i in
    let xs = c.args.numbers.now in
    let ns = c.args.axes.now in
    let ls = c.loop-i.layouts.items in
    let done : i ≡ length xs = omega (arith, c.loop-i-test.false, c.loop-i.auto.i-end) in
    planned_front c.args.change xs ns ls c.requires.long
    (subst (λ (m : ℕ). ArePlanned c.args.change xs (take m ns) ls) done
    (subst (λ (ys : List ℤ). ArePlanned c.args.change ys (take i ns) ls) (take_all i xs c.loop-i-test.false) c.loop-i.invariant))
