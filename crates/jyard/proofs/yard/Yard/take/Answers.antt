use Rattle.std.proofs.Common.{◌≡◌, ℕ, ◌+◌, ◌%◌, ◌<◌, length, arith, refl, sym, ap, subst, ◌∙◌}
use Rattle.std.proofs.Math.Nat.{mod-eq_of_lt}
use Rattle.jyard.specs.Reads.{EachTaken}
use Rattle.jyard.specs.Yards.{blocks_of}
use Rattle.jyard.proofs.Turns.{at_err, further, one_more_taken}
use Rattle.jyard.proofs.yard.Yard.take.Goals as goal

pub loop-passed-init : goal.loop-passed-init
unfolding EachTaken
loop-passed-init g c = let start : ℕ = c.args.pass.now.next in let n : ℕ = length (blocks_of c.args.self.now) in let same = c.count-blocks.ensures.0 in (
  refl,
  refl,
  sym same,
  c.count-blocks.ensures.2,
  omega arith,
  subst (λ (m : ℕ). start < m) same c.requires.1,
  sym (ap (λ (j : ℕ). j % n) (let none : start + 0 ≡ start = omega arith in none) ∙ mod-eq_of_lt c.requires.1),
  c.requires.0,
  refl,
  refl,
)

pub loop-passed-preserved : goal.loop-passed-preserved
loop-passed-preserved g c =
    let inv = c.loop-passed.invariant in let next = c.next_after-next.ensures in let less = c.loop-passed-test.true in let n : ℕ = length (blocks_of c.args.self.now) in
    let got = at_err _ _ c.try_take.result c.in-Err.back c.in-Err.is c.try_take.ensures.taken in (
      got.0 ∙ inv.0,
      refl,
      inv.2,
      inv.3,
      omega (arith, less),
      next.1,
      next.0 ∙ ap (λ (m : ℕ). (c.loop-passed.block + 1) % m) inv.2 ∙ further c.loop-passed.block c.args.pass.now.next c.loop-passed.passed n inv.6,
      c.try_take.ensures.view ∙ inv.7,
      inv.8,
      one_more_taken (blocks_of c.args.self.now) c.args.pass.now.next c.loop-passed.passed c.loop-passed.block c.args.pass.now.view.spent c.loop-passed.pass.view.spent c.try_take.new.view.spent inv.6 inv.9 got.1,
    )
