use Rattle.std.proofs.Common.{◌≡◌, ◌<◌, ◌≤◌, ℕ, ◌+◌, ◌-◌, arith, ap}
use mathlib.Core.Logic.{inr}
use Rattle.jyard.specs.Lent.{found_in}
use Rattle.jyard.specs.Sole.{refused, word_in}
use Rattle.jyard.proofs.hold.Hold.sole_at.Goals as goal

pub returns-in-Err : goal.returns-in-Err
unfolding found_in word_in
returns-in-Err g c =
    let n : ℕ = c.in-Err.word in let above : (2 < n) × (n ≤ 4294967295) = c.in-Err.ensures.found in
    let same : n ≡ (n - 1) + 1 = (let l = above.0 in omega arith) in
    (ap (λ (j : ℕ). inr (refused c.args.self.now j)) same, record { writes_back = tt; value = tt; held = ((let l = above.0 in omega arith), (let l = above.0 in let m = above.1 in omega arith)) })
