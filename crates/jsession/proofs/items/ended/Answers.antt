use Rattle.std.proofs.Common.{◌≡◌, ◌-◌, ◌∙◌, ℕ, suc, false, drop, take, sym, ap, subst, arith}
use Rattle.jsession.specs.Items.{has_end}
use Rattle.jsession.proofs.Endings.{ended_at, ended_of_none}
use Rattle.jsession.proofs.items.ended.Goals as goal

pub returns-then-bytes-end-eq10 : goal.returns-then-bytes-end-eq10
returns-then-bytes-end-eq10 c =
    let some : c.loop-end.«end» ≡ suc (c.loop-end.«end» - 1) = omega (arith, c.loop-end-test.true) in
    let P : ℕ → Type 0 = λ n. has_end (drop n c.args.bytes.now) ≡ false in
    ap (λ n. take n c.args.bytes.now) some
    ∙ ended_at c.args.bytes.now (c.loop-end.«end» - 1) (omega (arith, c.loop-end-test.true, c.loop-end.invariant.within)) (subst P some c.loop-end.invariant.none) c.if-bytes-end-eq10.true

pub returns : goal.returns
returns c =
    let first : c.loop-end.«end» ≡ 0 = omega (arith, c.loop-end-test.false) in
    let P : ℕ → Type 0 = λ n. has_end (drop n c.args.bytes.now) ≡ false in
    sym (ended_of_none c.args.bytes.now (subst P first c.loop-end.invariant.none))
