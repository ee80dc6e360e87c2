use Rattle.std.proofs.Common.{◌≡◌, ◌∙◌, ap, sym, ℕ, ◌+◌, ◌*◌, ◌<◌, ◌≤◌, arith, rules, get_or, length, pos, FitsSigned}
use mir.Syntax.{w64}
use Rattle.std.proofs.lemmas.Int.{to_z-of_z}
use Rattle.jscalar.proofs.Filled.{filled_none, flag_all}
use Rattle.jscalar.proofs.Pieces.{cells_more}
use Rattle.jscalar.proofs.loops.cells.Goals as goal

le_next : (i n k : ℕ) → i < n → i * k + k ≤ n * k
le_next i n k h = grind arith

pub loop-x-init : goal.loop-x-init
loop-x-init g c = record { filled = filled_none _ _ _; count = omega arith }

pub loop-x-preserved : goal.loop-x-preserved
loop-x-preserved g c =
    let x : FitsSigned w64 (get_or c.args.xs.now c.loop-x.x-index (pos 0)) = search rules in
    let more = le_next c.loop-x.x-index (length c.args.xs.now) c.args.cell c.loop-x-test.true in
    record {
      filled = cells_more g.V.Dyad.fault g.V.Dyad.meant c.args.xs.now _ _ _ _ _ _ _ _ _ c.loop-x.invariant.filled (omega (arith, more, c.requires.whole, c.loop-x.auto.ys, c.loop-x.invariant.count)) c.loop-x.invariant.count (to_z-of_z w64 _ x) c.beside-any.ensures c.beside-any.auto.ys;
      count = grind arith;
    }

pub returns : goal.returns
returns g c =
    let all : c.loop-x.x-index ≡ length c.args.xs.now = omega (arith, c.loop-x.auto.x-index-end, c.loop-x-test.false) in
    let end : c.loop-x.from ≡ length c.args.ys.now = c.loop-x.invariant.count ∙ ap (λ n. n * c.args.cell) all ∙ sym c.requires.whole in
    flag_all _ _ _ _ _ _ _ c.loop-x.auto.ys (omega (arith, end)) (omega (arith, end)) c.loop-x.invariant.filled
