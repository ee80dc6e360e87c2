use Rattle.std.proofs.Common.{sym, ap, ◌∙◌, subst, [], ◌∷◌}
use Rattle.jpass.proofs.Turning.{hands_out}
use Rattle.jpass.specs.Stood.{StoodFor, mark_of}
use Rattle.jpass.proofs.turns.hand_out.Goals as goal

pub returns : goal.returns
returns g c =
    let e = c.enter-guard.ensures in
    let v = c.state.ensures.value in
    let t = c.take_prints-bytes.ensures in
    hands_out 0 c.args.pass c.enter-guard.result.pass c.back.result c.state.result.now.desk c.take_prints-bytes.new.self e.pass
    (subst (λ x. StoodFor x.desk c.enter-guard.result.pass.seen) (sym v) e.state.0) (ap (λ x. mark_of x.desk) v ∙ e.state.1) (ap (λ x. x.desk.workers ∷ []) v ∙ e.state.2)
    c.take_prints-bytes.result t.rest t.hands_out c.back.ensures c.requires.marker t.bytes
