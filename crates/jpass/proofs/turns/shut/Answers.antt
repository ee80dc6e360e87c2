use Rattle.std.proofs.Common.{sym, ap, ◌∙◌, subst, [], ◌∷◌}
use Rattle.juses.specs.Standing.{closed_by}
use Rattle.jpass.proofs.Turning.{shuts, shut_unmarked}
use Rattle.jpass.specs.Stood.{StoodFor, mark_of}
use Rattle.jpass.specs.Used.{Shut}
use Rattle.jpass.proofs.turns.shut.Goals as goal

pub back-requires-clause-mark : goal.back-requires-clause-mark
back-requires-clause-mark g c = λ other.
    let e = c.enter-guard.ensures in
    let v = c.state.ensures.value in
    let so = c.close.ensures.closed ∙ ap (closed_by c.state.result.now.desk) c.cause_of.ensures in
    shut_unmarked 0 c.args.pass c.enter-guard.result.pass c.enter-guard.result.pass c.state.result.now.desk c.close.new.self e.pass
    (subst (λ x. StoodFor x.desk c.enter-guard.result.pass.seen) (sym v) e.state.0) (ap (λ x. mark_of x.desk) v ∙ e.state.1) (ap (λ x. x.desk.workers ∷ []) v ∙ e.state.2)
    c.args.cause so c.requires.marker other

pub returns : goal.returns
returns g c =
    let e = c.enter-guard.ensures in
    let v = c.state.ensures.value in
    let so = c.close.ensures.closed ∙ ap (closed_by c.state.result.now.desk) c.cause_of.ensures in
    subst (λ q. Shut c.args.pass c.args.cause q) (sym c.stir.ensures)
    (shuts 0 c.args.pass c.enter-guard.result.pass c.back.result c.state.result.now.desk c.close.new.self e.pass
    (subst (λ x. StoodFor x.desk c.enter-guard.result.pass.seen) (sym v) e.state.0) (ap (λ x. mark_of x.desk) v ∙ e.state.1) (ap (λ x. x.desk.workers ∷ []) v ∙ e.state.2)
    c.args.cause so c.requires.marker c.back.ensures)
