use Rattle.std.proofs.Common.{rules, ◌≡◌, sym, ap, ◌∙◌, subst, [], ◌∷◌, ◌++◌, Ok, Err, Some, None}
use Rattle.jturn.specs.Pass.{entries, with_entry}
use Rattle.juses.specs.declared.uses.Entry.{Entry}
use Rattle.jpass.proofs.Turning.{handed_stood, handed_workers, sought_ok, sought_none, sought_not, only_of}
use Rattle.jpass.specs.Stood.{StoodFor, IsBegun, mark_of}
use Rattle.jpass.proofs.turns.take_once.Goals as goal

pub commit-requires-clause-stands : goal.commit-requires-clause-stands
commit-requires-clause-stands g c =
    let e = c.enter-guard.ensures in
    let v = c.state.ensures.value in
    let o : IsBegun c.state.result.now.desk c.args.thread c.args.why.now (Ok c.in-Ok.given) c.begin.new.self.desk = search rules in
    subst (λ z. StoodFor c.begin.new.self.desk (c.enter-guard.result.pass.seen ++ z ∷ [])) (sym c.begin_of-entry.ensures)
    (handed_stood c.args.thread c.args.pass c.enter-guard.result.pass c.enter-guard.result.pass c.state.result.now.desk c.begin.new.self.desk e.pass
    (subst (λ x. StoodFor x.desk c.enter-guard.result.pass.seen) (sym v) e.state.0) (ap (λ x. mark_of x.desk) v ∙ e.state.1) (ap (λ x. x.desk.workers ∷ []) v ∙ e.state.2)
    c.args.why.now c.in-Ok.given.0 c.in-Ok.given.1 o.0)

pub commit-requires-clause-constant : goal.commit-requires-clause-constant
commit-requires-clause-constant g c =
    let e = c.enter-guard.ensures in
    let v = c.state.ensures.value in
    let o : IsBegun c.state.result.now.desk c.args.thread c.args.why.now (Ok c.in-Ok.given) c.begin.new.self.desk = search rules in
    handed_workers c.args.thread c.args.pass c.enter-guard.result.pass c.enter-guard.result.pass c.state.result.now.desk c.begin.new.self.desk e.pass
    (subst (λ x. StoodFor x.desk c.enter-guard.result.pass.seen) (sym v) e.state.0) (ap (λ x. mark_of x.desk) v ∙ e.state.1) (ap (λ x. x.desk.workers ∷ []) v ∙ e.state.2)
    c.args.why.now c.in-Ok.given.0 c.in-Ok.given.1 o.0

pub returns-in-Ok : goal.returns-in-Ok
returns-in-Ok g c =
    let e = c.enter-guard.ensures in
    let v = c.state.ensures.value in
    let h = c.enter-guard.result.pass in
    let o : IsBegun c.state.result.now.desk c.args.thread c.args.why.now (Ok c.in-Ok.given) c.begin.new.self.desk = search rules in
    sought_ok c.args.thread c.args.pass h c.commit.result c.state.result.now.desk c.begin.new.self.desk e.pass
    (subst (λ x. StoodFor x.desk h.seen) (sym v) e.state.0) (ap (λ x. mark_of x.desk) v ∙ e.state.1) (ap (λ x. x.desk.workers ∷ []) v ∙ e.state.2)
    c.args.why.now c.in-Ok.given.0 c.in-Ok.given.1 o.0 o.1
    (c.commit.ensures.pass ∙ ap (λ (z : Entry). record (with_entry h z) { mark = mark_of c.begin.new.self.desk }) c.begin_of-entry.ensures)
    (c.commit.ensures.entries ∙ ap (λ (z : Entry). entries h ++ z ∷ []) c.begin_of-entry.ensures)

pub returns-in-Err-None : goal.returns-in-Err-None
returns-in-Err-None g c =
    let e = c.enter-guard.ensures in
    let v = c.state.ensures.value in
    let o : IsBegun c.state.result.now.desk c.args.thread c.args.why.now (Err None) c.begin.new.self.desk = search rules in
    let same : c.begin.new.self ≡ c.state.result.now = search rules in
    sought_none c.args.thread c.args.pass c.enter-guard.result.pass c.back.result c.state.result.now.desk c.begin.new.self.desk e.pass
    (subst (λ x. StoodFor x.desk c.enter-guard.result.pass.seen) (sym v) e.state.0) (ap (λ x. mark_of x.desk) v ∙ e.state.1) (ap (λ x. x.desk.workers ∷ []) v ∙ e.state.2)
    c.args.why.now o.0 (only_of c.state.result.now.desk c.begin.new.self.desk (ap (λ x. x.desk) same)) o.1 c.back.ensures

pub returns-in-Err-Some : goal.returns-in-Err-Some
returns-in-Err-Some g c =
    let e = c.enter-guard.ensures in
    let v = c.state.ensures.value in
    let o : IsBegun c.state.result.now.desk c.args.thread c.args.why.now (Err (Some c.in-Err-Some.halt)) c.begin.new.self.desk = search rules in
    let same : c.begin.new.self ≡ c.state.result.now = search rules in
    sought_not c.args.thread c.args.pass c.enter-guard.result.pass c.back-in-Err-Some.result c.state.result.now.desk c.begin.new.self.desk e.pass
    (subst (λ x. StoodFor x.desk c.enter-guard.result.pass.seen) (sym v) e.state.0) (ap (λ x. mark_of x.desk) v ∙ e.state.1) (ap (λ x. x.desk.workers ∷ []) v ∙ e.state.2)
    c.args.why.now c.in-Err-Some.halt o (ap (λ x. x.desk) same) c.back-in-Err-Some.ensures
