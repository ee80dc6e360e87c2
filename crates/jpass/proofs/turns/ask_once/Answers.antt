use Rattle.std.proofs.Common.{rules, ◌≡◌, sym, ap, ◌∙◌, subst, [], ◌∷◌, ◌++◌, Ok, Err}
use Rattle.jturn.specs.Pass.{entries, with_entry}
use Rattle.juses.specs.declared.uses.Entry.{Entry}
use Rattle.juses.specs.declared.uses.Halt.TheVariants.{Closed}
use Rattle.jpass.proofs.Turning.{stood_more, answered_workers, asked_ok, asked_again, asked_refused, asked_no_memory}
use Rattle.jpass.specs.Stood.{StoodFor, IsAnswered, mark_of}
use Rattle.jpass.specs.Used.{AskedOnce}
use Rattle.jpass.proofs.turns.ask_once.Goals as goal

pub commit-pass-requires-clause-stands : goal.commit-pass-requires-clause-stands
commit-pass-requires-clause-stands g c =
    let e = c.enter-guard.ensures in
    let v = c.state.ensures.value in
    subst (λ z. StoodFor c.answer.new.self.desk (c.enter-guard.result.pass.seen ++ z ∷ [])) (sym c.entry_of-entry.ensures)
    (stood_more c.state.result.now.desk c.answer.new.self.desk c.enter-guard.result.pass.seen c.args.who.now c.args.thread c.args.asked c.in-Ok.reply
    (subst (λ x. StoodFor x.desk c.enter-guard.result.pass.seen) (sym v) e.state.0) c.in-Ok.ensures.answer.0)

pub commit-pass-requires-clause-constant : goal.commit-pass-requires-clause-constant
commit-pass-requires-clause-constant g c =
    let e = c.enter-guard.ensures in
    let v = c.state.ensures.value in
    answered_workers c.args.thread c.args.pass c.enter-guard.result.pass c.enter-guard.result.pass c.state.result.now.desk c.answer.new.self.desk e.pass
    (subst (λ x. StoodFor x.desk c.enter-guard.result.pass.seen) (sym v) e.state.0) (ap (λ x. mark_of x.desk) v ∙ e.state.1) (ap (λ x. x.desk.workers ∷ []) v ∙ e.state.2)
    c.args.who.now c.args.asked c.in-Ok.reply c.in-Ok.ensures.answer.0 c.in-Ok.ensures.answer.1

pub returns-in-Ok : goal.returns-in-Ok
returns-in-Ok g c =
    let e = c.enter-guard.ensures in
    let v = c.state.ensures.value in
    let h = c.enter-guard.result.pass in
    subst (λ r. AskedOnce c.args.thread c.args.pass c.args.who.now c.args.asked c.commit-pass.result (Ok (Ok r))) (sym (c.reply_of.ensures ∙ ap (λ (z : Entry). z.reply) c.entry_of-entry.ensures))
    (asked_ok c.args.thread c.args.pass h c.commit-pass.result c.state.result.now.desk c.answer.new.self.desk e.pass
    (subst (λ x. StoodFor x.desk h.seen) (sym v) e.state.0) (ap (λ x. mark_of x.desk) v ∙ e.state.1) (ap (λ x. x.desk.workers ∷ []) v ∙ e.state.2)
    c.args.who.now c.args.asked c.in-Ok.reply c.in-Ok.ensures.answer.0 c.in-Ok.ensures.answer.1 c.in-Ok.ensures.answer.2
    (c.commit-pass.ensures.pass ∙ ap (λ (z : Entry). record (with_entry h z) { mark = mark_of c.answer.new.self.desk }) c.entry_of-entry.ensures)
    (c.commit-pass.ensures.entries ∙ ap (λ (z : Entry). entries h ++ z ∷ []) c.entry_of-entry.ensures))

pub returns-in-Err-Wait : goal.returns-in-Err-Wait
returns-in-Err-Wait g c =
    let e = c.enter-guard.ensures in
    let v = c.state.ensures.value in
    let same : c.answer.new.self ≡ c.state.result.now = search rules in
    asked_again c.args.thread c.args.pass c.enter-guard.result.pass c.back.result c.state.result.now.desk c.answer.new.self.desk e.pass
    (subst (λ x. StoodFor x.desk c.enter-guard.result.pass.seen) (sym v) e.state.0) (ap (λ x. mark_of x.desk) v ∙ e.state.1) (ap (λ x. x.desk.workers ∷ []) v ∙ e.state.2)
    c.args.who.now c.args.asked (ap (λ x. x.desk) same) c.back.ensures

pub returns-in-Err-NoMemory : goal.returns-in-Err-NoMemory
returns-in-Err-NoMemory g c =
    let e = c.enter-guard.ensures in
    let v = c.state.ensures.value in
    let same : c.answer.new.self ≡ c.state.result.now = search rules in
    asked_no_memory c.args.thread c.args.pass c.enter-guard.result.pass c.back-in-Err-NoMemory.result c.state.result.now.desk c.answer.new.self.desk e.pass
    (subst (λ x. StoodFor x.desk c.enter-guard.result.pass.seen) (sym v) e.state.0) (ap (λ x. mark_of x.desk) v ∙ e.state.1) (ap (λ x. x.desk.workers ∷ []) v ∙ e.state.2)
    c.args.who.now c.args.asked (ap (λ x. x.desk) same) c.back-in-Err-NoMemory.ensures

pub returns-in-Err-Closed : goal.returns-in-Err-Closed
returns-in-Err-Closed g c =
    let e = c.enter-guard.ensures in
    let v = c.state.ensures.value in
    let o : IsAnswered c.state.result.now.desk c.args.who.now c.args.thread c.args.asked (Err (Closed c.in-Err-Closed.cause)) c.answer.new.self.desk = search rules in
    let same : c.answer.new.self ≡ c.state.result.now = search rules in
    asked_refused c.args.thread c.args.pass c.enter-guard.result.pass c.back-in-Err-Closed.result c.state.result.now.desk c.answer.new.self.desk e.pass
    (subst (λ x. StoodFor x.desk c.enter-guard.result.pass.seen) (sym v) e.state.0) (ap (λ x. mark_of x.desk) v ∙ e.state.1) (ap (λ x. x.desk.workers ∷ []) v ∙ e.state.2)
    c.args.who.now c.args.asked c.in-Err-Closed.cause o (ap (λ x. x.desk) same) c.back-in-Err-Closed.ensures
