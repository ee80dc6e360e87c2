use Rattle.std.proofs.Common.{◌≡◌, [], ◌∷◌, List, ℕ, Ok, Err, subst, ap, refl}
use Rattle.juses.proofs.Doing.{Relations}
use Rattle.juses.specs.Events.{RunsWhole}
use Rattle.jeval.specs.Eval.{Evaluator}
use Rattle.jeval.specs.Made.{beside}
use Rattle.jeval.specs.Sentence.{sentence}
use Rattle.jsession.specs.Ran.{well, ill}
use Rattle.jsession.proofs.Sessions.{ran_sentence, stopped}
use Rattle.jsession.proofs.running.run_sentence.Goals as goal

pub returns-in-Ok-shown-clause-ran : goal.returns-in-Ok-shown-clause-ran
returns-in-Ok-shown-clause-ran g c =
    let u : Relations g.row.U.Denot = record { leads = g.U.Uses.leads; refuses = g.U.Uses.refuses; stays = g.met.U.Uses.stays; joins = g.met.U.Uses.joins } in
    let is : c.send_prints.new.eval.state ≡ c.evaluate-shown.new.eval.state = ap (λ (e : Evaluator g.row.U.Denot). e.state) c.send_prints.ensures.same in
    let P : List ℕ → Type 0 = λ who. RunsWhole g.U.Uses.leads g.U.Uses.refuses who c.args.eval.now.uses c.evaluate-shown.new.eval.uses (sentence c.args.eval.now.turns (c.args.line.now ∷ []) c.args.eval.now.state) (Ok (c.in-Ok-shown.field-0, c.evaluate-shown.new.eval.state)) in
    rw is (ran_sentence u c.args.eval.now.uses c.evaluate-shown.new.eval.uses c.send_prints.new.eval.uses c.args.eval.now.turns c.args.line.now c.args.eval.now.state c.evaluate-shown.new.eval.state c.in-Ok-shown.field-0 c.in-Ok.ensures.wrote.0 (g.K.Sink.writes c.args.out.now) (g.K.Sink.writes c.send_prints.new.out)
    (subst P c.requires.main c.in-Ok-shown.ensures.uses) c.in-Ok.ensures.wrote.1 c.in-Ok.ensures.wrote.2)

pub returns-in-Err-shown-clause-ran : goal.returns-in-Err-shown-clause-ran
returns-in-Err-shown-clause-ran g c =
    let u : Relations g.row.U.Denot = record { leads = g.U.Uses.leads; refuses = g.U.Uses.refuses; stays = g.met.U.Uses.stays; joins = g.met.U.Uses.joins } in
    let is : c.send_prints.new.eval.state ≡ c.evaluate-shown.new.eval.state = ap (λ (e : Evaluator g.row.U.Denot). e.state) c.send_prints.ensures.same in
    let P : List ℕ → Type 0 = λ who. RunsWhole g.U.Uses.leads g.U.Uses.refuses who c.args.eval.now.uses c.evaluate-shown.new.eval.uses (sentence c.args.eval.now.turns (c.args.line.now ∷ []) c.args.eval.now.state) (Err c.in-Err-shown.field-0) in
    rw is (stopped u c.args.eval.now.uses c.evaluate-shown.new.eval.uses c.send_prints.new.eval.uses c.args.eval.now.turns c.args.line.now c.args.eval.now.state c.evaluate-shown.new.eval.state (Err c.in-Err-shown.field-0) c.in-Ok.ensures.wrote.0 well (g.K.Sink.writes c.args.out.now) (g.K.Sink.writes c.send_prints.new.out) _
    (subst P c.requires.main c.in-Err-shown.ensures.uses) c.in-Ok.ensures.wrote.1 c.in-Ok.ensures.wrote.2 refl)

pub returns-in-Err-clause-ran : goal.returns-in-Err-clause-ran
returns-in-Err-clause-ran g c =
    let u : Relations g.row.U.Denot = record { leads = g.U.Uses.leads; refuses = g.U.Uses.refuses; stays = g.met.U.Uses.stays; joins = g.met.U.Uses.joins } in
    let is : c.send_prints.new.eval.state ≡ c.evaluate-shown.new.eval.state = ap (λ (e : Evaluator g.row.U.Denot). e.state) c.send_prints.ensures.same in
    let P : List ℕ → Type 0 = λ who. RunsWhole g.U.Uses.leads g.U.Uses.refuses who c.args.eval.now.uses c.evaluate-shown.new.eval.uses (sentence c.args.eval.now.turns (c.args.line.now ∷ []) c.args.eval.now.state) (beside c.evaluate-shown.result c.evaluate-shown.new.eval.state) in
    rw is (stopped u c.args.eval.now.uses c.evaluate-shown.new.eval.uses c.send_prints.new.eval.uses c.args.eval.now.turns c.args.line.now c.args.eval.now.state c.evaluate-shown.new.eval.state (beside c.evaluate-shown.result c.evaluate-shown.new.eval.state) c.in-Err.ensures.wrote.0 (ill c.in-Err.status) (g.K.Sink.writes c.args.out.now) (g.K.Sink.writes c.send_prints.new.out) c.in-Err.status
    (subst P c.requires.main c.evaluate-shown.ensures.uses) c.in-Err.ensures.wrote.1 c.in-Err.ensures.wrote.2 refl)
