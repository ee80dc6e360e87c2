use Rattle.std.proofs.Common.{◌≡◌, ◌∙◌, ◌∷◌, [], ℕ, length, refl, sym, ap, subst, arith}
use Rattle.juses.proofs.Doing.{Relations}
use Rattle.jeval.specs.Eval.{Evaluator, moved_on}
use Rattle.jsession.specs.Broke.{Stopped}
use Rattle.jsession.specs.Items.{sentences}
use Rattle.jsession.specs.Ran.{RanSentence, moment, ill}
use Rattle.jsession.specs.Sessions.{at}
use Rattle.jsession.proofs.Sessions.{empty_of, went_on, went_down, went_out}
use Rattle.jsession.proofs.running.run_lines.Goals as goal

pub loop-rest-preserved : goal.loop-rest-preserved
loop-rest-preserved g c =
    let u : Relations g.row.U.Denot = record { leads = g.U.Uses.leads; refuses = g.U.Uses.refuses; stays = g.met.U.Uses.stays; joins = g.met.U.Uses.joins } in
    let T = c.args.eval.now.turns in
    let here = at c.loop-rest.eval (g.K.Sink.writes c.loop-rest.out) in
    let there = at c.run_sentence.new.eval (g.K.Sink.writes c.run_sentence.new.out) in
    let line = c.next_line-line.result.text.now in
    let lines = sentences c.next_line-line.result.rest.now in
    let kept : c.loop-rest.eval.turns ≡ T = ap (λ (e : Evaluator g.row.U.Denot). e.turns) c.loop-rest.invariant.same in
    let split : sentences c.loop-rest.rest.now ≡ line ∷ lines = rw (c.next_line-line.ensures.lines, sym c.if-not-is_sentence.ensures) refl in
    let P : ℕ → Type 0 = λ n. RanSentence g.U.Uses.leads n line here there in
    record {
      stage = λ v answer further. c.loop-rest.invariant.stage v answer (rw split (went_on u g.U.Uses.drained T line lines here there v answer (subst P kept c.in-Ok.ensures.ran) c.in-Ok.ensures.all further));
      heads = c.in-Ok.ensures.heads;
      pieces = omega (arith, c.loop-rest.invariant.pieces, c.in-Ok.ensures.one, ap length split);
      same = c.in-Ok.ensures.same ∙ ap (λ (e : Evaluator g.row.U.Denot). moved_on e c.run_sentence.new.eval.uses c.run_sentence.new.eval.state) c.loop-rest.invariant.same;
      count = omega (arith, c.loop-rest.invariant.count, c.in-Ok.ensures.count);
    }

pub returns-in-Err-clause-went : goal.returns-in-Err-clause-went
returns-in-Err-clause-went g c =
    let u : Relations g.row.U.Denot = record { leads = g.U.Uses.leads; refuses = g.U.Uses.refuses; stays = g.met.U.Uses.stays; joins = g.met.U.Uses.joins } in
    let T = c.args.eval.now.turns in
    let here = at c.loop-rest.eval (g.K.Sink.writes c.loop-rest.out) in
    let there = at c.run_sentence.new.eval (g.K.Sink.writes c.run_sentence.new.out) in
    let line = c.next_line-line.result.text.now in
    let lines = sentences c.next_line-line.result.rest.now in
    let kept : c.loop-rest.eval.turns ≡ T = ap (λ (e : Evaluator g.row.U.Denot). e.turns) c.loop-rest.invariant.same in
    let split : sentences c.loop-rest.rest.now ≡ line ∷ lines = rw (c.next_line-line.ensures.lines, sym c.if-not-is_sentence.ensures) refl in
    let P : ℕ → Type 0 = λ n. Stopped g.U.Uses.leads g.U.Uses.refuses n (line ∷ []) here there c.in-Err.status in
    c.loop-rest.invariant.stage there (ill c.in-Err.status) (rw split (went_down u g.U.Uses.drained T line lines here there c.in-Err.status (subst P kept c.in-Err.ensures.ran) c.in-Err.ensures.none_left))

pub returns-clause-went : goal.returns-clause-went
returns-clause-went g c =
    let u : Relations g.row.U.Denot = record { leads = g.U.Uses.leads; refuses = g.U.Uses.refuses; stays = g.met.U.Uses.stays; joins = g.met.U.Uses.joins } in
    let is : c.send_prints.new.eval.state ≡ c.loop-rest.eval.state = ap (λ (e : Evaluator g.row.U.Denot). e.state) c.send_prints.ensures.same in
    let none : sentences c.loop-rest.rest.now ≡ [] = ap sentences (empty_of c.loop-rest.rest.now (sym c.loop-rest-test.false ∙ c.is_empty.ensures)) in
    rw is (c.loop-rest.invariant.stage (moment c.send_prints.new.eval.uses c.loop-rest.eval.state (g.K.Sink.writes c.send_prints.new.out)) c.send_prints.result
    (rw none (went_out u g.U.Uses.drained c.args.eval.now.turns c.loop-rest.eval.uses c.send_prints.new.eval.uses c.loop-rest.eval.state c.send_prints.ensures.wrote.0
    (g.K.Sink.writes c.loop-rest.out) (g.K.Sink.writes c.send_prints.new.out) c.send_prints.result
    c.send_prints.ensures.wrote.1 c.send_prints.ensures.all c.send_prints.ensures.none_left c.send_prints.ensures.wrote.2)))
