use Rattle.std.proofs.Common.{rules, [], refl, sym, ap, ◌∙◌, subst, Err}
use Rattle.juses.specs.Told.{nothing}
use Rattle.jpass.proofs.Again.{still_on, asked_later}
use Rattle.jpass.specs.Used.{Used, Asked, AskedOnce}
use Rattle.jpass.specs.UsedLaws.{used_none}
use Rattle.jpass.proofs.turns.ask.Goals as goal

pub loop-init : goal.loop-init
loop-init g c = record { still = λ helped. used_none c.args.thread helped c.args.pass; same = refl; of = search rules }

pub returns-in-Ok : goal.returns-in-Ok
returns-in-Ok g c =
    let o : Asked c.args.thread c.loop.pass c.args.who.now c.loop.asked c.ask_once-after.result.0 c.in-Ok.answer = search rules in
    asked_later c.args.thread c.args.pass c.loop.pass c.ask_once-after.result.0 c.loop.invariant.still c.args.who.now c.args.asked c.loop.asked c.in-Ok.answer c.loop.invariant.same o

pub park-pass-requires : goal.park-pass-requires
park-pass-requires g c =
    let o : AskedOnce c.args.thread c.loop.pass c.args.who.now c.loop.asked c.ask_once-after.result.0 (Err c.in-Err.given) = search rules in
    (o.1 []).grew.turn ∙ c.loop.invariant.of

pub loop-preserved : goal.loop-preserved
loop-preserved g c =
    let o : AskedOnce c.args.thread c.loop.pass c.args.who.now c.loop.asked c.ask_once-after.result.0 (Err c.in-Err.given) = search rules in
    record {
      still = λ helped. subst (λ q. Used c.args.thread helped c.args.pass nothing q) (sym c.park-pass.ensures)
          (still_on c.args.thread c.args.pass c.loop.pass c.ask_once-after.result.0 c.loop.invariant.still o.1 helped);
      same = o.0 ∙ c.loop.invariant.same;
      of = ap (λ q. q.turn) c.park-pass.ensures ∙ ((o.1 []).grew.turn ∙ c.loop.invariant.of);
    }
