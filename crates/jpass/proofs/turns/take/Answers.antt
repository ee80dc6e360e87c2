use Rattle.std.proofs.Common.{rules, [], sym, ap, ◌∙◌, subst, Ok, Err}
use Rattle.juses.specs.Told.{nothing}
use Rattle.juses.specs.declared.uses.Halt.TheVariants.{Wait, NoMemory, Closed}
use Rattle.jpass.proofs.Again.{still_on, sought_later, sought_closed, sought_no_memory}
use Rattle.jpass.specs.Used.{Used, Sought, AsksAgain}
use Rattle.jpass.specs.UsedLaws.{used_none}
use Rattle.jpass.proofs.turns.take.Goals as goal

pub loop-init : goal.loop-init
loop-init g c = record { still = λ helped. used_none c.args.thread helped c.args.pass; of = search rules }

pub returns-in-Ok : goal.returns-in-Ok
returns-in-Ok g c =
    let o : Sought AsksAgain c.args.thread c.loop.pass c.args.why.now c.take_once-after.result.0 (Ok c.in-Ok.given) = search rules in
    sought_later c.args.thread c.args.pass c.loop.pass c.take_once-after.result.0 c.loop.invariant.still c.args.why.now c.in-Ok.given o

pub returns-in-Err-NoMemory : goal.returns-in-Err-NoMemory
returns-in-Err-NoMemory g c =
    let o : Sought AsksAgain c.args.thread c.loop.pass c.args.why.now c.take_once-after.result.0 (Err NoMemory) = search rules in
    sought_no_memory c.args.thread c.args.pass c.loop.pass c.take_once-after.result.0 c.loop.invariant.still c.args.why.now o

pub returns-in-Err-Closed : goal.returns-in-Err-Closed
returns-in-Err-Closed g c =
    let o : Sought AsksAgain c.args.thread c.loop.pass c.args.why.now c.take_once-after.result.0 (Err (Closed c.in-Err-Closed.cause)) = search rules in
    sought_closed c.args.thread c.args.pass c.loop.pass c.take_once-after.result.0 c.loop.invariant.still c.args.why.now c.in-Err-Closed.cause o

pub park-pass-requires : goal.park-pass-requires
park-pass-requires g c =
    let o : Sought AsksAgain c.args.thread c.loop.pass c.args.why.now c.take_once-after.result.0 (Err Wait) = search rules in
    (o.0 []).grew.turn ∙ c.loop.invariant.of

pub loop-preserved : goal.loop-preserved
loop-preserved g c =
    let o : Sought AsksAgain c.args.thread c.loop.pass c.args.why.now c.take_once-after.result.0 (Err Wait) = search rules in
    record {
      still = λ helped. subst (λ q. Used c.args.thread helped c.args.pass nothing q) (sym c.park-pass.ensures)
          (still_on c.args.thread c.args.pass c.loop.pass c.take_once-after.result.0 c.loop.invariant.still o.0 helped);
      of = ap (λ q. q.turn) c.park-pass.ensures ∙ ((o.0 []).grew.turn ∙ c.loop.invariant.of);
    }
