use Rattle.std.proofs.Common.{rules, arith, ◌≡◌, ◌<◌, ◌≤◌, ◌+◌, ◌-◌, ℕ, List, length, sym, ◌∙◌, ap, subst}
use Rattle.std.proofs.lemmas.List.{take_rest}
use Rattle.std.proofs.lemmas.Grind.{common_steps}
use Rattle.jwords.specs.Runs.{BeginsNumber}
use Rattle.jwords.proofs.NumberLists.{list_start, list_more_at, list_last_at, run_at_is_some, step_at_is_some}
use Rattle.jwords.proofs.running.number_list_length.Goals as goal

pub loop-rest-init : goal.loop-rest-init
loop-rest-init c = record { listed = list_start BeginsNumber c.args.bytes.now c.requires; within = omega arith }

pub loop-rest-preserved : goal.loop-rest-preserved
loop-rest-preserved c = record {
  listed = list_more_at BeginsNumber c.loop-rest.at c.after_run.result c.args.bytes.now _ _ (take_rest c.args.bytes.now c.loop-rest.at)
      c.after_run.ensures.place (take_rest c.args.bytes.now (c.loop-rest.at + c.after_run.result)) c.loop-rest.invariant.listed
      (c.begins_number.ensures.0 c.if-not-begins_number.false);
  within = grind (arith, common_steps);
}

pub loop-rest-smaller : goal.loop-rest-smaller
loop-rest-smaller c =
    let some : 0 < c.after_run.result = step_at_is_some c.loop-rest.at c.after_run.result c.args.bytes.now _ (take_rest c.args.bytes.now c.loop-rest.at)
    c.after_run.ensures.place c.loop-rest.invariant.listed.here.run in
    grind (arith, common_steps)

pub returns-then-not-begins_number-clause-list : goal.returns-then-not-begins_number-clause-list
returns-then-not-begins_number-clause-list c =
    list_last_at BeginsNumber c.loop-rest.at c.after_run.result c.run_length.result c.args.bytes.now _ _ (take_rest c.args.bytes.now c.loop-rest.at)
    c.after_run.ensures.place c.run_length.ensures.run (take_rest c.args.bytes.now (c.loop-rest.at + c.after_run.result))
    c.loop-rest.invariant.listed (λ b. cc (c.begins_number.ensures.1 b, c.if-not-begins_number.true))

pub returns-then-not-begins_number-clause-within : goal.returns-then-not-begins_number-clause-within
returns-then-not-begins_number-clause-within c =
    let some : 0 < c.run_length.result = run_at_is_some c.loop-rest.at c.run_length.result c.args.bytes.now _ (take_rest c.args.bytes.now c.loop-rest.at)
    c.run_length.ensures.run c.loop-rest.invariant.listed.here.run in
    ((omega arith), grind (arith, common_steps))
