-- The runs so far, and one more.
use Rattle.std.proofs.Common.{◌≡◌, ◌∷◌, ◌++◌, [], sym, ◌∙◌, arith}
use Rattle.std.proofs.lemmas.List.FromFn.{map-range_with_len_more}
use Rattle.jsplit.specs.Divisions.{run_of, how_many}
use Rattle.jsplit.proofs.Fitting.{runs_from, runs_fit_from}
use Rattle.jsplit.proofs.division.Division.runs.Goals as goal

pub loop-number-preserved : goal.loop-number-preserved
loop-number-preserved c =
    c.in_ok-push.ensures.items
    ∙ (λ i. c.loop-number.invariant i ++ c.run.ensures i ∷ [])
    ∙ sym (map-range_with_len_more (run_of c.args.self c.args.count) 0 c.loop-number.number c.loop-number.number (omega arith))

pub returns-clause-value : goal.returns-clause-value
returns-clause-value c =
    let all : c.loop-number.number ≡ how_many c.args.self c.args.count = omega (arith, c.how_many-many.ensures) in
    runs_from c.args.self c.args.count c.loop-number.number c.loop-number.runs.items c.of.result all c.of.ensures c.loop-number.invariant

pub returns-clause-within : goal.returns-clause-within
returns-clause-within c =
    let all : c.loop-number.number ≡ how_many c.args.self c.args.count = omega (arith, c.how_many-many.ensures) in
    runs_fit_from c.args.self c.args.count c.loop-number.number c.loop-number.runs.items c.of.result all c.requires.sound c.of.ensures c.loop-number.invariant
