use Rattle.std.proofs.Common.{◌≡◌, ◌≢◌, ◌∙◌, ◌-◌, ◌+◌, ◌<◌, ◌≤◌, ◌++◌, ◌∷◌, [], ℕ, List, length, length-append, Result, Err, ap, sym, refl, subst, rules, arith, Ok, Some, None}
use Rattle.std.specs.Prelude.{FitsSigned}
use Rattle.std.proofs.lemmas.Int.{to_z-of_z}
use mir.Syntax.{w64}
use Rattle.jarray.specs.Placed.{Placed}
use Rattle.std.specs.List.{range_with_len}
use Rattle.jdata.specs.Noun.{int_atom, product}
use Rattle.jdata.specs.declared.fault.Fault.{Fault}
use Rattle.jdata.specs.declared.fault.Fault.TheVariants.{TimeLimit, Stack, Nonce}
use Rattle.juses.proofs.Doing.{Relations}
use Rattle.jterm.specs.declared.term.Term.{Term}
use Rattle.juses.specs.Program.{Return}
use Rattle.juses.specs.declared.uses.Halt.TheVariants.{NoMemory}
use Rattle.jplan.specs.Arguments.{frame, x_in}
use Rattle.jdata.specs.Limits.{most_atoms, IsShape}
use Rattle.jdata.specs.declared.noun.Noun.{Noun}
use Rattle.jdata.proofs.Extents.{product_at_most}
use Rattle.jframe.specs.Assembly.{assembled}
use Rattle.jplan.proofs.Going.{frame_given}
use Rattle.jeval.specs.Made.{Answers}
use Rattle.jplan.specs.Several.{alone}
use Rattle.jeval.specs.Cells.{cells_done, on_cell, on_cells, on_each, on_fills}
use Rattle.jeval.proofs.Celling.{goes_to_each, goes_to_fills, next_cell, no_place_left, on_args}
use Rattle.jeval.specs.declared.end.EvalEnd.TheVariants as end
use Rattle.jeval.specs.Action.{Action, answers, fails, with_turn}
use Rattle.jeval.specs.Applying.{applied, nested, ran}
use Rattle.jplan.specs.Derivations.{Derivation}
use Rattle.jplan.specs.Derivations.{on_value}
use Rattle.jplan.specs.Modifiers.{derived}
use Rattle.jplan.specs.Plans.{left_of, left_repeated, rest, rest_after, rest_repeated}
use Rattle.jplan.specs.declared.repeating.Repetition.{Repetition}
use Rattle.jeval.specs.Verbs.{primitive}
use Rattle.jeval.proofs.Making.{answered, ended_as, fails_at_once, from_same, given, is_wanting, made_as, made_at, makes_on, makes_heard, stops_by, stops_unheard}
use Rattle.jeval.proofs.Directly.{at_once, runs}
use Rattle.jeval.proofs.Stages.{Stage, stage_on, stage_stops, stage_heard, stage_same, stage_unheard}
use Rattle.jeval.proofs.Turning.{late_turn, on_time, applies_primitive, applies_constant, applies_refused, applies_derived, nested_is_late, nested_is_deep, nested_goes_down, goes_to_reference, goes_to_derived}
use Rattle.jeval.proofs.activity.Activity.+apply.Goals as goal

pub apply-returns-in-Primitive : goal.apply-returns-in-Primitive
apply-returns-in-Primitive g t c =
    let uses : Relations g.row.U.Denot = record { leads = g.U.Uses.leads; refuses = g.U.Uses.refuses; stays = g.met.U.Uses.stays; joins = g.met.U.Uses.joins } in
    made_at uses {t = c.args.self.now.state} (applies_primitive c.args.levels c.args.verb.now c.in-Primitive.verb c.args.x c.args.y c.args.self.now.state (sym c.in-Primitive.ensures))
    (answered uses (primitive c.in-Primitive.verb c.args.x c.args.y) c.primitive.result c.primitive.ensures)

pub apply-returns-in-Constant : goal.apply-returns-in-Constant
apply-returns-in-Constant g t c =
    let uses : Relations g.row.U.Denot = record { leads = g.U.Uses.leads; refuses = g.U.Uses.refuses; stays = g.met.U.Uses.stays; joins = g.met.U.Uses.joins } in
    let fits : FitsSigned w64 c.in-Constant.number = search rules in
    let is : c.of.result ≡ int_atom c.in-Constant.number = c.of.ensures ∙ ap (λ (p : Placed). p.noun) c.atom.ensures ∙ ap int_atom (to_z-of_z w64 c.in-Constant.number fits) in
    made_at uses {t = c.args.self.now.state} (applies_constant c.args.levels c.args.verb.now c.in-Constant.number c.args.x c.args.y c.args.self.now.state (sym c.in-Constant.ensures))
    (given uses (int_atom c.in-Constant.number) (Ok c.of.result) is)

pub apply-returns-in-Refused : goal.apply-returns-in-Refused
apply-returns-in-Refused g t c =
    let uses : Relations g.row.U.Denot = record { leads = g.U.Uses.leads; refuses = g.U.Uses.refuses; stays = g.met.U.Uses.stays; joins = g.met.U.Uses.joins } in
    made_at uses {t = c.args.self.now.state} (applies_refused c.args.levels c.args.verb.now c.in-Refused.fault c.args.x c.args.y c.args.self.now.state (sym c.in-Refused.ensures)) (fails_at_once uses c.in-Refused.fault)

pub apply-returns-in-Derived : goal.apply-returns-in-Derived
apply-returns-in-Derived g t c =
    let uses : Relations g.row.U.Denot = record { leads = g.U.Uses.leads; refuses = g.U.Uses.refuses; stays = g.met.U.Uses.stays; joins = g.met.U.Uses.joins } in
    made_at uses {t = c.args.self.now.state}
    (applies_derived c.args.levels c.args.verb.now c.args.x c.args.y c.args.self.now.state (sym c.in-Derived.ensures)) c.at_ranks.ensures

pub nest-returns-then-not-take_turn : goal.nest-returns-then-not-take_turn
nest-returns-then-not-take_turn g t c =
    let uses : Relations g.row.U.Denot = record { leads = g.U.Uses.leads; refuses = g.U.Uses.refuses; stays = g.met.U.Uses.stays; joins = g.met.U.Uses.joins } in
    let none = c.if-not-take_turn.ensures.none refl in
    made_at uses {t = c.take_turn.new.self}
    (nested_is_late c.args.levels c.args.verb.now c.args.x c.args.y c.args.self.now.state none.0 ∙ ap (fails TimeLimit) (sym none.1)) (fails_at_once uses TimeLimit)

pub nest-returns-then-levels-eq0 : goal.nest-returns-then-levels-eq0
nest-returns-then-levels-eq0 g t c =
    let uses : Relations g.row.U.Denot = record { leads = g.U.Uses.leads; refuses = g.U.Uses.refuses; stays = g.met.U.Uses.stays; joins = g.met.U.Uses.joins } in
    made_at uses {t = c.take_turn.new.self}
    (nested_is_deep c.args.levels c.args.verb.now c.args.x c.args.y c.args.self.now.state c.take_turn.new.self c.if-levels-eq0.true (c.if-not-take_turn.ensures.taken refl)) (fails_at_once uses Stack)

pub nest-returns : goal.nest-returns
nest-returns g t c =
    let uses : Relations g.row.U.Denot = record { leads = g.U.Uses.leads; refuses = g.U.Uses.refuses; stays = g.met.U.Uses.stays; joins = g.met.U.Uses.joins } in
    made_at uses {t = c.take_turn.new.self}
    (nested_goes_down c.args.levels c.args.verb.now c.args.x c.args.y c.args.self.now.state c.take_turn.new.self c.if-levels-eq0.false (c.if-not-take_turn.ensures.taken refl))
    c.descend.ensures

pub descend-returns-in_err-verb-in-Some : goal.descend-returns-in_err-verb-in-Some
descend-returns-in_err-verb-in-Some g t c =
    let uses : Relations g.row.U.Denot = record { leads = g.U.Uses.leads; refuses = g.U.Uses.refuses; stays = g.met.U.Uses.stays; joins = g.met.U.Uses.joins } in
    made_at uses {t = c.args.self.now.state} (goes_to_reference (applied c.args.levels) c.args.verb.now c.in-Some.reference.now c.args.x c.args.y c.args.self.now.state c.in-Some.ensures)
    (stops_by uses (λ verb. applied c.args.levels verb c.args.x c.args.y) c.from_residual.ensures c.in_err-verb-in-Some.ensures)

pub descend-returns-in_ok-verb-in-Some : goal.descend-returns-in_ok-verb-in-Some
descend-returns-in_ok-verb-in-Some g t c =
    let uses : Relations g.row.U.Denot = record { leads = g.U.Uses.leads; refuses = g.U.Uses.refuses; stays = g.met.U.Uses.stays; joins = g.met.U.Uses.joins } in
    made_at uses {t = c.args.self.now.state} (goes_to_reference (applied c.args.levels) c.args.verb.now c.in-Some.reference.now c.args.x c.args.y c.args.self.now.state c.in-Some.ensures)
    (makes_on uses (λ verb. applied c.args.levels verb c.args.x c.args.y) c.in_ok-verb-in-Some.ensures c.apply.ensures)

pub descend-returns-in-None : goal.descend-returns-in-None
descend-returns-in-None g t c =
    let uses : Relations g.row.U.Denot = record { leads = g.U.Uses.leads; refuses = g.U.Uses.refuses; stays = g.met.U.Uses.stays; joins = g.met.U.Uses.joins } in
    made_at uses {t = c.args.self.now.state} (goes_to_derived (applied c.args.levels) c.args.verb.now (derived c.args.verb.now c.args.x c.args.y) c.args.x c.args.y c.args.self.now.state c.in-None.ensures refl)
    c.unfold.ensures

-- what is had directly is what the derivation gives
pub unfold-returns-in-Some : goal.unfold-returns-in-Some
unfold-returns-in-Some g t c =
    let uses : Relations g.row.U.Denot = record { leads = g.U.Uses.leads; refuses = g.U.Uses.refuses; stays = g.met.U.Uses.stays; joins = g.met.U.Uses.joins } in
    let fits : FitsSigned w64 c.in-Some.number = search rules in
    let is : c.of.result ≡ int_atom c.in-Some.number = c.of.ensures ∙ ap (λ (p : Placed). p.noun) c.atom.ensures ∙ ap int_atom (to_z-of_z w64 c.in-Some.number fits) in
    made_at uses {t = c.args.self.now.state}
    (runs (applied c.args.levels) (at_once c.args.levels) (derived c.args.verb.now c.args.x c.args.y) (int_atom c.in-Some.number) c.in-Some.ensures c.args.self.now.state)
    (given uses (int_atom c.in-Some.number) (Ok c.of.result) is)

pub plan-returns-in-Ok : goal.plan-returns-in-Ok
plan-returns-in-Ok g t c =
    let uses : Relations g.row.U.Denot = record { leads = g.U.Uses.leads; refuses = g.U.Uses.refuses; stays = g.met.U.Uses.stays; joins = g.met.U.Uses.joins } in
    made_at uses {t = c.args.self.now.state} (ap (λ d. ran (applied c.args.levels) d c.args.self.now.state) (sym c.in-Ok.ensures))
    c.follow.ensures

pub follow-returns-in-Done : goal.follow-returns-in-Done
follow-returns-in-Done g t c =
    let uses : Relations g.row.U.Denot = record { leads = g.U.Uses.leads; refuses = g.U.Uses.refuses; stays = g.met.U.Uses.stays; joins = g.met.U.Uses.joins } in
    c.loop-at.invariant c.loop-at.self c.ended.result (made_at uses {t = c.loop-at.self.state} (ap (λ p. ran (applied c.args.levels) (rest p) c.loop-at.self.state) c.in-Done.is) (ended_as uses c.in-Done.answer c.ended.ensures))

pub follow-returns-in_err-answer-in-Apply : goal.follow-returns-in_err-answer-in-Apply
follow-returns-in_err-answer-in-Apply g t c =
    let uses : Relations g.row.U.Denot = record { leads = g.U.Uses.leads; refuses = g.U.Uses.refuses; stays = g.met.U.Uses.stays; joins = g.met.U.Uses.joins } in
    stage_unheard uses (λ answer. ran (applied c.args.levels) (rest_after c.in-Apply.after answer))
    (ap (λ p. ran (applied c.args.levels) (rest p) c.loop-at.self.state) c.in-Apply.is) c.from_residual-in_err-answer-in-Apply.ensures (sym c.in_err-answer-in-Apply.ensures) c.apply-in-Apply.ensures c.loop-at.invariant

pub follow-loop-at-preserved : goal.follow-loop-at-preserved
follow-loop-at-preserved g t c =
    let uses : Relations g.row.U.Denot = record { leads = g.U.Uses.leads; refuses = g.U.Uses.refuses; stays = g.met.U.Uses.stays; joins = g.met.U.Uses.joins } in
    let next : Derivation → Type 0 = λ d. Stage uses c.args.self.now (ran (applied c.args.levels) (rest c.args.plan)) c.apply-in-Apply.new.self (ran (applied c.args.levels) d) in
    subst next (sym c.in-Ok-resume.ensures.rest)
    (stage_heard uses (λ answer. ran (applied c.args.levels) (rest_after c.in-Apply.after answer))
    (ap (λ p. ran (applied c.args.levels) (rest p) c.loop-at.self.state) c.in-Apply.is) (sym c.in_ok-answer-in-Apply.ensures) c.apply-in-Apply.ensures c.loop-at.invariant)

pub follow-loop-at-smaller : goal.follow-loop-at-smaller
follow-loop-at-smaller g t c =
    let fewer = c.in-Ok-resume.ensures.left in
    let was = ap left_of c.in-Apply.is in
    omega (arith, fewer, was)

pub follow-returns-in_default-resume : goal.follow-returns-in_default-resume
follow-returns-in_default-resume g t c =
    let uses : Relations g.row.U.Denot = record { leads = g.U.Uses.leads; refuses = g.U.Uses.refuses; stays = g.met.U.Uses.stays; joins = g.met.U.Uses.joins } in
    stage_heard uses (λ answer. ran (applied c.args.levels) (rest_after c.in-Apply.after answer))
    (ap (λ p. ran (applied c.args.levels) (rest p) c.loop-at.self.state) c.in-Apply.is) (sym c.in_ok-answer-in-Apply.ensures) c.apply-in-Apply.ensures c.loop-at.invariant
    c.apply-in-Apply.new.self (Err (end.Halt NoMemory)) (is_wanting uses c.apply-in-Apply.new.self (ran (applied c.args.levels) (rest_after c.in-Apply.after c.in_ok-answer-in-Apply.answer)))

pub each_cell-returns-in_default-clause-made : goal.each_cell-returns-in_default-clause-made
each_cell-returns-in_default-clause-made g t c =
    let uses : Relations g.row.U.Denot = record { leads = g.U.Uses.leads; refuses = g.U.Uses.refuses; stays = g.met.U.Uses.stays; joins = g.met.U.Uses.joins } in
    let a = c.args.cells.now in
    let cell = on_cell (nested c.args.levels c.args.verb.now) a.left a.right (x_in a.x) a.y.value a.frame in
    c.loop-at.invariant.0 c.loop-at.self (Err (end.Halt NoMemory)) (is_wanting uses c.loop-at.self (cells_done cell (range_with_len c.loop-at.at (product a.frame - c.loop-at.at)) c.loop-at.results))

pub each_cell-returns-in_err-value-clause-made : goal.each_cell-returns-in_err-value-clause-made
each_cell-returns-in_err-value-clause-made g t c =
    let uses : Relations g.row.U.Denot = record { leads = g.U.Uses.leads; refuses = g.U.Uses.refuses; stays = g.met.U.Uses.stays; joins = g.met.U.Uses.joins } in
    let a = c.args.cells.now in
    let n = product a.frame in
    let at = c.loop-at.at in
    let one = nested c.args.levels c.args.verb.now in
    let cell = on_cell one a.left a.right (x_in a.x) a.y.value a.frame in
    let on : Noun → Action (List Noun) = λ v. cells_done cell (range_with_len (at + 1) (n - (at + 1))) (c.loop-at.results ++ v ∷ []) in
    let many : c.product-at-end.result ≡ n = c.product-at-end.ensures ∙ ap product c.frame-2.ensures in
    let below : at < n = omega (arith, c.loop-at-test.true, many) in
    stage_stops uses on (next_cell cell at n c.loop-at.results c.loop-at.self.state below) c.from_residual.ensures
    (on_args uses one c.in-Ok.ensures.x c.in-Ok.ensures.y c.in_err-value.ensures) c.loop-at.invariant.0

pub each_cell-push-requires : goal.each_cell-push-requires
each_cell-push-requires g t c =
    let a = c.args.cells.now in
    let whole = a.frame in
    let many : c.product-at-end.result ≡ product whole = c.product-at-end.ensures ∙ ap product c.frame-2.ensures in
    let within = subst IsShape (c.axes-axes.ensures.axes ∙ c.frame.ensures) c.axes-axes.ensures.shape in
    let few : product whole ≤ most_atoms = omega (arith, product_at_most whole, within.extent_at_most) in
    record { few = omega (arith, c.loop-at.invariant.1, c.loop-at-test.true, many, few) }

pub each_cell-returns-then-is_err-clause-made : goal.each_cell-returns-then-is_err-clause-made
each_cell-returns-then-is_err-clause-made g t c =
    let uses : Relations g.row.U.Denot = record { leads = g.U.Uses.leads; refuses = g.U.Uses.refuses; stays = g.met.U.Uses.stays; joins = g.met.U.Uses.joins } in
    let a = c.args.cells.now in
    let n = product a.frame in
    let at = c.loop-at.at in
    let one = nested c.args.levels c.args.verb.now in
    let cell = on_cell one a.left a.right (x_in a.x) a.y.value a.frame in
    let on : Noun → Action (List Noun) = λ v. cells_done cell (range_with_len (at + 1) (n - (at + 1))) (c.loop-at.results ++ v ∷ []) in
    let many : c.product-at-end.result ≡ n = c.product-at-end.ensures ∙ ap product c.frame-2.ensures in
    let below : at < n = omega (arith, c.loop-at-test.true, many) in
    let b = c.nest.new.self in
    let v = c.in_ok-value.value in
    let step = stage_on uses on (next_cell cell at n c.loop-at.results c.loop-at.self.state below) (on_args uses one c.in-Ok.ensures.x c.in-Ok.ensures.y c.in_ok-value.ensures) c.loop-at.invariant.0 in
    let d = record b { room = c.push.new.room } in
    step d (Err (end.Halt NoMemory)) (from_same uses {a = b} {c = d} refl refl refl (is_wanting uses d (on v)))

pub each_cell-loop-at-preserved : goal.each_cell-loop-at-preserved
each_cell-loop-at-preserved g t c =
    let uses : Relations g.row.U.Denot = record { leads = g.U.Uses.leads; refuses = g.U.Uses.refuses; stays = g.met.U.Uses.stays; joins = g.met.U.Uses.joins } in
    let a = c.args.cells.now in
    let n = product a.frame in
    let at = c.loop-at.at in
    let one = nested c.args.levels c.args.verb.now in
    let cell = on_cell one a.left a.right (x_in a.x) a.y.value a.frame in
    let on : Noun → Action (List Noun) = λ v. cells_done cell (range_with_len (at + 1) (n - (at + 1))) (c.loop-at.results ++ v ∷ []) in
    let many : c.product-at-end.result ≡ n = c.product-at-end.ensures ∙ ap product c.frame-2.ensures in
    let below : at < n = omega (arith, c.loop-at-test.true, many) in
    let b = c.nest.new.self in
    let v = c.in_ok-value.value in
    let step = stage_on uses on (next_cell cell at n c.loop-at.results c.loop-at.self.state below) (on_args uses one c.in-Ok.ensures.x c.in-Ok.ensures.y c.in_ok-value.ensures) c.loop-at.invariant.0 in
    let d = record b { room = c.push.new.room } in
    let pushed : c.push.new.self ≡ c.loop-at.results ++ c.into_array.result.noun ∷ [] = search rules in
    let more : c.push.new.self ≡ c.loop-at.results ++ v ∷ [] = pushed ∙ ap (λ w. c.loop-at.results ++ w ∷ []) c.into_array.ensures in
    let whole = on_each one a.left a.right (x_in a.x) a.y.value a.frame in
    let P : List Noun → Type 0 = λ vs. Stage uses c.args.self.now whole d (cells_done cell (range_with_len (at + 1) (n - (at + 1))) vs) in
    let long : length c.push.new.self ≡ at + 1 = ap length more ∙ length-append c.loop-at.results (v ∷ []) ∙ ap (λ m. m + 1) c.loop-at.invariant.1 in
    (subst P (sym more) (stage_same uses {a = b} {b = d} refl refl refl step), long)

pub each_cell-returns-clause-made : goal.each_cell-returns-clause-made
each_cell-returns-clause-made g t c =
    let uses : Relations g.row.U.Denot = record { leads = g.U.Uses.leads; refuses = g.U.Uses.refuses; stays = g.met.U.Uses.stays; joins = g.met.U.Uses.joins } in
    let a = c.args.cells.now in
    let n = product a.frame in
    let at = c.loop-at.at in
    let cell = on_cell (nested c.args.levels c.args.verb.now) a.left a.right (x_in a.x) a.y.value a.frame in
    let many : c.product-at-end.result ≡ n = c.product-at-end.ensures ∙ ap product c.frame-2.ensures in
    let all : at ≡ n = omega (arith, c.loop-at-test.false, c.loop-at.auto.at-end, many) in
    let none = ap (λ l. cells_done cell l c.loop-at.results c.loop-at.self.state) (no_place_left at n all) in
    c.loop-at.invariant.0 c.loop-at.self (Ok c.loop-at.results) (made_at uses {t = c.loop-at.self.state} none (given uses c.loop-at.results (Ok c.loop-at.results) refl))

pub in_cells-returns-in_err-cells : goal.in_cells-returns-in_err-cells
in_cells-returns-in_err-cells g t c =
    let uses : Relations g.row.U.Denot = record { leads = g.U.Uses.leads; refuses = g.U.Uses.refuses; stays = g.met.U.Uses.stays; joins = g.met.U.Uses.joins } in
    let one = nested c.args.levels c.args.verb.now in
    stops_by uses (on_cells one c.args.left c.args.right c.args.x c.args.y) c.from_residual.ensures
    (answered uses {a = c.args.self.now} (frame c.args.left c.args.right c.args.x c.args.y) (Err c.in_err-cells.field-0.0) c.in_err-cells.ensures.err)

pub in_cells-returns-then-product-eq0 : goal.in_cells-returns-then-product-eq0
in_cells-returns-then-product-eq0 g t c =
    let uses : Relations g.row.U.Denot = record { leads = g.U.Uses.leads; refuses = g.U.Uses.refuses; stays = g.met.U.Uses.stays; joins = g.met.U.Uses.joins } in
    let l = c.args.left in
    let r = c.args.right in
    let x = c.args.x in
    let y = c.args.y in
    let one = nested c.args.levels c.args.verb.now in
    let a = c.in_ok-cells.cells in
    let (li, ri, xi, yi) = c.in_ok-cells.ensures.ok in
    let there : frame l r x y ≡ Ok a.frame = frame_given a l r x y li ri xi yi in
    let parted = answered uses {a = c.args.self.now} (frame l r x y) (Ok a.frame) there in
    let many : c.product.result ≡ product a.frame = c.product.ensures ∙ ap product c.frame.ensures in
    let none : product a.frame ≡ 0 = sym many ∙ c.if-product-eq0.true in
    makes_on uses (on_cells one l r x y) parted (made_at uses {t = c.args.self.now.state} (goes_to_fills one l r x y a.frame c.args.self.now.state none)
    (made_as uses (λ i. on_fills one (li i) (ri i) (xi i) (yi i) a.frame) c.on_fills.ensures))

pub in_cells-returns-in_err-results : goal.in_cells-returns-in_err-results
in_cells-returns-in_err-results g t c =
    let uses : Relations g.row.U.Denot = record { leads = g.U.Uses.leads; refuses = g.U.Uses.refuses; stays = g.met.U.Uses.stays; joins = g.met.U.Uses.joins } in
    let l = c.args.left in
    let r = c.args.right in
    let x = c.args.x in
    let y = c.args.y in
    let one = nested c.args.levels c.args.verb.now in
    let a = c.in_ok-cells.cells in
    let (li, ri, xi, yi) = c.in_ok-cells.ensures.ok in
    let there : frame l r x y ≡ Ok a.frame = frame_given a l r x y li ri xi yi in
    let parted = answered uses {a = c.args.self.now} (frame l r x y) (Ok a.frame) there in
    let many : c.product.result ≡ product a.frame = c.product.ensures ∙ ap product c.frame.ensures in
    let some : product a.frame ≢ 0 = λ none. c.if-product-eq0.false (many ∙ none) in
    makes_on uses (on_cells one l r x y) parted (made_at uses {t = c.args.self.now.state} (goes_to_each one l r x y a.frame c.args.self.now.state some)
    (stops_by uses (λ results. answers (assembled a.frame results)) c.from_residual-in_err-results.ensures
    (made_as uses (λ i. on_each one (li i) (ri i) (xi i) (yi i) a.frame) c.in_err-results.ensures.made)))

pub in_cells-returns : goal.in_cells-returns
in_cells-returns g t c =
    let uses : Relations g.row.U.Denot = record { leads = g.U.Uses.leads; refuses = g.U.Uses.refuses; stays = g.met.U.Uses.stays; joins = g.met.U.Uses.joins } in
    let l = c.args.left in
    let r = c.args.right in
    let x = c.args.x in
    let y = c.args.y in
    let one = nested c.args.levels c.args.verb.now in
    let a = c.in_ok-cells.cells in
    let (li, ri, xi, yi) = c.in_ok-cells.ensures.ok in
    let there : frame l r x y ≡ Ok a.frame = frame_given a l r x y li ri xi yi in
    let parted = answered uses {a = c.args.self.now} (frame l r x y) (Ok a.frame) there in
    let many : c.product.result ≡ product a.frame = c.product.ensures ∙ ap product c.frame.ensures in
    let some : product a.frame ≢ 0 = λ none. c.if-product-eq0.false (many ∙ none) in
    let b = c.each_cell.new.self in
    let vs = c.in_ok-results.results in
    let whole = subst (λ (w : List ℕ). Answers {A = Noun} (assembled w vs) c.finished.result) c.frame-2.ensures c.finished.ensures in
    makes_on uses (on_cells one l r x y) parted (made_at uses {t = c.args.self.now.state} (goes_to_each one l r x y a.frame c.args.self.now.state some)
    (makes_on uses (λ results. answers (assembled a.frame results)) (made_as uses (λ i. on_each one (li i) (ri i) (xi i) (yi i) a.frame) c.in_ok-results.ensures.made)
    (answered uses {a = b} (assembled a.frame vs) c.finished.result whole)))

pub on_fills-returns-in_err-answer : goal.on_fills-returns-in_err-answer
on_fills-returns-in_err-answer g t c =
    let uses : Relations g.row.U.Denot = record { leads = g.U.Uses.leads; refuses = g.U.Uses.refuses; stays = g.met.U.Uses.stays; joins = g.met.U.Uses.joins } in
    let a = c.args.cells.now in
    let one = nested c.args.levels c.args.verb.now in
    stops_unheard uses (λ answer. answers (alone a.frame answer)) c.from_residual.ensures (sym c.in_err-answer.ensures)
    (on_args uses one c.in-Ok.ensures.x c.in-Ok.ensures.y c.nest.ensures)

pub on_fills-returns : goal.on_fills-returns
on_fills-returns g t c =
    let uses : Relations g.row.U.Denot = record { leads = g.U.Uses.leads; refuses = g.U.Uses.refuses; stays = g.met.U.Uses.stays; joins = g.met.U.Uses.joins } in
    let a = c.args.cells.now in
    let one = nested c.args.levels c.args.verb.now in
    let b = c.nest.new.self in
    let d = record b { room = c.alone.new.room } in
    let answer = c.in_ok-answer.answer in
    let only = subst (λ (w : List ℕ). Answers {A = Noun} (alone w answer) c.alone.result) c.frame.ensures c.alone.ensures in
    makes_heard uses (λ answer. answers (alone a.frame answer)) (sym c.in_ok-answer.ensures)
    (on_args uses one c.in-Ok.ensures.x c.in-Ok.ensures.y c.nest.ensures)
    (from_same uses {a = b} {c = d} refl refl refl (answered uses {a = d} (alone a.frame answer) c.alone.result only))

-- the verb that undoes another is the last
pub follow-returns-in_err-answer-in-Undo : goal.follow-returns-in_err-answer-in-Undo
follow-returns-in_err-answer-in-Undo g t c =
    let uses : Relations g.row.U.Denot = record { leads = g.U.Uses.leads; refuses = g.U.Uses.refuses; stays = g.met.U.Uses.stays; joins = g.met.U.Uses.joins } in
    stage_unheard uses (λ answer. ran (applied c.args.levels) (Return answer))
    (ap (λ p. ran (applied c.args.levels) (rest p) c.loop-at.self.state) c.in-Undo.is) c.from_residual.ensures (sym c.in_err-answer-in-Undo.ensures) (made_as uses (ap (λ (v : Term). applied c.args.levels v None c.in-Undo.y) c.deref.ensures) c.apply.ensures) c.loop-at.invariant

pub follow-returns-in-Undo : goal.follow-returns-in-Undo
follow-returns-in-Undo g t c =
    let uses : Relations g.row.U.Denot = record { leads = g.U.Uses.leads; refuses = g.U.Uses.refuses; stays = g.met.U.Uses.stays; joins = g.met.U.Uses.joins } in
    stage_heard uses (λ answer. ran (applied c.args.levels) (Return answer))
    (ap (λ p. ran (applied c.args.levels) (rest p) c.loop-at.self.state) c.in-Undo.is) (sym c.in_ok-answer-in-Undo.ensures) (made_as uses (ap (λ (v : Term). applied c.args.levels v None c.in-Undo.y) c.deref.ensures) c.apply.ensures) c.loop-at.invariant
    c.apply.new.self c.ended-in-Undo.result (ended_as uses c.in_ok-answer-in-Undo.answer c.ended-in-Undo.ensures)

-- a repetition takes a turn
pub repeat-returns-then-not-take_turn : goal.repeat-returns-then-not-take_turn
repeat-returns-then-not-take_turn g t c =
    let uses : Relations g.row.U.Denot = record { leads = g.U.Uses.leads; refuses = g.U.Uses.refuses; stays = g.met.U.Uses.stays; joins = g.met.U.Uses.joins } in
    let none = c.if-not-take_turn.ensures.none refl in
    made_at uses {t = c.take_turn.new.self}
    (late_turn (applied c.args.levels c.args.verb.now None c.args.y) c.args.self.now.state none.0 ∙ ap (fails TimeLimit) (sym none.1)) (fails_at_once uses TimeLimit)

pub repeat-returns : goal.repeat-returns
repeat-returns g t c =
    let uses : Relations g.row.U.Denot = record { leads = g.U.Uses.leads; refuses = g.U.Uses.refuses; stays = g.met.U.Uses.stays; joins = g.met.U.Uses.joins } in
    made_at uses {t = c.take_turn.new.self}
    (on_time (applied c.args.levels c.args.verb.now None c.args.y) c.args.self.now.state c.take_turn.new.self (c.if-not-take_turn.ensures.taken refl)) c.apply.ensures

pub follow-returns-in_err-answer-in-Again : goal.follow-returns-in_err-answer-in-Again
follow-returns-in_err-answer-in-Again g t c =
    let uses : Relations g.row.U.Denot = record { leads = g.U.Uses.leads; refuses = g.U.Uses.refuses; stays = g.met.U.Uses.stays; joins = g.met.U.Uses.joins } in
    let run = c.in-Again.run'.value in
    let next : Result Noun Fault → Action Noun = λ answer. ran (applied c.args.levels) (on_value (rest_repeated run.verb.value run.goal) answer) in
    let is = ap (λ p. ran (applied c.args.levels) (rest p) c.loop-at.self.state) c.in-Again.is in
    let verb_is = c.verb.ensures ∙ ap (λ (r : Repetition). r.verb.value) c.deref-in-Again.ensures in
    let made = made_as uses (ap (λ (v : Term). with_turn (applied c.args.levels v None c.in-Again.y)) verb_is) c.repeat.ensures in
    stage_unheard uses next is c.from_residual-in_err-answer-in-Again.ensures (sym c.in_err-answer-in-Again.ensures) made c.loop-at.invariant

pub follow-loop-at-preserved-in-Again : goal.follow-loop-at-preserved-in-Again
follow-loop-at-preserved-in-Again g t c =
    let uses : Relations g.row.U.Denot = record { leads = g.U.Uses.leads; refuses = g.U.Uses.refuses; stays = g.met.U.Uses.stays; joins = g.met.U.Uses.joins } in
    let run = c.in-Again.run'.value in
    let next : Result Noun Fault → Action Noun = λ answer. ran (applied c.args.levels) (on_value (rest_repeated run.verb.value run.goal) answer) in
    let is = ap (λ p. ran (applied c.args.levels) (rest p) c.loop-at.self.state) c.in-Again.is in
    let verb_is = c.verb.ensures ∙ ap (λ (r : Repetition). r.verb.value) c.deref-in-Again.ensures in
    let made = made_as uses (ap (λ (v : Term). with_turn (applied c.args.levels v None c.in-Again.y)) verb_is) c.repeat.ensures in
    let after : Derivation → Type 0 = λ d. Stage uses c.args.self.now (ran (applied c.args.levels) (rest c.args.plan)) c.repeat.new.self (ran (applied c.args.levels) d) in
    let left = c.in-Ok.ensures.rest ∙ ap (λ (r : Repetition). on_value (rest_repeated r.verb.value r.goal) c.in_ok-answer-in-Again.answer) c.into_inner.ensures in
    subst after (sym left) (stage_heard uses next is (sym c.in_ok-answer-in-Again.ensures) made c.loop-at.invariant)

pub follow-returns-in_default : goal.follow-returns-in_default
follow-returns-in_default g t c =
    let uses : Relations g.row.U.Denot = record { leads = g.U.Uses.leads; refuses = g.U.Uses.refuses; stays = g.met.U.Uses.stays; joins = g.met.U.Uses.joins } in
    let run = c.in-Again.run'.value in
    let next : Result Noun Fault → Action Noun = λ answer. ran (applied c.args.levels) (on_value (rest_repeated run.verb.value run.goal) answer) in
    let is = ap (λ p. ran (applied c.args.levels) (rest p) c.loop-at.self.state) c.in-Again.is in
    let verb_is = c.verb.ensures ∙ ap (λ (r : Repetition). r.verb.value) c.deref-in-Again.ensures in
    let made = made_as uses (ap (λ (v : Term). with_turn (applied c.args.levels v None c.in-Again.y)) verb_is) c.repeat.ensures in
    stage_heard uses next is (sym c.in_ok-answer-in-Again.ensures) made c.loop-at.invariant
    c.repeat.new.self (Err (end.Halt NoMemory)) (is_wanting uses c.repeat.new.self (next c.in_ok-answer-in-Again.answer))
