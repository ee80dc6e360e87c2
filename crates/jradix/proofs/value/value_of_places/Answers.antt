use Rattle.std.proofs.Common.{◌≡◌, ◌∙◌, ◌+◌, ◌-◌, ◌*ℤ◌, ◌+ℤ◌, ap, sym, map, Ok}
use Rattle.std.specs.List.{range_with_len}
use mir.Syntax.{w64}
use mir.Val.{to_z}
use Rattle.jradix.specs.Bases.{step, value_on, place_at}
use Rattle.jradix.proofs.Steps.{goes_on, stops_at, kept}
use Rattle.jradix.proofs.value.value_of_places.Goals as goal

pub loop-place-preserved : goal.loop-place-preserved
loop-place-preserved c =
    let place = place_at c.args.one_base c.args.bases.now c.args.one_digit c.args.digits.now in
    let i = c.loop-place.place in
    let value = to_z w64 c.loop-place.value-bits in
    let next = c.in-Ok.next in
    let taken : step value (place i) ≡ Ok next = sym c.step_at.ensures ∙ c.in-Ok.is in
    c.loop-place.invariant ∙ goes_on place i c.args.count value next c.loop-place-test.true taken
    ∙ ap (λ v. value_on v (map place (range_with_len (i + 1) (c.args.count - (i + 1))))) (kept (value *ℤ (place i).0 +ℤ (place i).1) next taken)

pub returns-in-Err : goal.returns-in-Err
returns-in-Err c =
    let place = place_at c.args.one_base c.args.bases.now c.args.one_digit c.args.digits.now in
    sym (c.loop-place.invariant ∙ stops_at place c.loop-place.place c.args.count (to_z w64 c.loop-place.value-bits) c.in-Err.fault c.loop-place-test.true (sym c.step_at.ensures ∙ c.in-Err.is))
