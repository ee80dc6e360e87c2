use Rattle.std.proofs.Common.{rules, w64, to_z, of_z, pos, false, map, ap, sym, ◌∙◌, ◌++◌, ◌+◌, replicate}
use mir.Val.{SFits}
use Rattle.jselect.specs.Copies.{count_at}
use Rattle.jselect.specs.Picking.{repeated, served}
use Rattle.jselect.proofs.Runs.{repeated_none, repeated_more}
use Rattle.jsearch.proofs.Pushed.{repeated_pushed}
use Rattle.jsearch.proofs.repeating.repeated_places.Goals as goal

pub loop-place-init : goal.loop-place-init
loop-place-init c =
    c.in_ok-places.ensures.items ∙ ap (map pos) (sym (repeated_none (count_at false c.args.counts.now) (served false)))

pub loop-place-preserved : goal.loop-place-preserved
loop-place-preserved c =
    let fits : SFits w64 c.integer-number.result = search rules in
    let count = count_at false c.args.counts.now in
    let k = c.loop-place.place in
    repeated_pushed (count k) k c.integer-number.result (repeated count (served false) k) (repeated count (served false) (k + 1)) c.loop-place.places.items c.push_times.new.into.items fits
    (c.in_ok-push_times.ensures ∙ ap (λ n. c.loop-place.places.items ++ replicate n (to_z w64 (of_z w64 c.integer-number.result))) c.count_at-count.ensures) c.integer-number.ensures (repeated_more count (served false) k) c.loop-place.invariant
