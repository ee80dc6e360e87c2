use Rattle.std.proofs.Common.{[], ap, sym, ◌∙◌, arith}
use Rattle.std.specs.Prelude.{slice_set}
use Rattle.std.proofs.lemmas.Option.{get_or_from_slice_get}
use Rattle.jcut.proofs.Grouping.{owned_more, owned_same}
use Rattle.jcut.proofs.key.own_lists.Goals as goal
use Rattle.jcut.proofs.key.own_lists.Goals.{then-numbers-place+in_ok-push, else-numbers-place}

pub loop-place-preserved : goal.loop-place-preserved
loop-place-preserved c =
    let k = c.loop-place.place in
    let left = c.loop-place.lists in
    elim c.if-numbers-place.branch [
      | then-numbers-place+in_ok-push w ↦
          rw (w.lists-is, w.own-is)
          (owned_more c.args.numbers.now c.args.lists left _ c.loop-place.own _ k w.replace.result c.loop-place.invariant w.if-numbers-place.true
          (omega (arith, c.loop-place.invariant.long, c.requires))
          (sym (get_or_from_slice_get left k w.replace.result [] w.replace.ensures.before))
          (w.replace.ensures.after ∙ ap (slice_set left k) (w.of.ensures ∙ w.new-then-numbers-place.ensures.items))
          w.in_ok-push.ensures.ok)
      | else-numbers-place w ↦
          rw (w.lists-is, w.own-is) (owned_same c.args.numbers.now c.args.lists left c.loop-place.own k c.loop-place.invariant w.if-numbers-place.false)
    ]
