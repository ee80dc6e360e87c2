use Rattle.std.proofs.Common.{◌≡◌, ◌-◌, ◌*◌, ◌++◌, ◌∙◌, suc, arith, ap, sym, length, map, take, drop}
use Rattle.std.specs.List.{range_with_len, flat_map}
use Rattle.std.proofs.lemmas.List.{take_rest}
use Rattle.jdata.specs.Limits.{most_atoms}
use Rattle.jstruct.specs.Backward.{backward}
use Rattle.jstruct.proofs.FromLast.{backward_more, backward-map, item_fits}
use Rattle.jstruct.proofs.reversing.runs_backwards.Goals as goal

pub overflow_mul-rest : goal.overflow_mul-rest
overflow_mul-rest g c = omega (arith, item_fits (c.args.count - 1 - c.loop-i.i) c.args.size c.args.count most_atoms (omega arith) c.requires.bound)

pub slice_bounds-rest-count : goal.slice_bounds-rest-count
slice_bounds-rest-count g c = omega (arith, c.requires.whole, item_fits (c.args.count - 1 - c.loop-i.i) c.args.size c.args.count (length c.args.items.now) (omega arith) (omega (arith, c.requires.whole)))

pub loop-i-preserved : goal.loop-i-preserved
loop-i-preserved g c =
    let k = (c.args.count - 1 - c.loop-i.i) * c.args.size in
    c.in_ok-push_copies.ensures
    ∙ (λ j. c.loop-i.invariant j ++ take c.args.size (take_rest c.args.items.now k j))
    ∙ sym (backward_more c.args.count c.args.size c.loop-i.i c.args.items.now)

pub returns-clause-atoms : goal.returns-clause-atoms
unfolding backward
returns-clause-atoms g c =
    let items = c.args.items.now in
    let all : c.loop-i.i ≡ c.args.count = omega arith in
    c.leaves_of.ensures.atoms
    ∙ ap (map g.T.Item.atom) (c.loop-i.invariant ∙ ap (λ n. flat_map (λ k. take c.args.size (drop ((c.args.count - suc k) * c.args.size) items)) (range_with_len 0 n)) all)
    ∙ backward-map g.T.Item.atom c.args.count c.args.size items
