use Rattle.std.proofs.Common.{ap, sym, ◌∙◌, subst, map, pos, ◌≤◌, ◌≡◌, IfOk}
use Rattle.std.specs.List.{range_with_len}
use Rattle.jdata.specs.Limits.{most_atoms}
use Rattle.jsearch.specs.Grades.{in_order}
use Rattle.jsearch.specs.Order.{by_keys, lists_in}
use Rattle.jsearch.specs.declared.ordering.Direction.TheVariants.{Rising}
use Rattle.jsearch.proofs.KeyLists.{keyed_values, as_many}
use Rattle.jsearch.proofs.OrderLaws.{lists_in_total}
use Rattle.jsearch.proofs.ordering.places_rising.Goals as goal

pub places_sorted-requires-clause-few : goal.places_sorted-requires-clause-few
places_sorted-requires-clause-few g c = subst (λ n. n ≤ most_atoms) (sym (as_many (λ e. e.0) c.in_ok-keyed.keyed.items c.args.keys.now c.in_ok-keyed.ensures.keys)) c.requires

pub places_sorted-requires-clause-places : goal.places_sorted-requires-clause-places
places_sorted-requires-clause-places g c =
    c.in_ok-keyed.ensures.places ∙ ap (range_with_len 0) (sym (as_many (λ e. e.0) c.in_ok-keyed.keyed.items c.args.keys.now c.in_ok-keyed.ensures.keys))

pub returns : goal.returns
returns g c = λ value key agrees are.
    let keyed = c.in_ok-keyed.keyed.items in
    let keys = c.args.keys.now in
    let long = as_many (λ e. e.0) keyed keys c.in_ok-keyed.ensures.keys in
    subst (λ n. IfOk c.places_sorted.result (λ l. l ≡ map pos (in_order (by_keys (lists_in Rising) key) n))) long
    (c.places_sorted.ensures (lists_in Rising) value key (lists_in_total Rising) agrees
    (keyed_values (λ e. e.0) value key keyed keys c.in_ok-keyed.ensures.keys are))
