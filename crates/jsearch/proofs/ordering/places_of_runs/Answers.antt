use Rattle.std.proofs.Common.{◌≤◌, ap, sym, ◌∙◌, subst, length, map, pos, take, drop, ◌*◌, ◌≡◌, IfOk, ℕ, List, ℤ, [], ◌∷◌}
use Rattle.std.specs.List.{range_with_len}
use Rattle.jdata.specs.Limits.{most_atoms}
use Rattle.jsearch.specs.Grades.{in_order}
use Rattle.jsearch.specs.Order.{by_keys, lists_in}
use Rattle.jsearch.proofs.KeyLists.{single_order, run_order, singles, single_count, runs, as_many_runs}
use Rattle.jsearch.proofs.ordering.places_of_runs.Goals as goal

pub returns-then-size-eq1 : goal.returns-then-size-eq1
returns-then-size-eq1 g c = λ number agrees.
    let atoms = c.args.atoms.now in
    let size = c.args.size in
    let key : ℕ → List ℤ = λ p. map number (take size (drop (p * size) atoms)) in
    subst (λ n. IfOk c.places_of_keys.result (λ l. l ≡ map pos (in_order (by_keys (lists_in c.args.direction) key) n)))
    (sym (single_count atoms size c.args.count c.if-size-eq1.true c.requires.whole))
    (c.places_of_keys.ensures (λ t. number t ∷ []) key (single_order g.T.Ord.cmp number agrees) (singles number atoms size c.args.count c.if-size-eq1.true c.requires.whole))

pub places_of_keys-requires-2 : goal.places_of_keys-requires-2
places_of_keys-requires-2 g c =
    subst (λ n. n ≤ most_atoms) (sym (as_many_runs c.as_slice.result.now c.args.atoms.now c.args.size c.args.count (ap (map (λ s. s.now)) c.as_slice.ensures.value ∙ c.in_ok-runs.ensures))) c.requires.count

pub returns : goal.returns
returns g c = λ number agrees.
    let atoms = c.args.atoms.now in
    let size = c.args.size in
    let count = c.args.count in
    let key : ℕ → List ℤ = λ p. map number (take size (drop (p * size) atoms)) in
    let are = ap (map (λ s. s.now)) c.as_slice.ensures.value ∙ c.in_ok-runs.ensures in
    let long : length c.as_slice.result.now ≡ count = as_many_runs c.as_slice.result.now atoms size count are in
    subst (λ n. IfOk c.places_of_keys-2.result (λ l. l ≡ map pos (in_order (by_keys (lists_in c.args.direction) key) n))) long
    (c.places_of_keys-2.ensures (λ s. map number s.now) key (λ a b. run_order g.T.Ord.cmp number agrees a.now b.now)
    (runs number c.as_slice.result.now atoms size count are ∙ ap (λ n. map key (range_with_len 0 n)) (sym long)))
