use Rattle.std.proofs.Common.{◌≡◌, sym, subst, pos, IfOk, length, map}
use Rattle.jsearch.specs.Grades.{in_order}
use Rattle.jsearch.specs.Order.{by_keys, lists_in}
use Rattle.jsearch.proofs.ordering.places_of_keys.Goals as goal

pub returns-in-Rising : goal.returns-in-Rising
returns-in-Rising g c = λ value key agrees are.
    subst (λ d. IfOk c.places_rising.result (λ l. l ≡ map pos (in_order (by_keys (lists_in d) key) (length c.args.keys.now)))) (sym c.in-Rising.is) (c.places_rising.ensures value key agrees are)

pub returns-in-Falling : goal.returns-in-Falling
returns-in-Falling g c = λ value key agrees are.
    subst (λ d. IfOk c.places_falling.result (λ l. l ≡ map pos (in_order (by_keys (lists_in d) key) (length c.args.keys.now)))) (sym c.in-Falling.is) (c.places_falling.ensures value key agrees are)
