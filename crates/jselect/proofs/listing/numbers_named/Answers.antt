use Rattle.std.proofs.Common.{◌≡◌, rules, sym, ◌∙◌, ap, true, false, Ok}
use Rattle.jselect.proofs.SingleItems.{all_named, one_not_named}
use Rattle.jselect.proofs.listing.numbers_named.Goals as goal

pub returns-then-not-are_places : goal.returns-then-not-are_places
returns-then-not-are_places c =
    let no : c.are_places.result ≡ false = search rules in
    one_not_named c.args.items.now c.args.numbers.now (sym c.are_places.ensures ∙ no)

pub returns : goal.returns
returns c =
    let yes : c.are_places.result ≡ true = search rules in
    all_named c.args.items.now c.args.numbers.now (sym c.are_places.ensures ∙ yes) ∙ ap (λ l. Ok l) (sym c.in_ok-picks.ensures ∙ sym c.of.ensures)
