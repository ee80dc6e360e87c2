use Rattle.std.proofs.Common.{ap, sym, subst, ◌∙◌}
use Rattle.jselect.specs.Items.{item_count}
use Rattle.jselect.specs.Picking.{items_at}
use Rattle.jcut.specs.Picks.{Picks}
use Rattle.jcut.proofs.Pieced.{nth_listed, holds_at}
use Rattle.jcut.proofs.pieces.piece_listed.Goals as goal

pub items_listed-requires : goal.items_listed-requires
items_listed-requires c =
    subst (Picks (item_count c.args.whole.now.noun)) (sym c.items.ensures)
    (holds_at (Picks (item_count c.args.whole.now.noun)) c.args.lists.now c.args.number c.nth_list-list.result.now c.requires.within c.requires.number c.nth_list-list.ensures)

pub returns : goal.returns
returns c =
    nth_listed c.args.whole.now.noun c.args.lists.now c.args.number c.nth_list-list.result.now _ c.nth_list-list.ensures
    (ap (λ a. a.noun) c.of.ensures ∙ c.in_ok-piece.ensures ∙ ap (λ l. items_at l c.args.whole.now.noun) c.items.ensures)
