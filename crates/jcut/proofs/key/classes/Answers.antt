use Rattle.std.proofs.Common.{◌≡◌, subst, sym, arith}
use Rattle.std.specs.List.{All}
use Rattle.jselect.specs.Items.{item_count}
use Rattle.jcut.specs.Picks.{Picks}
use Rattle.jcut.proofs.Alike.{classes_pick}
use Rattle.jcut.proofs.key.classes.Goals as goal

pub listed-requires : goal.listed-requires
listed-requires c =
    let same : item_count c.args.x.now.noun ≡ item_count c.args.y.noun = grind arith in
    subst (λ l. All (Picks (item_count c.args.y.noun)) l) (sym c.in-Ok.ensures) (classes_pick c.args.x.now.noun (item_count c.args.y.noun) same)
