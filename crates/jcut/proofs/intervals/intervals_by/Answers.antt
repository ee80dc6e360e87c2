use Rattle.std.proofs.Common.{◌<◌, length, subst, sym, ◌∙◌}
use Rattle.std.specs.List.{All}
use Rattle.jcut.proofs.Fretting.{frets_below}
use Rattle.jcut.proofs.intervals.intervals_by.Goals as goal

pub intervals-requires : goal.intervals-requires
intervals-requires c =
    subst (λ l. All (λ p. p < length c.args.frets.now) l) (sym (c.as_slice.ensures.value ∙ c.in_ok-places.ensures)) (frets_below c.args.frets.now)
