use Rattle.std.proofs.Common.{ap, sym, ◌∙◌, Ok}
use Rattle.jstruct.proofs.Ordering.{axes_count, are_these, are_beyond}
use Rattle.jstruct.proofs.axes.distinct_axes.Goals as goal

pub returns-then-not-are_axes : goal.returns-then-not-are_axes
returns-then-not-are_axes c = are_beyond c.args.rank c.args.named.now c.requires (sym c.are_axes.ensures ∙ c.if-not-are_axes.true)

pub counted-requires : goal.counted-requires
counted-requires c = axes_count c.args.rank c.args.named.now (sym c.are_axes.ensures ∙ c.if-not-are_axes.false)

pub returns-in-Ok : goal.returns-in-Ok
returns-in-Ok c =
    are_these c.args.rank c.args.named.now c.requires (sym c.are_axes.ensures ∙ c.if-not-are_axes.false) ∙ ap Ok (sym c.in-Ok.ensures)
