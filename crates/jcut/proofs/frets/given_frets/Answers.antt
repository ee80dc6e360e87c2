use Rattle.std.proofs.Common.{sym, ◌∙◌, ap, Ok}
use Rattle.jcut.proofs.Fretting.{given_by, no_integers, no_flags}
use Rattle.jcut.proofs.frets.given_frets.Goals as goal

pub returns-in-None : goal.returns-in-None
returns-in-None c = no_integers c.args.x.now.noun c.in-None.ensures.none

pub returns-then-not-are_flags : goal.returns-then-not-are_flags
returns-then-not-are_flags c = no_flags c.args.x.now.noun c.in-Some.numbers.now c.in-Some.ensures.some (sym c.are_flags.ensures ∙ c.if-not-are_flags.true)

pub returns-in-Ok : goal.returns-in-Ok
returns-in-Ok c =
    given_by c.args.x.now.noun c.in-Some.numbers.now c.in-Some.ensures.integers c.in-Some.ensures.some (sym c.are_flags.ensures ∙ c.if-not-are_flags.false)
    ∙ ap (λ l. Ok l) (sym c.in-Ok.ensures)
