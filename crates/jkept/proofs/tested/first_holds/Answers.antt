use Rattle.jkept.proofs.Atoms.{number_holds}
use Rattle.std.proofs.Common.{refl, ap, not, ◌∙◌}
use Rattle.jkept.proofs.tested.first_holds.Goals as goal

pub returns-in-len1-up : goal.returns-in-len1-up
returns-in-len1-up c = ap not c.is_zero.ensures ∙ number_holds c.args.numbers.now _ c.in-len1-up.len_at_least refl
