use Rattle.std.proofs.Common.{sym, true≢false}
use Rattle.jarray.proofs.array.is_atom.Goals as goal

pub returns-in-None : goal.returns-in-None
returns-in-None c = (λ h. absurd (true≢false (sym h)), λ e. absurd (c.in-None.ensures.none _ e))
