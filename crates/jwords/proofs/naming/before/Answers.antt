use Rattle.std.proofs.Common.{rules, arith, ◌≡◌, ◌≢◌, ◌++◌, ◌∷◌, [], List, Some, None, ℕ, ap, sym, ◌∙◌}
use Rattle.std.proofs.lemmas.Slice.Eq.{strip_suffix_is}
use Rattle.std.proofs.lemmas.Bool.Decides.{Decides-eqb}
use Rattle.jwords.proofs.naming.before.Goals as goal

pub returns : goal.returns
returns c = strip_suffix_is Decides-eqb c.args.name.now c.args.ending.now c.strip_suffix.result c.strip_suffix.ensures.cases
