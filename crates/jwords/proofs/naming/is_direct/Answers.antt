use Rattle.std.proofs.Common.{rules, arith, ◌≡◌, ◌≢◌, ◌++◌, ◌∷◌, [], List, Some, None, ℕ, ap, sym, ◌∙◌}
use Rattle.jwords.proofs.NameParts.{direct_of_base, base_from_direct}
use Rattle.jwords.proofs.naming.is_direct.Goals as goal

pub returns-in-Some : goal.returns-in-Some
returns-in-Some c = (
  λ e. direct_of_base c.args.name.now c.in-Some.plain.now (c.in-Some.ensures) (c.is_plain.ensures.0 e),
  λ d. c.is_plain.ensures.1 (base_from_direct c.args.name.now c.in-Some.plain.now (c.in-Some.ensures) d),
)
