use Rattle.std.proofs.Common.{rules, arith, ◌≡◌, ◌≢◌, ◌++◌, ◌∷◌, [], List, Some, None, ℕ, ap, sym, ◌∙◌}
use Rattle.jwords.proofs.NameParts.{named_direct, direct_named, no_direct}
use Rattle.jwords.proofs.naming.is_in_named_locale.Goals as goal

pub returns-in-Some : goal.returns-in-Some
returns-in-Some c = (
  λ e. let h = c.is_plain_with_underscore.ensures.0 e in named_direct c.args.name.now c.in-Some.front.now (c.in-Some.ensures) h.0 h.1,
  λ d. c.is_plain_with_underscore.ensures.1 (direct_named c.args.name.now c.in-Some.front.now (c.in-Some.ensures) c.requires d),
)

pub returns-in-None : goal.returns-in-None
returns-in-None c = (λ e. absurd (cc e), λ d. absurd (no_direct c.args.name.now c.in-None.ensures d))
