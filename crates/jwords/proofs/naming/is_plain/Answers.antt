use Rattle.std.proofs.Common.{rules, arith, ◌≡◌, ◌≢◌, ◌++◌, ◌∷◌, [], List, Some, None, ℕ, ap, sym, ◌∙◌, eqb}
use Rattle.std.proofs.lemmas.Bool.{eqb-true, eq-eqb}
use Rattle.jwords.proofs.NameParts.{plain_told}
use Rattle.jwords.proofs.naming.is_plain.Goals as goal

pub returns-in-Some : goal.returns-in-Some
returns-in-Some c =
    let told = plain_told c.joined_names.result c.args.name.now c.joined_names.ensures.some c.joined_names.ensures.none in (
      λ e. let k : c.in-Some.count ≡ 1 = eqb-true c.in-Some.count 1 e in told.0 (cc (c.in-Some.is, k)),
      λ p. let k : c.in-Some.count ≡ 1 = cc (c.in-Some.is, told.1 p) in eq-eqb c.in-Some.count 1 k,
    )

pub returns-in-None : goal.returns-in-None
returns-in-None c =
    let told = plain_told c.joined_names.result c.args.name.now c.joined_names.ensures.some c.joined_names.ensures.none in
    (λ e. absurd (cc e), λ p. absurd (cc (c.in-None.is, told.1 p)))
