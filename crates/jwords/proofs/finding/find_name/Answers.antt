use Rattle.std.proofs.Common.{rules, arith, ◌≡◌, ◌<◌, ◌≤◌, ◌+◌, ◌-◌, ℕ, Bool, true, List, length, sym, ◌∙◌, ap, subst}
use Rattle.std.proofs.lemmas.Grind.{common_steps}
use Rattle.jwords.proofs.FoundWords.{name_size, finds_plain, finds_inflected, name_is_some, judged_size}
use Rattle.jwords.proofs.finding.find_name.Goals as goal

pub returns-then-size-name-clause-found : goal.returns-then-size-name-clause-found
returns-then-size-name-clause-found c =
    finds_plain c.args.at _ c.args.rest.now c.judged.result c.is_name.result
    (name_size c.args.rest.now c.name_length-name.result c.inflection_length.result c.name_length-name.ensures.run c.inflection_length.ensures.run)
    (c.if-size-name.true ∙ c.name_length-name.ensures.run) c.judged.ensures c.is_name.ensures.0 c.is_name.ensures.1

pub returns-then-size-name-clause-size : goal.returns-then-size-name-clause-size
returns-then-size-name-clause-size c =
    let some : 0 < c.name_length-name.result = rw c.name_length-name.ensures.run (name_is_some c.args.rest.now c.requires.starts) in
    judged_size c.is_name.result c.judged.result _ c.args.at _ (length c.args.rest.now) c.judged.ensures (omega arith) (omega (arith, c.name_length-name.ensures.within, c.if-size-name.true))

pub returns-clause-found : goal.returns-clause-found
returns-clause-found c =
    finds_inflected c.args.at _ c.args.rest.now c.judged-2.result c.is_inflected_word.result
    (name_size c.args.rest.now c.name_length-name.result c.inflection_length.result c.name_length-name.ensures.run c.inflection_length.ensures.run)
    (λ e. c.if-size-name.false (e ∙ sym c.name_length-name.ensures.run)) (sym c.eq.ensures ∙ c.if-eq.false) c.judged-2.ensures c.is_inflected_word.ensures.0 c.is_inflected_word.ensures.1
