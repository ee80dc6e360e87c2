-- Two verbs, and verbs with nouns.
use Rattle.std.proofs.Common.{sym, ◌∙◌, subst}
use Rattle.jdata.specs.Answers.{Answers}
use Rattle.jterm.specs.declared.term.Term.TheVariants as term
use Rattle.jsplit.specs.Undoing.{obverse}
use Rattle.jsplit.proofs.Undone.{in_turn_is, bond_is}
use Rattle.jsplit.proofs.undoing.+undone.Goals as goal

pub returns-in-Ampersand-clause-value : goal.returns-in-Ampersand-clause-value
returns-in-Ampersand-clause-value t c =
    let l = c.get-left.result.now in
    let r = c.get-right.result.now in
    let is = c.in-With2.is ∙ (λ i. term.With2 c.in-With2.word (sym c.get-left.ensures i) (sym c.get-right.ensures i)) in
    let both = c.in_turn-both.ensures.value (obverse l) (obverse r) c.undone.ensures.value c.undone-in-Ampersand.ensures.value in
    subst (λ q. Answers q c.unbonded.result) (sym (bond_is c.args.of.now l r c.in-With2.word is c.in-Ampersand.is))
    (c.unbonded.ensures.value _ both)

pub returns-in-At-clause-value : goal.returns-in-At-clause-value
returns-in-At-clause-value t c =
    let l = c.get-left.result.now in
    let r = c.get-right.result.now in
    let is = c.in-With2.is ∙ (λ i. term.With2 c.in-With2.word (sym c.get-left.ensures i) (sym c.get-right.ensures i)) in
    subst (λ q. Answers q c.in_turn.result) (sym (in_turn_is c.args.of.now l r c.in-With2.word is c.in-At.is))
    (c.in_turn.ensures.value (obverse l) (obverse r) c.undone-in-At.ensures.value c.undone-in-At-2.ensures.value)
