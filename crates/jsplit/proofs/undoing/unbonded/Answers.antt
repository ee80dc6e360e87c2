-- A noun on one side.
use Rattle.jsplit.proofs.Bonds.{left_unbonded, right_unbonded}
use Rattle.jsplit.proofs.undoing.unbonded.Goals as goal

pub returns-in-Noun-Verb-clause-value : goal.returns-in-Noun-Verb-clause-value
returns-in-Noun-Verb-clause-value c = λ o given.
    left_unbonded c.args.left.now c.args.right.now c.in-Noun-Verb.noun c.in-Noun-Verb.verb c.left_undone_by.result o c.bond_or.result
    c.in-Noun-Verb.is-0 c.in-Noun-Verb.is-1 c.left_undone_by.ensures (c.bond_or.ensures.value o given)

pub returns-in-Verb-Noun-clause-value : goal.returns-in-Verb-Noun-clause-value
returns-in-Verb-Noun-clause-value c = λ o given.
    right_unbonded c.args.left.now c.args.right.now c.in-Verb-Noun.noun c.in-Verb-Noun.verb c.right_undone_by.result o c.bond_or-in-Verb-Noun.result
    c.in-Verb-Noun.is-0 c.in-Verb-Noun.is-1 c.right_undone_by.ensures (c.bond_or-in-Verb-Noun.ensures.value o given)
