-- A primitive is a valid term.
use Rattle.jterm.proofs.Valid.{valid_verb}
use Rattle.jsplit.proofs.undoing.verb_undone.Goals as goal

pub returns-in-Some-clause-valid : goal.returns-in-Some-clause-valid
returns-in-Some-clause-valid c = valid_verb c.in-Some.verb
