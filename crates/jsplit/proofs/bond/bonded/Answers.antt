-- The conjunction is given, and valid.
use Rattle.std.proofs.Common.{Ok, subst, sym}
use Rattle.jdata.specs.Answers.{Answers}
use Rattle.jsplit.specs.Undoing.{bonded}
use Rattle.jsplit.proofs.Bonds.{left_answers, right_answers, valid_left, valid_right}
use Rattle.jsplit.proofs.bond.bonded.Goals as goal

pub returns-in-Left-clause-value : goal.returns-in-Left-clause-value
returns-in-Left-clause-value c =
    subst (λ b. Answers (Ok (bonded b c.args.noun.now)) c.conj.result) (sym c.in-Left.is)
    (left_answers c.args.noun.now c.in-Ok.noun c.in-Left.verb c.conj.result c.in-Ok.ensures c.conj.ensures.value)

pub returns-in-Left-clause-valid : goal.returns-in-Left-clause-valid
returns-in-Left-clause-valid c = valid_left c.in-Ok.noun c.in-Left.verb c.conj.result c.conj.ensures.valid

pub returns-in-Right-clause-value : goal.returns-in-Right-clause-value
returns-in-Right-clause-value c =
    subst (λ b. Answers (Ok (bonded b c.args.noun.now)) c.conj-in-Right.result) (sym c.in-Right.is)
    (right_answers c.args.noun.now c.in-Ok.noun c.in-Right.verb c.conj-in-Right.result c.in-Ok.ensures c.conj-in-Right.ensures.value)

pub returns-in-Right-clause-valid : goal.returns-in-Right-clause-valid
returns-in-Right-clause-valid c = valid_right c.in-Ok.noun c.in-Right.verb c.conj-in-Right.result c.conj-in-Right.ensures.valid
