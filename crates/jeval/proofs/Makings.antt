-- What is made of operands, as an evaluation answers it.
use Rattle.std.proofs.Common.{◌≡◌, ap, sym, subst, Result, Ok, Err, IsErr, IsErrAnd}
use Rattle.jdata.specs.declared.fault.Fault.{Fault}
use Rattle.jterm.specs.declared.term.Term.{Term}
use Rattle.jeval.specs.declared.end.EvalEnd.{EvalEnd}
use Rattle.jeval.specs.declared.end.EvalEnd.TheVariants as end
use Rattle.jeval.specs.Made.{Answers}
use Rattle.jeval.specs.Makings.{with_operand}

-- with an operand it is made, and where there is none it ends alike
pub goes_with : (o : Result Term Fault) (t : Term) (r : Result Term EvalEnd) (make : Term → Result Term Fault) → o ≡ Ok t → Answers (make t) r → Answers (with_operand o make) r
goes_with o t r make is h = let P : Result Term Fault → Type 0 = λ x. Answers (with_operand x make) r in subst P (sym is) h

stops_at : (o : Result Term Fault) (make : Term → Result Term Fault) (why : EvalEnd) → Answers o (Err why) → Answers (with_operand o make) (Err why)
stops_at o make (end.Fault e) h = ap (λ x. with_operand x make) h
stops_at o make (end.Halt halt) h = h

pub stops_with : (o : Result Term Fault) (why : EvalEnd) (r : Result Term EvalEnd) (make : Term → Result Term Fault) → IsErr r × IsErrAnd r (λ w. w ≡ why) → Answers o (Err why) → Answers (with_operand o make) r
stops_with o why (Ok t) make said h = absurd said.1
stops_with o why (Err w) make said h = let P : EvalEnd → Type 0 = λ e. Answers (with_operand o make) (Err e) in subst P (sym said.1) (stops_at o make why h)
