use Rattle.jterm.specs.Acts.{fork_of}
use Rattle.jeval.specs.Makings.{operand, with_operand}
use Rattle.jeval.proofs.Makings.{goes_with, stops_with}
use Rattle.jeval.proofs.building.made_fork.Goals as goal

pub returns-in_err-left : goal.returns-in_err-left
returns-in_err-left c = stops_with (operand c.args.left) _ c.from_residual.result (λ l. with_operand (operand c.args.mid) (λ m. with_operand (operand c.args.right) (fork_of l m))) c.from_residual.ensures c.in_err-left.ensures

pub returns-in_err-mid : goal.returns-in_err-mid
returns-in_err-mid c =
    goes_with (operand c.args.left) c.in_ok-left.left c.from_residual-in_err-mid.result (λ l. with_operand (operand c.args.mid) (λ m. with_operand (operand c.args.right) (fork_of l m))) c.in_ok-left.ensures
    (stops_with (operand c.args.mid) _ c.from_residual-in_err-mid.result (λ m. with_operand (operand c.args.right) (fork_of c.in_ok-left.left m)) c.from_residual-in_err-mid.ensures c.in_err-mid.ensures)

pub returns-in_err-right : goal.returns-in_err-right
returns-in_err-right c =
    goes_with (operand c.args.left) c.in_ok-left.left c.from_residual-in_err-right.result (λ l. with_operand (operand c.args.mid) (λ m. with_operand (operand c.args.right) (fork_of l m))) c.in_ok-left.ensures
    (goes_with (operand c.args.mid) c.in_ok-mid.mid c.from_residual-in_err-right.result (λ m. with_operand (operand c.args.right) (fork_of c.in_ok-left.left m)) c.in_ok-mid.ensures
    (stops_with (operand c.args.right) _ c.from_residual-in_err-right.result (fork_of c.in_ok-left.left c.in_ok-mid.mid) c.from_residual-in_err-right.ensures c.in_err-right.ensures))

pub returns : goal.returns
returns c =
    goes_with (operand c.args.left) c.in_ok-left.left c.ended.result (λ l. with_operand (operand c.args.mid) (λ m. with_operand (operand c.args.right) (fork_of l m))) c.in_ok-left.ensures
    (goes_with (operand c.args.mid) c.in_ok-mid.mid c.ended.result (λ m. with_operand (operand c.args.right) (fork_of c.in_ok-left.left m)) c.in_ok-mid.ensures
    (goes_with (operand c.args.right) c.in_ok-right.right c.ended.result (fork_of c.in_ok-left.left c.in_ok-mid.mid) c.in_ok-right.ensures
    (c.ended.ensures (fork_of c.in_ok-left.left c.in_ok-mid.mid c.in_ok-right.right) c.fork.ensures.value)))
