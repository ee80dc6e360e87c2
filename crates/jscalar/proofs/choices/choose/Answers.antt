use Rattle.std.proofs.Common.{◌≡◌, ◌-◌, ◌+◌, sym, ◌∙◌, ap, arith}
use Rattle.std.specs.Prelude.{ℕ, pos}
use Rattle.jscalar.specs.Choices.{ways}
use Rattle.jscalar.specs.Fitted.{fitted}
use Rattle.jscalar.proofs.Bounds.{fitted_natural}
use Rattle.jscalar.proofs.ChoiceLaws.{too_many, take_or_leave}
use Rattle.jscalar.proofs.choices.choose.Goals as goal

pub returns-then-taken-all : goal.returns-then-taken-all
returns-then-taken-all c = fitted_natural 0 (ways c.args.taken c.args.all) (omega arith) (sym (too_many c.args.taken c.args.all c.if-taken-all.true))

pub returns-else-taken-left : goal.returns-else-taken-left
returns-else-taken-left c =
    let whole : c.args.taken + (c.args.all - c.args.taken) ≡ c.args.all = omega arith in
    let other : (c.args.all - c.args.taken) + c.args.taken ≡ c.args.all = omega arith in
    c.few_ways-else-taken-left.ensures
    ∙ ap (λ (n : ℕ). fitted (pos (ways (c.args.all - c.args.taken) n))) whole
    ∙ ap (λ n. fitted (pos n)) (take_or_leave c.args.all (c.args.all - c.args.taken) c.args.taken other)
