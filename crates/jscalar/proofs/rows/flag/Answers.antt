use Rattle.std.proofs.Common.{◌∙◌, ap, Err}
use Rattle.jscalar.proofs.rows.flag.Goals as goal

pub returns-in-Err : goal.returns-in-Err
returns-in-Err c = λ fault only. c.in-Err.is ∙ ap Err (only.tells c.in-Err.field-0 c.in-Err.is)
