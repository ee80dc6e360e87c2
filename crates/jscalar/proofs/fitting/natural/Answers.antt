use Rattle.jscalar.proofs.Bounds.{fitted_some, fitted_none}
use Rattle.std.specs.Prelude.{pos}
use Rattle.jscalar.proofs.fitting.natural.Goals as goal

pub returns-in-Ok : goal.returns-in-Ok
returns-in-Ok c = fitted_some c.in-Ok.number (pos c.args.number) c.in-Ok.ensures

pub returns-in-Err : goal.returns-in-Err
returns-in-Err c = fitted_none (pos c.args.number) c.in-Err.ensures
