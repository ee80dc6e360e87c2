use Rattle.std.proofs.Common.{sym, subst}
use Rattle.jdata.specs.Answers.{Answers}
use Rattle.jsearch.specs.Classes.{classified}
use Rattle.jsearch.proofs.classes.classify.Goals as goal

pub returns : goal.returns
returns c = subst (Answers (classified c.args.y.noun)) (sym c.given.ensures) c.table_of-table.ensures
