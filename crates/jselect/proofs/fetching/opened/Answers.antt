use Rattle.std.proofs.Common.{ap}
use Rattle.jdata.specs.Leaf.{atoms_in}
use Rattle.jselect.specs.Views.{noun_in}
use Rattle.jselect.proofs.Fetched.{opened_integers, opened_characters}
use Rattle.jselect.proofs.fetching.opened.Goals as goal

pub returns-in-Int-clause-value : goal.returns-in-Int-clause-value
returns-in-Int-clause-value c = opened_integers (noun_in c.args.view) c.in-Int.field-0.now (ap atoms_in c.in-Int.is)

pub returns-in-Char-clause-value : goal.returns-in-Char-clause-value
returns-in-Char-clause-value c = opened_characters (noun_in c.args.view) c.in-Char.field-0.now (ap atoms_in c.in-Char.is)
