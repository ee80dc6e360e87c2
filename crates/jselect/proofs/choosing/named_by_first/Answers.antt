use Rattle.std.proofs.Common.{ap, sym, ◌∙◌}
use Rattle.jdata.specs.Leaf.{atoms_in}
use Rattle.jselect.specs.From.{named_by_first}
use Rattle.jselect.specs.Views.{noun_in}
use Rattle.jselect.proofs.Named.{by_character}
use Rattle.jselect.proofs.choosing.named_by_first.Goals as goal

pub returns-in-Char-clause-value : goal.returns-in-Char-clause-value
returns-in-Char-clause-value c = sym (ap (λ x. named_by_first (atoms_in x) (noun_in c.args.y)) c.in-Char.is ∙ by_character c.in-Char.field-0.now (noun_in c.args.y))
