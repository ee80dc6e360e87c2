use Rattle.std.proofs.Common.{sym, ◌∙◌}
use Rattle.jselect.specs.From.{cell_named}
use Rattle.jselect.specs.Views.{noun_in}
use Rattle.jselect.proofs.Named.{by_integer}
use Rattle.jselect.proofs.choosing.item_named.Goals as goal

pub returns-in-len1-up-clause-value : goal.returns-in-len1-up-clause-value
returns-in-len1-up-clause-value c =
    c.cell_named.ensures.value
    ∙ (λ i. cell_named (c.from_ref.ensures.value i) (c.listed.ensures.value i))
    ∙ sym (by_integer c.args.numbers.now (noun_in c.args.y) c.in-len1-up.len_at_least)
