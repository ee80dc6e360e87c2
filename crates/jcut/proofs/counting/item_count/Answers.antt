use Rattle.std.proofs.Common.{subst, sym}
use Rattle.jdata.specs.Limits.{IsShape}
use Rattle.jselect.proofs.Picked.{count_at_most}
use Rattle.jcut.proofs.counting.item_count.Goals as goal

pub returns-in-len1-up-clause-at_most : goal.returns-in-len1-up-clause-at_most
returns-in-len1-up-clause-at_most c =
    count_at_most c.shape.result.now (subst IsShape (sym c.shape.ensures.value) c.shape.ensures.array.within) c.in-len1-up.len_at_least
