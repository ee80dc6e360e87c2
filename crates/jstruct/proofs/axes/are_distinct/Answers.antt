use Rattle.std.proofs.Common.{ap, ◌∙◌, length}
use Rattle.std.specs.Prelude.{◌==◌}
use Rattle.std.specs.Cmp.{int_cmp_total}
use Rattle.std.proofs.lemmas.Map.Views.{btree_set_len-from_list}
use Rattle.jstruct.proofs.axes.are_distinct.Goals as goal

pub returns : goal.returns
returns c =
    ap (λ n. n == length c.args.numbers.now)
    (c.len.ensures.len ∙ btree_set_len-from_list int_cmp_total c.args.numbers.now c.in_ok-distinct.distinct c.in_ok-distinct.ensures)
