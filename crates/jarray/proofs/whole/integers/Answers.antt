use Rattle.std.proofs.Common.{◌∙◌, sym}
use Rattle.jdata.proofs.Arrays.{integers_are_array, never_refused}
use Rattle.jarray.proofs.whole.integers.Goals as goal

pub unreachable-requires : goal.unreachable-requires
unreachable-requires c =
    never_refused _ _ (integers_are_array c.args.axes.items c.args.numbers c.requires.shape c.requires.whole) (sym c.new.ensures ∙ c.in-Err.is)
