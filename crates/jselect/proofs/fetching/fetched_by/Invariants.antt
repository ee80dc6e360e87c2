use Rattle.std.proofs.Common.{◌≡◌, drop}
use Rattle.jdata.specs.Limits.{IsArray}
use Rattle.jselect.specs.From.{fetched_by}
use Rattle.jselect.specs.Views.{noun_in}
use Rattle.jselect.proofs.fetching.fetched_by.Given as goal

abbrev pub invariant-loop-number : goal.invariant-loop-number
invariant-loop-number l = record {
  rest : fetched_by (drop l.number-index l.numbers) (noun_in l.view) ≡ fetched_by l.numbers (noun_in l.fn.y);
  array : IsArray (noun_in l.view);
}
