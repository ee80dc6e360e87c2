use Rattle.std.proofs.Common.{◌≡◌, drop}
use Rattle.std.specs.List.{list_all}
use Rattle.jwords.specs.Formed.{is_plain_name}
use Rattle.jeval.proofs.targets.are_plain.Given as goal

abbrev pub invariant-loop-name : goal.invariant-loop-name
invariant-loop-name l = list_all is_plain_name l.names ≡ list_all is_plain_name (drop l.name-index l.names)
