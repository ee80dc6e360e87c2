use Rattle.std.proofs.Common.{◌≡◌, drop}
use Rattle.std.specs.List.{list_all}
use Rattle.jwords.specs.Formed.{is_named_word}
use Rattle.jeval.proofs.targets.are_spelled.Given as goal

abbrev pub invariant-loop-name : goal.invariant-loop-name
invariant-loop-name l = list_all is_named_word l.names ≡ list_all is_named_word (drop l.name-index l.names)
