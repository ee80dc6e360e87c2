use Rattle.std.proofs.Common.{◌≡◌, drop}
use Rattle.jdata.specs.Spelling.{first_spelled}
use Rattle.jdata.proofs.spelling.first_spelled.Given as goal

-- what is found among those that are left is found among all
abbrev pub invariant-loop-verb : goal.invariant-loop-verb
invariant-loop-verb l = first_spelled (drop l.verb-index l.verbs) l.word ≡ first_spelled l.verbs l.word
