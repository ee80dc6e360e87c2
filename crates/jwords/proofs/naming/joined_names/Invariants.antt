use Rattle.std.proofs.Common.{◌≤◌, drop}
use Rattle.jwords.proofs.NameParts.{Progress}
use Rattle.jwords.proofs.naming.joined_names.Given as goal

-- what was read leads to the place, and the names that started are counted
abbrev pub invariant-loop-byte : goal.invariant-loop-byte
invariant-loop-byte l = record {
  read : Progress l.place l.count (drop l.byte-index l.names) l.names;
  few : l.count ≤ l.byte-index;
}
