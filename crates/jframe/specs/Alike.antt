-- Results that are all of one shape and kind, as their atoms one after the other.
use Rattle.std.specs.Prelude.{ℕ, ◌*◌, List, map, take}
use Rattle.std.specs.List.{range_with_len}
use Rattle.std.proofs.Common.{drop}
use Rattle.jdata.specs.Noun.{noun, product}
use Rattle.jdata.specs.declared.noun.Noun.{Noun}
use Rattle.jdata.specs.declared.noun.Kind.{Kind}
use Rattle.jdata.specs.declared.noun.Atom.{Atom}

-- result i of these: the atoms of its range
abbrev pub nth_alike : List ℕ → Kind → List Atom → ℕ → Noun
nth_alike axes k atoms i = noun axes k (take (product axes) (drop (i * product axes) atoms))

unfoldable pub alike : List ℕ → Kind → List Atom → ℕ → List Noun
alike axes k atoms count = map (nth_alike axes k atoms) (range_with_len 0 count)
