-- Transpose (NuVoc "|:"): the axes of an array in reverse order.
use Rattle.std.specs.Prelude.{get_or, reverse, Result}
use Rattle.jdata.specs.Fills.{fill_of}
use Rattle.jdata.specs.Indexes.{place_at}
use Rattle.jdata.specs.Limits.{limited}
use Rattle.jdata.specs.Noun.{shape, kind, atoms}
use Rattle.jdata.specs.Tabulated.{indexed}
use Rattle.jdata.specs.declared.fault.Fault.{Fault}
use Rattle.jdata.specs.declared.noun.Noun.{Noun}

-- at each index stands the atom of the index read backwards
abbrev pub transposed : Noun → Result Noun Fault
transposed y =
    limited (indexed (reverse (shape y)) (kind y) (λ index. get_or (atoms y) (place_at (shape y) (reverse index)) (fill_of (kind y))))
