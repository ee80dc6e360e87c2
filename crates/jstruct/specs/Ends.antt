-- Head, Tail and Reverse (NuVoc "{.", "{:" and "|."): items from the ends of an array.
use Rattle.std.specs.Prelude.{ℕ, suc, ◌-◌, List, ◌∷◌, Result}
use Rattle.jdata.specs.Limits.{limited}
use Rattle.jdata.specs.Noun.{shape, kind}
use Rattle.jdata.specs.Tabulated.{indexed}
use Rattle.jdata.specs.declared.fault.Fault.{Fault}
use Rattle.jdata.specs.declared.noun.Noun.{Noun}
use Rattle.jstruct.specs.Items.{item_at, item_count, atom_at}

-- the first item, or an item of fills where there is none
abbrev pub headed : Noun → Result Noun Fault
headed y = limited (item_at y 0)

-- the last item, or an item of fills where there is none
abbrev pub tailed : Noun → Result Noun Fault
tailed y = limited (item_at y (item_count y - 1))

-- the index that counts the items from the last
abbrev pub from_last : List ℕ → List ℕ → List ℕ
from_last (n ∷ ns) (i ∷ is) = (n - suc i) ∷ is
from_last ns index = index

-- the items in reverse order
abbrev pub reversed : Noun → Result Noun Fault
reversed y = limited (indexed (shape y) (kind y) (λ index. atom_at y (from_last (shape y) index)))
