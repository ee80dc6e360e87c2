-- An array by its atoms: at each place in ravel order, or at each index (J Dictionary, "Nouns").
use Rattle.std.specs.Prelude.{ℕ, List, map}
use Rattle.std.specs.List.{range_with_len}
use Rattle.jdata.specs.Indexes.{index_at}
use Rattle.jdata.specs.Noun.{noun, product}
use Rattle.jdata.specs.declared.noun.Noun.{Noun}
use Rattle.jdata.specs.declared.noun.Kind.{Kind}
use Rattle.jdata.specs.declared.noun.Atom.{Atom}

-- the array of this shape and kind with these atoms by place
abbrev pub tabulated : List ℕ → Kind → (ℕ → Atom) → Noun
tabulated axes kind f = noun axes kind (map f (range_with_len 0 (product axes)))

-- and with these by index
abbrev pub indexed : List ℕ → Kind → (List ℕ → Atom) → Noun
indexed axes kind f = tabulated axes kind (λ place. f (index_at axes place))
