-- Pieces of an array (NuVoc "\", "\.", "/." and ";."): which items each piece has, by their places.
use Rattle.std.specs.Prelude.{ℕ, List, [], map}
use Rattle.jdata.specs.declared.noun.Noun.{Noun}
use Rattle.jselect.specs.Picking.{items_at}

pub record Parted : Type 0 where
  pub whole : Noun
  pub places : List (List ℕ)

-- the pieces, each with the items at its places
abbrev pub pieces : Parted → List Noun
pieces p = map (λ places. items_at places p.whole) p.places

-- a piece without items, which is what there is of an array that has no piece
abbrev pub no_items : Parted → Noun
no_items p = items_at [] p.whole
