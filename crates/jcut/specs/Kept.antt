-- How pieces are kept: as runs of items, as what is outside runs, or as lists of places.
use Rattle.std.specs.Prelude.{ℕ, List, [], map}
use Rattle.std.specs.List.{All}
use Rattle.jselect.specs.Items.{item_count}
use Rattle.jcut.specs.Parted.{Parted}
use Rattle.jcut.specs.Picks.{Picks}
use Rattle.jcut.specs.Runs.{run_places, outside, Fits}
use Rattle.jcut.specs.declared.pieces.Parts.{Parts}
use Rattle.jcut.specs.declared.pieces.Parts.TheVariants as parts
use Rattle.jcut.specs.declared.pieces.Pieces.TheInside.{Inside}
use Rattle.jcut.specs.declared.run.Run.{Run}

-- the places of each piece of an array with n items
abbrev pub places_of : ℕ → Parts → List (List ℕ)
places_of n (parts.Within runs) = map run_places runs
places_of n (parts.Outside runs) = map (outside n) runs
places_of n (parts.Listed lists) = lists

abbrev pub parted : Inside → Parted
parted p = record { whole = p.whole.noun; places = places_of (item_count p.whole.noun) p.parts }

abbrev pub runs_in : Parts → List Run
runs_in (parts.Within runs) = runs
runs_in (parts.Outside runs) = runs
runs_in (parts.Listed lists) = []

abbrev pub lists_in : Parts → List (List ℕ)
lists_in (parts.Within runs) = []
lists_in (parts.Outside runs) = []
lists_in (parts.Listed lists) = lists

-- all of them are of items that are there
pub record IsKept (p : Inside) : Type 0 where
  pub runs : All (Fits (item_count p.whole.noun)) (runs_in p.parts)
  pub lists : All (Picks (item_count p.whole.noun)) (lists_in p.parts)
