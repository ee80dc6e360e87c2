-- Prefixes and infixes (NuVoc "\"), suffixes and outfixes (NuVoc "\."), as pieces of an array.
use Rattle.std.specs.Prelude.{ℕ, ℤ, pos, negsuc, Bool, true, false, List, map}
use Rattle.std.specs.List.{flat_map}
use Rattle.jdata.specs.declared.noun.Noun.{Noun}
use Rattle.jselect.specs.Items.{item_count}
use Rattle.jcut.specs.Parted.{Parted}
use Rattle.jcut.specs.Runs.{run_places, outside}
use Rattle.jsplit.specs.Divisions.{division_of, runs}
use Rattle.jsplit.specs.declared.division.Division.{Division}
use Rattle.jsplit.specs.declared.division.Division.TheVariants as division

-- the items of each run
abbrev pub within : Division → Noun → Parted
within d y = record { whole = y; places = map run_places (runs d (item_count y)) }

-- the items outside each run
abbrev pub without : Division → Noun → Parted
without d y = record { whole = y; places = map (outside (item_count y)) (runs d (item_count y)) }

abbrev pub prefixes : Noun → Parted
prefixes = within division.Prefixes

abbrev pub suffixes : Noun → Parted
suffixes = within division.Suffixes

abbrev pub infixes : ℤ → Noun → Parted
infixes x = within (division_of x)

abbrev pub outfixes : ℤ → Noun → Parted
outfixes x = without (division_of x)

-- the places of one piece after the other
abbrev pub joined : Parted → List ℕ
joined p = flat_map (λ places. places) p.places

-- whether a number asks for blocks
abbrev pub asks_blocks : ℤ → Bool
asks_blocks (pos w) = false
asks_blocks (negsuc b) = true
