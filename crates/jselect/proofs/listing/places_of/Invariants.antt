use Rattle.std.proofs.Common.{◌≡◌, map}
use Rattle.jdata.specs.Firsts.{all_or_first}
use Rattle.jselect.specs.Places.{place_in}
use Rattle.jselect.proofs.NamedItems.{rest_of}
use Rattle.jselect.proofs.listing.places_of.Given as goal

abbrev pub invariant-loop-number : goal.invariant-loop-number
invariant-loop-number l = rest_of (place_in l.count) l.numbers l.number-index l.places.items ≡ all_or_first (map (place_in l.count) l.numbers)
