use Rattle.std.proofs.Common.{◌≡◌, take}
use Rattle.std.specs.List.{list_all}
use Rattle.std.specs.Result.{is_ok}
use Rattle.jselect.specs.Places.{place_in}
use Rattle.jselect.proofs.listing.are_places.Given as goal

abbrev pub invariant-loop-number : goal.invariant-loop-number
invariant-loop-number l = l.all ≡ list_all (λ m. is_ok (place_in l.count m)) (take l.number-index l.numbers)
