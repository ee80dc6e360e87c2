use Rattle.std.proofs.Common.{◌≡◌, map, take}
use Rattle.jsearch.proofs.places.slices.Given as goal

abbrev pub invariant-loop-code : goal.invariant-loop-code
invariant-loop-code l = map (λ s. s.now) l.slices.items ≡ map (λ c. c.items) (take l.code-index l.codes)
