-- Axes that are the last ones of a target.
use Rattle.std.specs.Prelude.{ℕ, ◌-◌, ◌≡◌, nat_lt, if◌then◌else◌, Bool, true, false, Some, None, List, length, drop}
use Rattle.std.specs.Str.{bytes_eq}
use Rattle.std.proofs.Common.{refl}
use Rattle.std.proofs.lemmas.Slice.Eq.{bytes_eq-Decides}
use Rattle.jdata.specs.declared.fault.Fault.TheVariants as fault
use Rattle.jamend.specs.Amended.{shape_fault}

same_end : (a b : Bool) → (if a then Some fault.Rank else if b then None else Some fault.Length) ≡ None → b ≡ true
same_end true b h = cc
same_end false true h = refl
same_end false false h = cc

pub fits_end : (target axes : List ℕ) → shape_fault target axes ≡ None → drop (length target - length axes) target ≡ axes
fits_end target axes h =
    let last = drop (length target - length axes) target in
    (bytes_eq-Decides last axes).0 (same_end (nat_lt (length target) (length axes)) (bytes_eq last axes) h)
