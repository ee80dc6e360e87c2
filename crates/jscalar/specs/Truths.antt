-- Truth as a number: 1 where a fact holds, else 0 (NuVoc "=", "<", "+:" Not-Or, "*:" Not-And).
use Rattle.std.specs.Prelude.{ℤ, pos, Bool, true, false, not, ◌&&◌, ◌||◌, if◌then◌else◌, Result, Ok, Err}
use Rattle.std.specs.Ordering.{int_eq}
use Rattle.jdata.specs.declared.fault.Fault.{Fault}
use Rattle.jdata.specs.declared.fault.Fault.TheVariants.{Domain}

abbrev pub truth : Bool → ℤ
truth true = pos 1
truth false = pos 0

unfoldable pub is_one : ℤ → Bool
is_one y = int_eq y (pos 1)

-- 0 or 1
unfoldable pub is_truth : ℤ → Bool
is_truth y = int_eq y (pos 0) || is_one y

-- 1 where neither is 1, of 0 and 1 alone
unfoldable pub not_or : ℤ → ℤ → Result ℤ Fault
not_or x y = if is_truth x && is_truth y then Ok (truth (not (is_one x || is_one y))) else Err Domain

-- 1 where not both are 1, of 0 and 1 alone
unfoldable pub not_and : ℤ → ℤ → Result ℤ Fault
not_and x y = if is_truth x && is_truth y then Ok (truth (not (is_one x && is_one y))) else Err Domain
