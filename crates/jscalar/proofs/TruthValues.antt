-- Lemmas on truth as a number.
use Rattle.std.proofs.Common.{◌≡◌, Bool, true, false, not, ◌&&◌, ◌||◌, Ok, Err, Result, refl}
use Rattle.std.specs.Prelude.{ℤ}
use mir.Syntax.{w64}
use mir.Val.{to_z, of_z}
use Rattle.jdata.specs.declared.fault.Fault.{Fault}
use Rattle.jdata.specs.declared.fault.Fault.TheVariants.{Domain}
use Rattle.jscalar.specs.Truths.{truth, is_truth, is_one, not_or, not_and}

pub truth_kept : (b : Bool) (r : ℤ) → r ≡ truth b → ◌≡◌ {A = Result ℤ Fault} (Ok (to_z w64 (of_z w64 r))) (Ok (truth b))
truth_kept true r e = rw e refl
truth_kept false r e = rw e refl

pub not_or_told : (x y : ℤ) (b : Bool) → (is_truth x && is_truth y) ≡ true → b ≡ (is_one x || is_one y) → Ok (truth (not b)) ≡ not_or x y
unfolding not_or
not_or_told x y b p e = rw (p, e) refl

pub not_or_untold : (x y : ℤ) → (is_truth x && is_truth y) ≡ false → Err Domain ≡ not_or x y
unfolding not_or
not_or_untold x y p = rw p refl

pub not_and_told : (x y : ℤ) (b : Bool) → (is_truth x && is_truth y) ≡ true → b ≡ (is_one x && is_one y) → Ok (truth (not b)) ≡ not_and x y
unfolding not_and
not_and_told x y b p e = rw (p, e) refl

pub not_and_untold : (x y : ℤ) → (is_truth x && is_truth y) ≡ false → Err Domain ≡ not_and x y
unfolding not_and
not_and_untold x y p = rw p refl
