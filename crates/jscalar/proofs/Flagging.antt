-- Numbers with a flag for those beyond 64 bits.
use Rattle.std.proofs.Common.{◌≡◌, refl, sym, ap, ◌∙◌, true, false, Ok, arith}
use Rattle.std.specs.Prelude.{ℤ, pos, negsuc, neg_ℤ, unsigned_abs, int_lt, ◌+ℤ◌, ◌-ℤ◌, ◌*ℤ◌, Bool, FitsSigned}
use Rattle.std.specs.Int.{int_wrapping_add, int_wrapping_sub, int_wrapping_mul}
use Rattle.std.specs.Bool.{FalseIff}
use Rattle.std.proofs.lemmas.Int.{ints, wrapping_add_is, wrapping_sub_is, wrapping_mul_is, int_wrap_fits}
use Rattle.std.proofs.Math.IntN.{+ℤ_idl}
use Rattle.std.proofs.Common.{true≢false, ◌<◌}
use borrow.Author.Tests.{ltb-true}
use mir.Syntax.{w64}
use Rattle.jscalar.specs.Fitted.{fitted}
use Rattle.jscalar.proofs.Bounds.{fitted_within, fitted_beyond}
use Rattle.jdata.specs.declared.fault.Fault.TheVariants.{Nonce}
use Rattle.jscalar.specs.Flagged.{flagged}

exact_or_none : (exact number : ℤ) (none : Bool) → (FitsSigned w64 exact → number ≡ exact) → FalseIff none (FitsSigned w64 exact) → fitted exact ≡ flagged Nonce number none
exact_or_none exact number true same h = fitted_beyond exact h
exact_or_none exact number false same h = fitted_within exact h ∙ ap Ok (sym (same h))

pub sum_or_none : (x y number : ℤ) (none : Bool) → FitsSigned w64 x → FitsSigned w64 y → number ≡ int_wrapping_add w64 x y → FalseIff none (FitsSigned w64 (x +ℤ y)) → fitted (x +ℤ y) ≡ flagged Nonce number none
sum_or_none x y number none f g e h = exact_or_none (x +ℤ y) number none (λ fits. e ∙ wrapping_add_is w64 x y f g ∙ int_wrap_fits w64 (x +ℤ y) fits) h

pub rest_or_none : (x y number : ℤ) (none : Bool) → FitsSigned w64 x → FitsSigned w64 y → number ≡ int_wrapping_sub w64 x y → FalseIff none (FitsSigned w64 (x -ℤ y)) → fitted (x -ℤ y) ≡ flagged Nonce number none
rest_or_none x y number none f g e h = exact_or_none (x -ℤ y) number none (λ fits. e ∙ wrapping_sub_is w64 x y f g ∙ int_wrap_fits w64 (x -ℤ y) fits) h

pub product_or_none : (x y number : ℤ) (none : Bool) → FitsSigned w64 x → FitsSigned w64 y → number ≡ int_wrapping_mul w64 x y → FalseIff none (FitsSigned w64 (x *ℤ y)) → fitted (x *ℤ y) ≡ flagged Nonce number none
product_or_none x y number none f g e h = exact_or_none (x *ℤ y) number none (λ fits. e ∙ wrapping_mul_is w64 x y f g ∙ int_wrap_fits w64 (x *ℤ y) fits) h

pub negated : (y number : ℤ) (none : Bool) → fitted (pos 0 -ℤ y) ≡ flagged Nonce number none → fitted (neg_ℤ y) ≡ flagged Nonce number none
negated y number none e = ap fitted (sym (+ℤ_idl (neg_ℤ y))) ∙ e

pub doubled : (y number : ℤ) (none : Bool) → fitted (y +ℤ y) ≡ flagged Nonce number none → fitted (pos 2 *ℤ y) ≡ flagged Nonce number none
doubled y number none e = let d : pos 2 *ℤ y ≡ y +ℤ y = omega (arith, ints) in ap fitted d ∙ e

-- the size of a number, as the code makes it
pub size_of_negative : (y : ℤ) → int_lt y (pos 0) ≡ true → pos (unsigned_abs y) ≡ neg_ℤ y
size_of_negative (pos n) h = absurd (let k : n < 0 = ltb-true n 0 h in omega arith)
size_of_negative (negsuc n) h = refl

pub size_of_other : (y : ℤ) → int_lt y (pos 0) ≡ false → pos (unsigned_abs y) ≡ y
size_of_other (pos n) h = refl
size_of_other (negsuc n) h = absurd (true≢false h)
