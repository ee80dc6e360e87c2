-- Values place by place.
use Rattle.std.proofs.Common.{◌≡◌, ◌⊎◌, ◌∙◌, ap, sym, refl, arith, subst, inl, inr, ◌^◌, ℕ, suc, ◌+◌, ◌-◌, ◌<◌, ◌==◌, if◌then◌else◌, ℤ, pos, negsuc, Bool, true, false, ◌∷◌, map, Some, None, Result, Ok, Err, FitsSigned}
use Rattle.std.proofs.lemmas.Bool.{eqb-true, cases_lt}
use Rattle.std.specs.List.{range_with_len}
use Rattle.jdata.specs.declared.fault.Fault.{Fault}
use Rattle.jdata.specs.declared.fault.Fault.TheVariants.{Nonce}
use Rattle.jscalar.specs.Fitted.{fitted}
use Rattle.jscalar.proofs.Bounds.{fitted_within, fitted_beyond}
use Rattle.jselect.specs.Picking.{served}
use Rattle.jradix.specs.Bases.{Place, step, value_on, place_count}
use Rattle.std.proofs.lemmas.Int.{to_z-of_z}
use mir.Syntax.{w64, w128}
use mir.Val.{to_z, of_z}

pub wider : (z : ℤ) → FitsSigned w64 z → FitsSigned w128 z
wider (pos n) h = let small = h.sfits in record { sfits = omega (arith, small) }
wider (negsuc n) h = let small = h.sfits in record { sfits = omega (arith, small) }

next_place : (place : ℕ → Place) (i n : ℕ) → i < n → map place (range_with_len i (n - i)) ≡ place i ∷ map place (range_with_len (i + 1) (n - (i + 1)))
next_place place i n below =
    let more : n - i ≡ suc (n - (i + 1)) = omega (arith, below) in
    rw more refl

pub goes_on : (place : ℕ → Place) (i n : ℕ) (value next : ℤ) → i < n → step value (place i) ≡ Ok next
    → value_on value (map place (range_with_len i (n - i))) ≡ value_on next (map place (range_with_len (i + 1) (n - (i + 1))))
goes_on place i n value next below e = rw (next_place place i n below, e) refl

pub stops_at : (place : ℕ → Place) (i n : ℕ) (value : ℤ) (why : Fault) → i < n → step value (place i) ≡ Err why
    → value_on value (map place (range_with_len i (n - i))) ≡ Err why
stops_at place i n value why below e = rw (next_place place i n below, e) refl

pub ended : (place : ℕ → Place) (n : ℕ) (value : ℤ) → value_on value (map place (range_with_len n (n - n))) ≡ Ok value
ended place n value = let none : n - n ≡ 0 = omega arith in rw none refl

same_counted : (same : Bool) (b d n i : ℕ) → (b == d) ≡ same → (if same then Some b else None) ≡ Some n → i < n → (i < b) × (i < d)
same_counted true b d n i t e h = let first : b ≡ n = cc in let both : b ≡ d = eqb-true b d t in (omega (arith, first, h), omega (arith, first, both, h))
same_counted false b d n i t e h = cc

-- each place has a base and a digit
pub serves : (one_base : Bool) (b : ℕ) (one_digit : Bool) (d n i : ℕ) → place_count one_base b one_digit d ≡ Some n → (one_base ≡ true → b ≡ 1) → (one_digit ≡ true → d ≡ 1) → i < n
    → (served one_base i < b) × (served one_digit i < d)
serves true b true d n i e base digit h = (omega (arith, base refl), omega (arith, digit refl))
serves true b false d n i e base digit h = let all : d ≡ n = cc in (omega (arith, base refl), omega (arith, all, h))
serves false b true d n i e base digit h = let all : b ≡ n = cc in (omega (arith, all, h), omega (arith, digit refl))
serves false b false d n i e base digit h = same_counted (b == d) b d n i refl e h

pub same_bits : (exact number : ℤ) → FitsSigned w128 number × (exact ≡ number) → to_z w128 (of_z w128 exact) ≡ number
same_bits exact number h = ap (λ z. to_z w128 (of_z w128 z)) h.1 ∙ to_z-of_z w128 number h.0

fits_or : (z : ℤ) → FitsSigned w64 z ⊎ (¬ FitsSigned w64 z)
fits_or (pos n) = elim (cases_lt n (2 ^ 63)) [ inl small ↦ inl (record { sfits = small }) | inr never ↦ inr (λ h. let small = h.sfits in omega (arith, small, never)) ]
fits_or (negsuc n) = elim (cases_lt n (2 ^ 63)) [ inl small ↦ inl (record { sfits = small }) | inr never ↦ inr (λ h. let small = h.sfits in omega (arith, small, never)) ]

fitted_fits : (z next : ℤ) → fitted z ≡ Ok next → FitsSigned w64 z ⊎ (¬ FitsSigned w64 z) → FitsSigned w64 next
fitted_fits z next e (inl fits) = let same : z ≡ next = cc (fitted_within z fits, e) in subst (λ n. FitsSigned w64 n) same fits
fitted_fits z next e (inr beyond) = let never : ◌≡◌ {A = Result ℤ Fault} (Err Nonce) (Ok next) = sym (fitted_beyond z beyond) ∙ e in cc

-- what a step gives, as the code keeps it
pub kept : (z next : ℤ) → fitted z ≡ Ok next → next ≡ to_z w64 (of_z w64 next)
kept z next e = sym (to_z-of_z w64 next (fitted_fits z next e (fits_or z)))
