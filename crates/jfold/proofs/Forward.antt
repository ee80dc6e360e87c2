-- Places that take a running value, from the first on.
use Rattle.std.proofs.Common.{◌≡◌, ◌≢◌, ℕ, ◌+◌, ◌<◌, ◌≤◌, List, [], ◌∷◌, map, length, take, get_or, Some, None, Option, Result, Ok, Err, refl, sym, ap, subst, ◌∙◌, arith, w64, of_z, to_z, slice_get, inl, inr}
use Rattle.std.proofs.Math.ListN.{set}
use Rattle.std.specs.Prelude.{ℤ, pos}
use Rattle.std.specs.List.{Contains}
use mir.Val.{SFits}
use Rattle.std.proofs.lemmas.Int.{to_z-of_z}
use Rattle.std.proofs.lemmas.Option.{slice_get_within, get_or_from_slice_get}
use Rattle.std.proofs.lemmas.Bool.{cases_eq}
use Rattle.std.proofs.lemmas.List.{take_more, length-set, get_or-set_same, get_or-set_other}
use Rattle.jdata.specs.declared.fault.Fault.{Fault}
use Rattle.jfold.specs.Running.{turned, onward, running}
use Rattle.jfold.proofs.Steps.{value_of, one_more, all_some, has_none}

-- the running value at a place
abbrev pub at_place : (ℤ → ℤ → Result ℤ Fault) → List ℤ → ℕ → Option ℤ
at_place meant old k = onward meant (take (k + 1) old)

-- the places before `at` have their running values, of which `value` is the last; the others are as they were
pub record IsRunning (meant : ℤ → ℤ → Result ℤ Fault) (at : ℕ) (value : ℤ) (now old : List ℤ) : Type 0 where
  pub within : at ≤ length old
  pub long : length now ≡ length old
  pub after : (k : ℕ) → at ≤ k → get_or now k (pos 0) ≡ get_or old k (pos 0)
  pub done : (k : ℕ) → k < at → at_place meant old k ≡ Some (get_or now k (pos 0))
  pub here : onward meant (take at old) ≡ Some value

step : (meant : ℤ → ℤ → Result ℤ Fault) (old : List ℤ) (i : ℕ) (value : ℤ) → i < length old → onward meant (take i old) ≡ Some value → at_place meant old i ≡ value_of (meant value (get_or old i (pos 0)))
step meant old i value h e = ap (onward meant) (take_more old i (pos 0) h) ∙ one_more (turned meant) (take i old) (get_or old i (pos 0)) value e

first_alone : (meant : ℤ → ℤ → Result ℤ Fault) (l : List ℤ) (first : ℤ) → slice_get l 0 ≡ Some first → onward meant (take 1 l) ≡ Some first
first_alone meant [] first e = absurd (cc)
first_alone meant (n ∷ l) first e = e

begun : (meant : ℤ → ℤ → Result ℤ Fault) (l : List ℤ) (first : ℤ) → slice_get l 0 ≡ Some first → IsRunning meant 1 first l l
begun meant l first e =
    let some : 0 < length l = slice_get_within l 0 first e in
    record {
      within = omega arith;
      long = refl;
      after = λ k from. refl;
      done = λ k below. let none : 0 ≡ k = omega arith in subst (λ j. at_place meant l j ≡ Some (get_or l j (pos 0))) none (first_alone meant l first e ∙ ap Some (sym (get_or_from_slice_get l 0 first (pos 0) e)));
      here = first_alone meant l first e;
    }

pub begins : (meant : ℤ → ℤ → Result ℤ Fault) (l : List ℤ) (first : ℤ) → SFits w64 first → slice_get l 0 ≡ Some first → IsRunning meant 1 (to_z w64 (of_z w64 first)) l l
begins meant l first fits e = rw (to_z-of_z w64 first fits) (begun meant l first e)

done_at : (meant : ℤ → ℤ → Result ℤ Fault) (i : ℕ) (value next : ℤ) (now old : List ℤ) → IsRunning meant i value now old → i < length now → at_place meant old i ≡ Some next → (k : ℕ) → k < i + 1 → at_place meant old k ≡ Some (get_or (set now i next) k (pos 0))
done_at meant i value next now old was room here k below = elim (cases_eq i k) [
  | inl same ↦ ap (at_place meant old) (sym same) ∙ here ∙ ap Some (sym (get_or-set_same now i next (pos 0) room)) ∙ ap (λ j. Some (get_or (set now i next) j (pos 0))) same
  | inr other ↦
      let apart : k ≢ i = λ e. other (sym e) in
      let under : k < i = omega (arith, other) in
      was.done k under ∙ ap Some (sym (get_or-set_other now i k next (pos 0) apart))
]

further : (meant : ℤ → ℤ → Result ℤ Fault) (i : ℕ) (value next : ℤ) (now old : List ℤ) → i < length now → IsRunning meant i value now old → meant value (get_or old i (pos 0)) ≡ Ok next → IsRunning meant (i + 1) next (set now i next) old
further meant i value next now old room was e =
    let within : i < length old = omega (arith, was.long) in
    let at : at_place meant old i ≡ Some next = step meant old i value within was.here ∙ ap value_of e in
    record {
      within = omega arith;
      long = length-set now i next ∙ was.long;
      after = λ k from. let other : k ≢ i = omega arith in get_or-set_other now i k next (pos 0) other ∙ was.after k (omega arith);
      done = done_at meant i value next now old was room at;
      here = at;
    }

-- the number that is read next, as the list was
read : (meant : ℤ → ℤ → Result ℤ Fault) (i : ℕ) (value : ℤ) (now old : List ℤ) (r : Result ℤ Fault) → SFits w64 (get_or now i (pos 0)) → IsRunning meant i value now old → meant value (to_z w64 (of_z w64 (get_or now i (pos 0)))) ≡ r → meant value (get_or old i (pos 0)) ≡ r
read meant i value now old r f was e =
    ap (λ n. meant value n) (sym (was.after i (omega arith)) ∙ sym (to_z-of_z w64 (get_or now i (pos 0)) f)) ∙ e

pub goes_on : (meant : ℤ → ℤ → Result ℤ Fault) (i : ℕ) (value next : ℤ) (now old : List ℤ) → i < length now → SFits w64 (get_or now i (pos 0)) → SFits w64 next → IsRunning meant i value now old → meant value (to_z w64 (of_z w64 (get_or now i (pos 0)))) ≡ Ok next → IsRunning meant (i + 1) (to_z w64 (of_z w64 next)) (set now i (to_z w64 (of_z w64 next))) old
goes_on meant i value next now old room f n was e =
    rw (to_z-of_z w64 next n) (further meant i value next now old room was (read meant i value now old (Ok next) f was e))

pub stops : (meant : ℤ → ℤ → Result ℤ Fault) (i : ℕ) (value : ℤ) (fault : Fault) (now old : List ℤ) → i < length now → SFits w64 (get_or now i (pos 0)) → IsRunning meant i value now old → meant value (to_z w64 (of_z w64 (get_or now i (pos 0)))) ≡ Err fault → Contains (running meant old) None
stops meant i value fault now old room f was e =
    let within : i < length old = omega (arith, was.long) in
    let none : at_place meant old i ≡ None = step meant old i value within was.here ∙ ap value_of (read meant i value now old (Err fault) f was e) in
    has_none (at_place meant old) i (length old) within none

pub ends : (meant : ℤ → ℤ → Result ℤ Fault) (i : ℕ) (value : ℤ) (now old : List ℤ) → length old ≤ i → IsRunning meant i value now old → running meant old ≡ map Some now
ends meant i value now old all was = all_some (at_place meant old) (length old) now was.long (λ k below. was.done k (omega arith))
