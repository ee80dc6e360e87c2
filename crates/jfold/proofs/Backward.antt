-- Places that take the verb between the numbers from there on, from the last on.
use Rattle.std.proofs.Common.{◌≡◌, ◌≢◌, ℕ, ◌+◌, ◌-◌, ◌<◌, ◌≤◌, List, [], ◌∷◌, map, length, drop, reverse, get_or, Some, None, Option, Result, Ok, Err, refl, sym, ap, subst, ◌∙◌, arith, w64, of_z, to_z, slice_get, inl, inr}
use Rattle.std.proofs.Math.ListN.{set}
use Rattle.std.specs.Prelude.{ℤ, pos}
use Rattle.std.specs.List.{Contains}
use mir.Val.{SFits}
use Rattle.std.proofs.lemmas.Int.{to_z-of_z}
use Rattle.std.proofs.lemmas.Option.{slice_get_within, get_or_from_slice_get}
use Rattle.std.proofs.lemmas.Bool.{cases_eq}
use Rattle.std.proofs.lemmas.List.{drop_more, drop_all, reverse-append, length-set, get_or-set_same, get_or-set_other}
use Rattle.jdata.specs.declared.fault.Fault.{Fault}
use Rattle.jfold.specs.Folded.{of_back, suffixes_by}
use Rattle.jfold.proofs.Steps.{value_of, one_more, all_some, has_none}

-- the value on the numbers from a place on
abbrev pub from_place : (ℤ → ℤ → Result ℤ Fault) → List ℤ → ℕ → Option ℤ
from_place meant old k = of_back meant (reverse (drop k old))

-- the places from `left` on have their values, and that at `left` is `value`; those before are as they were
pub record IsFolded (meant : ℤ → ℤ → Result ℤ Fault) (left : ℕ) (value : ℤ) (now old : List ℤ) : Type 0 where
  pub within : left < length old
  pub long : length now ≡ length old
  pub before : (k : ℕ) → k < left → get_or now k (pos 0) ≡ get_or old k (pos 0)
  pub done : (k : ℕ) → left ≤ k → k < length old → from_place meant old k ≡ Some (get_or now k (pos 0))
  pub here : from_place meant old left ≡ Some value

pub step : (meant : ℤ → ℤ → Result ℤ Fault) (old : List ℤ) (i : ℕ) (value : ℤ) → i < length old → from_place meant old (i + 1) ≡ Some value → from_place meant old i ≡ value_of (meant (get_or old i (pos 0)) value)
step meant old i value h e =
    ap (λ l. of_back meant (reverse l)) (drop_more old i (pos 0) h)
    ∙ ap (of_back meant) (reverse-append (get_or old i (pos 0) ∷ []) (drop (i + 1) old))
    ∙ one_more meant (reverse (drop (i + 1) old)) (get_or old i (pos 0)) value e

last_alone : (meant : ℤ → ℤ → Result ℤ Fault) (l : List ℤ) (i : ℕ) (last : ℤ) → i < length l → length l ≡ i + 1 → get_or l i (pos 0) ≡ last → from_place meant l i ≡ Some last
last_alone meant l i last h e is =
    ap (λ r. of_back meant (reverse r)) (drop_more l i (pos 0) h ∙ ap (λ r. get_or l i (pos 0) ∷ r) (drop_all (i + 1) l (omega arith)))
    ∙ ap Some is

begun : (meant : ℤ → ℤ → Result ℤ Fault) (l : List ℤ) (i : ℕ) (last : ℤ) → i < length l → length l ≡ i + 1 → get_or l i (pos 0) ≡ last → IsFolded meant i last l l
begun meant l i last h e is = record {
  within = h;
  long = refl;
  before = λ k below. refl;
  done = λ k from below. let same : i ≡ k = omega arith in ap (from_place meant l) (sym same) ∙ last_alone meant l i last h e is ∙ ap Some (sym is) ∙ ap (λ j. Some (get_or l j (pos 0))) same;
  here = last_alone meant l i last h e is;
}

pub begins : (meant : ℤ → ℤ → Result ℤ Fault) (l : List ℤ) (last : ℤ) → SFits w64 last → slice_get l (length l - 1) ≡ Some last → IsFolded meant (length l - 1) (to_z w64 (of_z w64 last)) l l
begins meant l last fits e =
    let h : length l - 1 < length l = slice_get_within l (length l - 1) last e in
    rw (to_z-of_z w64 last fits) (begun meant l (length l - 1) last h (omega arith) (get_or_from_slice_get l (length l - 1) last (pos 0) e))

done_at : (meant : ℤ → ℤ → Result ℤ Fault) (i : ℕ) (value next : ℤ) (now old : List ℤ) → IsFolded meant (i + 1) value now old → i < length now → from_place meant old i ≡ Some next → (k : ℕ) → i ≤ k → k < length old → from_place meant old k ≡ Some (get_or (set now i next) k (pos 0))
done_at meant i value next now old was room here k from below = elim (cases_eq i k) [
  | inl same ↦ ap (from_place meant old) (sym same) ∙ here ∙ ap Some (sym (get_or-set_same now i next (pos 0) room)) ∙ ap (λ j. Some (get_or (set now i next) j (pos 0))) same
  | inr other ↦
      let apart : k ≢ i = λ e. other (sym e) in
      let beyond : i + 1 ≤ k = omega (arith, other) in
      was.done k beyond below ∙ ap Some (sym (get_or-set_other now i k next (pos 0) apart))
]

further : (meant : ℤ → ℤ → Result ℤ Fault) (i : ℕ) (value next : ℤ) (now old : List ℤ) → IsFolded meant (i + 1) value now old → meant (get_or old i (pos 0)) value ≡ Ok next → IsFolded meant i next (set now i next) old
further meant i value next now old was e =
    let within : i < length old = omega (arith, was.within) in
    let room : i < length now = omega (arith, was.within, was.long) in
    let at : from_place meant old i ≡ Some next = step meant old i value within was.here ∙ ap value_of e in
    record {
      within = within;
      long = length-set now i next ∙ was.long;
      before = λ k below. let other : k ≢ i = omega arith in get_or-set_other now i k next (pos 0) other ∙ was.before k (omega arith);
      done = done_at meant i value next now old was room at;
      here = at;
    }

-- the number that is read next, as the list was
read : (meant : ℤ → ℤ → Result ℤ Fault) (left i : ℕ) (value : ℤ) (now old : List ℤ) (r : Result ℤ Fault) → i < left → SFits w64 (get_or now i (pos 0)) → IsFolded meant left value now old → meant (to_z w64 (of_z w64 (get_or now i (pos 0)))) value ≡ r → meant (get_or old i (pos 0)) value ≡ r
read meant left i value now old r h f was e =
    ap (λ n. meant n value) (sym (was.before i h) ∙ sym (to_z-of_z w64 (get_or now i (pos 0)) f)) ∙ e

pub goes_on : (meant : ℤ → ℤ → Result ℤ Fault) (left : ℕ) (value next : ℤ) (now old : List ℤ) → 0 < left → SFits w64 (get_or now (left - 1) (pos 0)) → SFits w64 next → IsFolded meant left value now old → meant (to_z w64 (of_z w64 (get_or now (left - 1) (pos 0)))) value ≡ Ok next → IsFolded meant (left - 1) (to_z w64 (of_z w64 next)) (set now (left - 1) (to_z w64 (of_z w64 next))) old
goes_on meant left value next now old some f n was e =
    let one : left ≡ (left - 1) + 1 = omega arith in
    rw (to_z-of_z w64 next n) (further meant (left - 1) value next now old (subst (λ j. IsFolded meant j value now old) one was) (read meant left (left - 1) value now old (Ok next) (omega arith) f was e))

pub stops : (meant : ℤ → ℤ → Result ℤ Fault) (left : ℕ) (value : ℤ) (fault : Fault) (now old : List ℤ) → 0 < left → SFits w64 (get_or now (left - 1) (pos 0)) → IsFolded meant left value now old → meant (to_z w64 (of_z w64 (get_or now (left - 1) (pos 0)))) value ≡ Err fault → Contains (suffixes_by (Some meant) old) None
stops meant left value fault now old some f was e =
    let one : left ≡ (left - 1) + 1 = omega arith in
    let within : left - 1 < length old = omega (arith, was.within) in
    let here : from_place meant old ((left - 1) + 1) ≡ Some value = subst (λ j. from_place meant old j ≡ Some value) one was.here in
    let none : from_place meant old (left - 1) ≡ None = step meant old (left - 1) value within here ∙ ap value_of (read meant left (left - 1) value now old (Err fault) (omega arith) f was e) in
    has_none (from_place meant old) (left - 1) (length old) within none

pub ends : (meant : ℤ → ℤ → Result ℤ Fault) (left : ℕ) (value : ℤ) (now old : List ℤ) → left ≤ 0 → IsFolded meant left value now old → suffixes_by (Some meant) old ≡ map Some now
ends meant left value now old none was = all_some (from_place meant old) (length old) now was.long (λ k below. was.done k (omega arith) below)

pub no_row : (row : Option (ℤ → ℤ → Result ℤ Fault)) (l : List ℤ) → row ≡ None → l ≢ [] → Contains (suffixes_by row l) None
no_row row [] e some = absurd (some refl)
no_row row (n ∷ l) e some = subst (λ r. Contains (suffixes_by r (n ∷ l)) None) (sym e) (has_none (λ k. None) 0 (length (n ∷ l)) (omega arith) refl)
