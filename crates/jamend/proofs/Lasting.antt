-- The last places of numbers, one place more.
use Rattle.std.specs.Prelude.{ℕ, suc, ◌+◌, ◌<◌, ◌≡◌, ◌≢◌, ◌==◌, if◌then◌else◌, Bool, true, false, Option, Some, None, List, length, map, replicate, get_or}
use Rattle.std.specs.List.{range_with_len, All}
use Rattle.std.proofs.Common.{arith, sym, ◌∙◌, ap, refl}
use Rattle.std.proofs.Math.ListN.{set}
use Rattle.std.proofs.lemmas.Bool.{eqb-true, eqb-false}
use Rattle.std.proofs.lemmas.List.{length-set, get_or-set_same, get_or-set_other}
use Rattle.std.proofs.lemmas.List.Elements.{All-get_or}
use Rattle.std.proofs.lemmas.List.FromFn.{fill_by_all, length-map-range_with_len, get_or-map-range_with_len}
use Rattle.jdata.proofs.Lists.{constant_map}
use Rattle.jamend.specs.Replacing.{last_place}

pub only_none : (P : Option ℕ → Type 0) → ((n : ℕ) → P (Some n) → ⊥) → (y : Option ℕ) → P y → y ≡ None
only_none P h None e = refl
only_none P h (Some n) e = absurd (h n e)

pub none_yet : (numbers : List ℕ) (n : ℕ) → replicate n None ≡ map (last_place numbers 0) (range_with_len 0 n)
none_yet numbers n = sym (constant_map {A = Option ℕ} None 0 n)

pub last_long : (numbers : List ℕ) (last : List (Option ℕ)) (n k : ℕ) → last ≡ map (last_place numbers k) (range_with_len 0 n) → length last ≡ n
last_long numbers last n k was = ap length was ∙ length-map-range_with_len (last_place numbers k) 0 n

pub last_at : (numbers : List ℕ) (last : List (Option ℕ)) (n k i : ℕ) (d : Option ℕ) → last ≡ map (last_place numbers k) (range_with_len 0 n) → i < n → get_or last i d ≡ last_place numbers k i
last_at numbers last n k i d was below = ap (λ l. get_or l i d) was ∙ get_or-map-range_with_len (last_place numbers k) 0 n i i d below (omega arith)

pub named_below : (numbers : List ℕ) (n k : ℕ) → k < length numbers → All (λ m. m < n) numbers → get_or numbers k 0 < n
named_below numbers n k there h = All-get_or (λ m. m < n) numbers k 0 there h

module _ (numbers : List ℕ) (last later : List (Option ℕ)) (n k v : ℕ) (is : v ≡ get_or numbers k 0) (within : v < n)
    (was : last ≡ map (last_place numbers k) (range_with_len 0 n)) (now : later ≡ set last v (Some k)) where
  long : length last ≡ n
  long = ap length was ∙ length-map-range_with_len (last_place numbers k) 0 n

  abbrev pick : ℕ → Bool → Option ℕ
  pick i b = if b then Some k else last_place numbers k i

  more : (i : ℕ) → last_place numbers (k + 1) i ≡ pick i (get_or numbers k 0 == i)
  more i = let one : k + 1 ≡ suc k = omega arith in ap (λ m. last_place numbers m i) one

  each : (i : ℕ) → i < n → (b : Bool) → (v == i) ≡ b → get_or later i None ≡ pick i b
  each i below true e =
      let same : v ≡ i = eqb-true v i e in
      let there : v < length last = omega (arith, long, within) in
      ap (λ l. get_or l i None) now ∙ ap (λ j. get_or (set last v (Some k)) j None) (sym same) ∙ get_or-set_same last v (Some k) None there
  each i below false e =
      let apart : v ≢ i = eqb-false v i e in
      let other : i ≢ v = omega (arith, apart) in
      ap (λ l. get_or l i None) now ∙ get_or-set_other last v i (Some k) None other ∙ ap (λ l. get_or l i None) was
      ∙ get_or-map-range_with_len (last_place numbers k) 0 n i i None below (omega arith)

  pub last_more : later ≡ map (last_place numbers (k + 1)) (range_with_len 0 n)
  last_more =
      fill_by_all (last_place numbers (k + 1)) later n None (ap length now ∙ length-set last v (Some k) ∙ long)
      (λ i below. each i below (v == i) refl ∙ ap (λ x. pick i (x == i)) is ∙ sym (more i))
