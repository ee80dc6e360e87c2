-- Intervals one after another.
use Rattle.std.specs.Prelude.{ℕ, ◌+◌, ◌≡◌, List, [], ◌∷◌, ◌++◌, length, map}
use Rattle.std.specs.List.{All, range_with_len}
use Rattle.std.proofs.Common.{arith, sym, ◌∙◌, ap, subst}
use Rattle.std.proofs.lemmas.List.{map-append}
use Rattle.std.proofs.lemmas.List.Elements.{All-push}
use Rattle.std.proofs.lemmas.List.FromFn.{map-range_with_len_more}
use Rattle.jcut.specs.Cut.{interval, intervals}
use Rattle.jcut.specs.Runs.{run_places, Fits}
use Rattle.jcut.specs.declared.cutting.Cutting.{Cutting}
use Rattle.jcut.specs.declared.run.Run.{Run}

pub interval_more : (f : ℕ → List ℕ) (n k : ℕ) (runs longer : List Run) (r : Run) → map run_places runs ≡ map f (range_with_len 0 k) → All (Fits n) runs →
    run_places r ≡ f k → Fits n r → longer ≡ runs ++ r ∷ [] → (map run_places longer ≡ map f (range_with_len 0 (k + 1))) × All (Fits n) longer
interval_more f n k runs longer r was within is fits e = (
  ap (map run_places) e ∙ map-append run_places runs (r ∷ []) ∙ (λ i. was i ++ is i ∷ []) ∙ sym (map-range_with_len_more f 0 k k (omega arith)),
  subst (λ l. All (Fits n) l) (sym e) (All-push (Fits n) runs r within fits),
)

pub intervals_all : (c : Cutting) (frets : List ℕ) (n k : ℕ) (runs given : List Run) → k ≡ length frets → given ≡ runs →
    map run_places runs ≡ map (interval c frets n) (range_with_len 0 k) → map run_places given ≡ intervals c frets n
unfolding intervals
intervals_all c frets n k runs given all e was =
    ap (map run_places) e ∙ was ∙ ap (λ m. map (interval c frets n) (range_with_len 0 m)) all
