-- The runs into which items are divided are within them.
use Rattle.std.specs.Prelude.{ℕ, ◌+◌, ◌-◌, ◌*◌, ◌/◌, ◌<◌, ◌≤◌, ◌≡◌, List, map}
use Rattle.std.specs.List.{All, range_with_len}
use Rattle.std.proofs.Common.{arith, sym, ◌∙◌, ap, subst}
use Rattle.std.proofs.Math.Nat.{mul-le-mul_right}
use Rattle.std.proofs.lemmas.List.Elements.{All-map, All-weaker}
use Rattle.std.proofs.lemmas.Nat.{div-add-mod'}
use Rattle.jcut.specs.Runs.{Fits}
use Rattle.jcut.specs.declared.run.Run.{Run}
use Rattle.jcut.proofs.Bounds.{range_below}
use Rattle.jsplit.specs.Divisions.{how_many, run_of, runs, IsSound}
use Rattle.jsplit.specs.declared.division.Division.{Division}
use Rattle.jsplit.specs.declared.division.Division.TheVariants as division

-- a block begins at an item
pub block_begins : (n b i : ℕ) → 0 < b → i < (n + (b - 1)) / b → i * b < n
block_begins n b i some h =
    let q = (n + (b - 1)) / b in
    let more : i + 1 ≤ q = omega arith in
    let up = mul-le-mul_right b more in
    omega (arith, up, div-add-mod' (n + (b - 1)) b)

run_fits : (d : Division) (n i : ℕ) → IsSound d → i < how_many d n → Fits n (run_of d n i)
run_fits division.Prefixes n i sound h = omega arith
run_fits division.Suffixes n i sound h = omega arith
run_fits (division.Windows w) n i sound h = omega arith
run_fits (division.Blocks b) n i sound h = omega (arith, block_begins n b i sound.0 h)

pub runs_fit : (d : Division) (n : ℕ) → IsSound d → All (Fits n) (runs d n)
unfolding runs
runs_fit d n sound =
    let m = how_many d n in
    All-map (Fits n) (run_of d n) (range_with_len 0 m)
    (All-weaker (λ i. i < m) (λ i. Fits n (run_of d n i)) (λ i below. run_fits d n i sound below) (range_with_len 0 m) (range_below 0 m m (omega arith)))

-- runs made one after the other
pub runs_from : (d : Division) (n k : ℕ) (made given : List Run) → k ≡ how_many d n → given ≡ made → made ≡ map (run_of d n) (range_with_len 0 k) → given ≡ runs d n
unfolding runs
runs_from d n k made given all e was = e ∙ was ∙ ap (λ m. map (run_of d n) (range_with_len 0 m)) all

pub runs_fit_from : (d : Division) (n k : ℕ) (made given : List Run) → k ≡ how_many d n → IsSound d → given ≡ made → made ≡ map (run_of d n) (range_with_len 0 k) →
    All (Fits n) given
runs_fit_from d n k made given all sound e was = subst (All (Fits n)) (sym (runs_from d n k made given all e was)) (runs_fit d n sound)
