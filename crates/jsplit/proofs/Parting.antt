-- Blocks are all items, each once and in order.
use Rattle.std.specs.Prelude.{ℕ, zero, suc, ◌+◌, ◌-◌, ◌*◌, ◌/◌, ◌<◌, ◌≤◌, ◌≡◌, nat_le, min, Bool, true, false, ℤ, pos, negsuc, IsTrue, [], ◌∷◌, ◌++◌, map}
use Rattle.std.specs.List.{range_with_len, flat_map}
use Rattle.std.proofs.Common.{arith, refl, sym, ◌∙◌, ap, true≢false}
use Rattle.std.proofs.lemmas.Bool.{lt-leb, le-leb}
use Rattle.std.proofs.lemmas.List.{append-nil}
use Rattle.std.proofs.lemmas.List.Concat.{flat_map-append}
use Rattle.std.proofs.lemmas.List.Folds.{flat_map-map}
use Rattle.std.proofs.lemmas.List.FromFn.{map-range_with_len_more}
use Rattle.std.proofs.lemmas.Nat.{div-add-mod', mod_below}
use Rattle.jdata.specs.declared.noun.Noun.{Noun}
use Rattle.jselect.specs.Items.{item_count}
use Rattle.jcut.specs.Runs.{run_places}
use Rattle.jcut.specs.declared.run.Run.{Run}
use Rattle.jsplit.specs.Divisions.{run_of, runs}
use Rattle.jsplit.specs.Fixes.{infixes, joined, asks_blocks}
use Rattle.jsplit.specs.declared.division.Division.TheVariants as division

-- numbers, and those that go on from there
join : (a n c m t : ℕ) → c ≡ a + n → t ≡ n + m → range_with_len a n ++ range_with_len c m ≡ range_with_len a t
join a zero c m t e whole =
    let here : c ≡ a = omega arith in
    let all : m ≡ t = omega arith in
    λ i. range_with_len (here i) (all i)
join a (suc n) c m t e whole =
    let all : suc (n + m) ≡ t = omega arith in
    (λ i. a ∷ join (a + 1) n c m (n + m) (omega arith) refl i) ∙ ap (range_with_len a) all

reaches : (p n : ℕ) → nat_le p n ≡ true → p ≤ n
reaches p n h = grind (arith, lt-leb, le-leb)

beyond : (p n : ℕ) → nat_le p n ≡ false → n < p
beyond p n h = grind (arith, lt-leb, le-leb)

block_meets : (n b p : ℕ) (d : Bool) → nat_le p n ≡ d → range_with_len 0 (min n p) ++ range_with_len p (min b (n - p)) ≡ range_with_len 0 (min n (p + b))
block_meets n b p true h =
    let within = reaches p n h in
    join 0 (min n p) p (min b (n - p)) (min n (p + b)) (omega (arith, within)) (omega (arith, within))
block_meets n b p false h =
    let over = beyond p n h in
    let none : min b (n - p) ≡ 0 = omega (arith, over) in
    let same : min n p ≡ min n (p + b) = omega (arith, over) in
    (λ i. range_with_len 0 (min n p) ++ range_with_len p (none i)) ∙ append-nil (range_with_len 0 (min n p)) ∙ ap (range_with_len 0) same

-- the first blocks
first_blocks : (b n k : ℕ) → flat_map run_places (map (run_of (division.Blocks b) n) (range_with_len 0 k)) ≡ range_with_len 0 (min n (k * b))
first_blocks b n zero = let none : 0 ≡ min n (zero * b) = omega arith in ap (range_with_len 0) none
first_blocks b n (suc k) =
    let f : ℕ → Run = run_of (division.Blocks b) n in
    let next : min n (k * b + b) ≡ min n (suc k * b) = omega arith in
    let one_more : suc k ≡ k + 1 = omega arith in
    ap (λ m. flat_map run_places (map f (range_with_len 0 m))) one_more
    ∙ ap (flat_map run_places) (map-range_with_len_more f 0 k k (omega arith))
    ∙ flat_map-append run_places (map f (range_with_len 0 k)) (f k ∷ [])
    ∙ (λ i. first_blocks b n k i ++ append-nil (run_places (f k)) i)
    ∙ block_meets n b (k * b) (nat_le (k * b) n) refl
    ∙ ap (range_with_len 0) next

enough : (b n : ℕ) → 0 < b → min n (((n + (b - 1)) / b) * b) ≡ n
enough b n some = omega (arith, div-add-mod' (n + (b - 1)) b, mod_below (n + (b - 1)) b some)

blocks_join : (b n : ℕ) → 0 < b → flat_map run_places (runs (division.Blocks b) n) ≡ range_with_len 0 n
unfolding runs
blocks_join b n some = first_blocks b n ((n + (b - 1)) / b) ∙ ap (range_with_len 0) (enough b n some)

pub blocks_part : (x : ℤ) (y : Noun) → IsTrue (asks_blocks x) → joined (infixes x y) ≡ range_with_len 0 (item_count y)
blocks_part (pos w) y h = absurd (true≢false (sym h))
blocks_part (negsuc b) y h =
    flat_map-map (λ l. l) run_places (runs (division.Blocks (suc b)) (item_count y)) ∙ blocks_join (suc b) (item_count y) (omega arith)
