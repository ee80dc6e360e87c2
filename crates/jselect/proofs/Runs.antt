-- Runs of a list, and items that are picked by their places.
use Rattle.std.specs.Prelude.{ℕ, zero, suc, ◌+◌, ◌*◌, ◌/◌, ◌%◌, ◌<◌, ◌≤◌, ◌≡◌, List, [], ◌∷◌, ◌++◌, length, map, take, drop, replicate, get_or}
use Rattle.std.specs.List.{range_with_len, flat_map, All}
use Rattle.std.proofs.Common.{arith, sym, ◌∙◌, ap, refl, subst}
use Rattle.std.proofs.Math.Nat.{zero-mul}
use Rattle.std.proofs.lemmas.List.{map-id, map-append, length-take, length-drop, length-append, append-nil, length-replicate}
use Rattle.std.proofs.lemmas.List.Concat.{flat_map-append}
use Rattle.std.proofs.lemmas.List.Elements.{All-head, All-tail, All-append, All-nil, All-replicate}
use Rattle.std.proofs.lemmas.List.FromFn.{map-range_with_len_more}
use Rattle.std.proofs.lemmas.Nat.{div-mul-add, mod-mul-add, mod_below, div-add-mod'}
use Rattle.jdata.proofs.Lists.{range-map, same_map, split_map, window, factor_some}
use Rattle.jselect.specs.Picking.{runs, repeated}

one_more_place : (n : ℕ) → range_with_len 0 (n + 1) ≡ range_with_len 0 n ++ n ∷ []
one_more_place n =
    sym (map-id (range_with_len 0 (n + 1)))
    ∙ map-range_with_len_more (λ (x : ℕ). x) 0 n n (omega arith)
    ∙ ap (λ l. l ++ n ∷ []) (map-id (range_with_len 0 n))

pub repeated_more : (count place : ℕ → ℕ) (n : ℕ) → repeated count place (n + 1) ≡ repeated count place n ++ replicate (count n) (place n)
unfolding repeated
repeated_more count place n =
    ap (flat_map (λ i. replicate (count i) (place i))) (one_more_place n)
    ∙ flat_map-append (λ i. replicate (count i) (place i)) (range_with_len 0 n) (n ∷ [])
    ∙ ap (λ l. repeated count place n ++ l) (append-nil (replicate (count n) (place n)))

pub length-repeated_more : (count place : ℕ → ℕ) (n : ℕ) → length (repeated count place (n + 1)) ≡ length (repeated count place n) + count n
length-repeated_more count place n =
    ap length (repeated_more count place n)
    ∙ length-append (repeated count place n) (replicate (count n) (place n))
    ∙ ap (λ k. length (repeated count place n) + k) (length-replicate (count n) (place n))

pub repeated_none : (count place : ℕ → ℕ) → repeated count place 0 ≡ []
unfolding repeated
repeated_none count place = refl

pub runs_none : {A : Type 0} (c : ℕ) (xs : List A) → runs c xs [] ≡ []
unfolding runs
runs_none c xs = refl

pub runs-append : {A : Type 0} (c : ℕ) (xs : List A) (ps qs : List ℕ) → runs c xs (ps ++ qs) ≡ runs c xs ps ++ runs c xs qs
unfolding runs
runs-append c xs ps qs = flat_map-append (λ p. take c (drop (p * c) xs)) ps qs

replicate_more : {A : Type 0} (n : ℕ) (x : A) → replicate (n + 1) x ≡ replicate n x ++ x ∷ []
replicate_more zero x = refl
replicate_more (suc n) x =
    let one : suc n + 1 ≡ suc (n + 1) = omega arith in
    ap (λ k. replicate k x) one ∙ ap (λ l. x ∷ l) (replicate_more n x)

-- one more run of the same item
pub runs_again : {A : Type 0} (c : ℕ) (xs : List A) (n p : ℕ) → runs c xs (replicate (n + 1) p) ≡ runs c xs (replicate n p) ++ take c (drop (p * c) xs)
unfolding runs
runs_again c xs n p =
    ap (runs c xs) (replicate_more n p)
    ∙ runs-append c xs (replicate n p) (p ∷ [])
    ∙ ap (λ l. runs c xs (replicate n p) ++ l) (append-nil (take c (drop (p * c) xs)))

pub map-runs : {A B : Type 0} (f : A → B) (c : ℕ) (xs : List A) (places : List ℕ) → map f (runs c xs places) ≡ runs c (map f xs) places
unfolding runs
map-runs f c xs [] = refl
map-runs f c xs (p ∷ places) =
    map-append f (take c (drop (p * c) xs)) (runs c xs places) ∙ (λ i. range-map f (p * c) c xs i ++ map-runs f c xs places i)

-- a run that lies in the list
abbrev pub Fits : ℕ → ℕ → ℕ → Type 0
Fits c n p = p * c + c ≤ n

pub length-runs : {A : Type 0} (c : ℕ) (xs : List A) (places : List ℕ) → All (Fits c (length xs)) places → length (runs c xs places) ≡ length places * c
unfolding runs
length-runs c xs [] h = sym (zero-mul c)
length-runs c xs (p ∷ places) h =
    let rest = length-runs c xs places (All-tail (Fits c (length xs)) p places h) in
    let here : p * c + c ≤ length xs = All-head (Fits c (length xs)) p places h in
    let long : length (take c (drop (p * c) xs)) ≡ c = omega (arith, length-take c (drop (p * c) xs), length-drop (p * c) xs) in
    omega (arith, rest, long, length-append (take c (drop (p * c) xs)) (runs c xs places))

-- a place in the first run, and one behind it
in_first : (c q : ℕ) → q < c → (q / c ≡ 0) × (q % c ≡ q)
in_first c q below =
    let whole : q ≡ 0 * c + q = omega arith in
    (ap (λ n. n / c) whole ∙ div-mul-add 0 c q below, ap (λ n. n % c) whole ∙ mod-mul-add 0 c q below)

behind_first : (c q : ℕ) → 0 < c → ((c + q) / c ≡ suc (q / c)) × ((c + q) % c ≡ q % c)
behind_first c q some =
    let whole : c + q ≡ suc (q / c) * c + q % c = omega (arith, div-add-mod' q c) in (
      ap (λ n. n / c) whole ∙ div-mul-add (suc (q / c)) c (q % c) (mod_below q c some),
      ap (λ n. n % c) whole ∙ mod-mul-add (suc (q / c)) c (q % c) (mod_below q c some),
    )

-- the runs, thing by thing: thing q is thing q % c of run q / c
pub runs_by_place : {A : Type 0} (c : ℕ) (xs : List A) (places : List ℕ) (d : A) → All (Fits c (length xs)) places →
    map (λ q. get_or xs (get_or places (q / c) 0 * c + q % c) d) (range_with_len 0 (length places * c)) ≡ runs c xs places
unfolding runs
runs_by_place c xs [] d h = ap (λ n. map (λ q. get_or xs (0 * c + q % c) d) (range_with_len 0 n)) (zero-mul c)
runs_by_place {A} c xs (p ∷ places) d h =
    let f : ℕ → A = λ q. get_or xs (get_or (p ∷ places) (q / c) 0 * c + q % c) d in
    let rest : ℕ → A = λ q. get_or xs (get_or places (q / c) 0 * c + q % c) d in
    let more : suc (length places) * c ≡ c + length places * c = omega arith in
    let here : ℕ → A = λ q. get_or xs (p * c + q) d in
    let first : map f (range_with_len 0 c) ≡ map here (range_with_len 0 c) =
    same_map f here c d (λ q below. let at = in_first c q below in λ i. get_or xs (get_or (p ∷ places) (at.0 i) 0 * c + at.1 i) d) in
    let behind : map (λ q. f (c + q)) (range_with_len 0 (length places * c)) ≡ map rest (range_with_len 0 (length places * c)) =
    same_map (λ q. f (c + q)) rest (length places * c) d
    (λ q below. let at = behind_first c q (factor_some q (length places) c below) in λ i. get_or xs (get_or (p ∷ places) (at.0 i) 0 * c + at.1 i) d) in
    ap (λ n. map f (range_with_len 0 n)) more
    ∙ split_map f c (length places * c)
    ∙ (λ i. (first ∙ sym (window xs (p * c) c d (All-head (Fits c (length xs)) p places h))) i ++ (behind ∙ runs_by_place c xs places d (All-tail (Fits c (length xs)) p places h)) i)

-- what holds of each place that serves holds of each place that is repeated
pub All-repeated : (P : ℕ → Type 0) (count place : ℕ → ℕ) (n : ℕ) → ((i : ℕ) → i < n → P (place i)) → All P (repeated count place n)
unfolding repeated
All-repeated P count place zero h = All-nil P
All-repeated P count place (suc n) h =
    let one : n + 1 ≡ suc n = omega arith in
    subst (λ l. All P l) (sym (repeated_more count place n) ∙ ap (repeated count place) one)
    (All-append P (repeated count place n) (replicate (count n) (place n)) (All-repeated P count place n (λ i below. h i (omega arith))) (All-replicate P (count n) (place n) (h n (omega arith))))
