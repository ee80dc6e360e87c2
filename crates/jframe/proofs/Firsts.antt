-- All values or the first fault, one place after another.
use Rattle.std.proofs.Common.{◌≡◌, ℕ, ◌+◌, ◌-◌, ◌<◌, suc, List, [], ◌∷◌, ◌++◌, length, map, Result, Ok, Err, refl, sym, ap, ◌∙◌, arith}
use Rattle.std.specs.List.{range_with_len}
use Rattle.std.proofs.lemmas.List.FromFn.{map-range_with_len_more, length-map-range_with_len}
use Rattle.jdata.specs.Firsts.{all_or_first, in_front}
use Rattle.jdata.specs.declared.fault.Fault.{Fault}
use Rattle.jdata.proofs.Lists.{split_map}

front_ok : {A : Type 0} (x : A) (r : Result (List A) Fault) (vs : List A) → in_front x r ≡ Ok vs → (ws : List A) × ((r ≡ Ok ws) × (vs ≡ x ∷ ws))
front_ok x (Ok ws) vs e = (ws, (refl, cc))
front_ok x (Err f) vs e = cc

pub all_more : {A : Type 0} (rs : List (Result A Fault)) (vs : List A) (x : A) → all_or_first rs ≡ Ok vs → all_or_first (rs ++ Ok x ∷ []) ≡ Ok (vs ++ x ∷ [])
all_more [] vs x e = let none : [] ≡ vs = cc in ap (λ l. Ok (l ++ x ∷ [])) none
all_more (Ok y ∷ rs) vs x e =
    let f = front_ok y (all_or_first rs) vs e in
    ap (in_front y) (all_more rs f.0 x f.1.0) ∙ ap (λ l. Ok (l ++ x ∷ [])) (sym f.1.1)
all_more (Err g ∷ rs) vs x e = cc

pub all_until : {A : Type 0} (rs more : List (Result A Fault)) (vs : List A) (f : Fault) → all_or_first rs ≡ Ok vs → all_or_first (rs ++ Err f ∷ more) ≡ Err f
all_until [] more vs f e = refl
all_until (Ok y ∷ rs) more vs f e =
    let g = front_ok y (all_or_first rs) vs e in
    ap (in_front y) (all_until rs more g.0 f g.1.0)
all_until (Err g ∷ rs) more vs f e = cc

pub all_long : {A : Type 0} (rs : List (Result A Fault)) (vs : List A) → all_or_first rs ≡ Ok vs → length vs ≡ length rs
all_long [] vs e = let none : [] ≡ vs = cc in ap length (sym none)
all_long (Ok y ∷ rs) vs e =
    let f = front_ok y (all_or_first rs) vs e in
    ap length f.1.1 ∙ ap suc (all_long rs f.0 f.1.0)
all_long (Err g ∷ rs) vs e = cc

-- the same of what is done at each place
pub places_more : {A : Type 0} (each : ℕ → Result A Fault) (n : ℕ) (vs : List A) (x : A) → all_or_first (map each (range_with_len 0 n)) ≡ Ok vs → each n ≡ Ok x →
    all_or_first (map each (range_with_len 0 (n + 1))) ≡ Ok (vs ++ x ∷ [])
places_more each n vs x e here =
    ap all_or_first (map-range_with_len_more each 0 n n (omega arith) ∙ ap (λ r. map each (range_with_len 0 n) ++ r ∷ []) here)
    ∙ all_more (map each (range_with_len 0 n)) vs x e

pub places_until : {A : Type 0} (each : ℕ → Result A Fault) (i n : ℕ) (vs : List A) (f : Fault) → all_or_first (map each (range_with_len 0 i)) ≡ Ok vs → i < n → each i ≡ Err f →
    all_or_first (map each (range_with_len 0 n)) ≡ Err f
places_until each i n vs f e below here =
    let count : n ≡ i + suc (n - i - 1) = omega arith in
    let place : i + 0 ≡ i = omega arith in
    let rest = map (λ p. each (i + p)) (range_with_len (0 + 1) (n - i - 1)) in
    ap (λ m. all_or_first (map each (range_with_len 0 m))) count
    ∙ ap all_or_first (split_map each i (suc (n - i - 1)) ∙ ap (λ r. map each (range_with_len 0 i) ++ r ∷ rest) (ap each place ∙ here))
    ∙ all_until (map each (range_with_len 0 i)) rest vs f e

pub places_long : {A : Type 0} (each : ℕ → Result A Fault) (n : ℕ) (vs : List A) → all_or_first (map each (range_with_len 0 n)) ≡ Ok vs → length vs ≡ n
places_long each n vs e = all_long (map each (range_with_len 0 n)) vs e ∙ length-map-range_with_len each 0 n
