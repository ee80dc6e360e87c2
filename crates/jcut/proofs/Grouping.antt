-- Places that are put into lists by the numbers that stand there.
use Rattle.std.specs.Prelude.{ℕ, ◌+◌, ◌<◌, ◌≤◌, ◌≡◌, ◌≢◌, ◌==◌, Bool, true, false, cond, List, [], ◌∷◌, ◌++◌, length, map, filter, get_or}
use Rattle.std.specs.List.{range_with_len}
use Rattle.std.proofs.Common.{arith, sym, ◌∙◌, ap, refl}
use Rattle.std.proofs.Math.ListN.{set}
use Rattle.std.proofs.lemmas.Bool.{eqb-true, eqb-false, eq-eqb, ne_eqb}
use Rattle.std.proofs.lemmas.List.{append-nil, length-set, get_or-set_same, get_or-set_other, map-append}
use Rattle.std.proofs.lemmas.List.Elements.{filter-append}
use Rattle.std.proofs.lemmas.List.FromFn.{fill_by_all, length-map-range_with_len, get_or-map-range_with_len}
use Rattle.jcut.specs.Grouped.{places_with, own_places}
use Rattle.jcut.proofs.Bounds.{range_more}

-- one place more
with_more : (numbers : List ℕ) (k i : ℕ) → places_with numbers (k + 1) i ≡ places_with numbers k i ++ cond (i == get_or numbers k 0) (k ∷ []) []
with_more numbers k i =
    ap (filter (λ j. i == get_or numbers j 0)) (range_more k) ∙ filter-append (λ j. i == get_or numbers j 0) (range_with_len 0 k) (k ∷ [])

own_more : (numbers : List ℕ) (k : ℕ) → own_places numbers (k + 1) ≡ own_places numbers k ++ cond (get_or numbers k 0 == k) (k ∷ []) []
own_more numbers k =
    ap (filter (λ j. get_or numbers j 0 == j)) (range_more k) ∙ filter-append (λ j. get_or numbers j 0 == j) (range_with_len 0 k) (k ∷ [])

-- a place is put into the list of its number
module _ (numbers : List ℕ) (lists longer : List (List ℕ)) (n k v : ℕ) (is : v ≡ get_or numbers k 0) (within : v < n)
    (was : lists ≡ map (places_with numbers k) (range_with_len 0 n)) (now : longer ≡ set lists v (get_or lists v [] ++ k ∷ [])) where
  long : length lists ≡ n
  long = ap length was ∙ length-map-range_with_len (places_with numbers k) 0 n

  old : (i : ℕ) → i < n → get_or lists i [] ≡ places_with numbers k i
  old i below = ap (λ l. get_or l i []) was ∙ get_or-map-range_with_len (places_with numbers k) 0 n i i [] below (omega arith)

  each : (i : ℕ) → i < n → (b : Bool) → (i == v) ≡ b → get_or longer i [] ≡ places_with numbers k i ++ cond b (k ∷ []) []
  each i below true e =
      let same : i ≡ v = eqb-true i v e in
      let there : v < length lists = omega (arith, long) in
      ap (λ l. get_or l i []) now ∙ ap (λ j. get_or (set lists v (get_or lists v [] ++ k ∷ [])) j []) same
      ∙ get_or-set_same lists v (get_or lists v [] ++ k ∷ []) [] there
      ∙ ap (λ l. l ++ k ∷ []) (ap (λ j. get_or lists j []) (sym same) ∙ old i below)
  each i below false e =
      let other : i ≢ v = eqb-false i v e in
      ap (λ l. get_or l i []) now ∙ get_or-set_other lists v i (get_or lists v [] ++ k ∷ []) [] other ∙ old i below
      ∙ sym (append-nil (places_with numbers k i))

  pub grouped_more : longer ≡ map (places_with numbers (k + 1)) (range_with_len 0 n)
  grouped_more =
      fill_by_all (places_with numbers (k + 1)) longer n [] (ap length now ∙ length-set lists v (get_or lists v [] ++ k ∷ []) ∙ long)
      (λ i below. each i below (i == v) refl ∙ ap (λ x. places_with numbers k i ++ cond (i == x) (k ∷ []) []) is ∙ sym (with_more numbers k i))

-- the lists of the numbers in their own place, one place more
pub own_lists_more : (f : ℕ → List ℕ) (numbers : List ℕ) (k : ℕ) (own more : List (List ℕ)) → own ≡ map f (own_places numbers k) →
    get_or numbers k 0 ≡ k → more ≡ own ++ f k ∷ [] → more ≡ map f (own_places numbers (k + 1))
own_lists_more f numbers k own more was here e =
    let test : (get_or numbers k 0 == k) ≡ true = eq-eqb (get_or numbers k 0) k here in
    e ∙ ap (λ l. l ++ f k ∷ []) was ∙ sym (map-append f (own_places numbers k) (k ∷ []))
    ∙ sym (ap (map f) (own_more numbers k ∙ ap (λ b. own_places numbers k ++ cond b (k ∷ []) []) test))

pub own_lists_same : (f : ℕ → List ℕ) (numbers : List ℕ) (k : ℕ) (own : List (List ℕ)) → own ≡ map f (own_places numbers k) →
    get_or numbers k 0 ≢ k → own ≡ map f (own_places numbers (k + 1))
own_lists_same f numbers k own was other =
    let test : (get_or numbers k 0 == k) ≡ false = ne_eqb (get_or numbers k 0) k other in
    was ∙ sym (ap (map f) (own_more numbers k ∙ ap (λ b. own_places numbers k ++ cond b (k ∷ []) []) test ∙ append-nil (own_places numbers k)))

-- the lists that are left, and those of the numbers in their own place below k
pub record Owned (numbers : List ℕ) (all left own : List (List ℕ)) (k : ℕ) : Type 0 where
  pub owned : own ≡ map (λ i. get_or all i []) (own_places numbers k)
  pub long : length left ≡ length all
  pub kept : (i : ℕ) → k ≤ i → get_or left i [] ≡ get_or all i []

-- a place that is its own number's gives its list away, and any other leaves the lists
pub owned_more : (numbers : List ℕ) (all left left' own own' : List (List ℕ)) (k : ℕ) (x : List ℕ) → Owned numbers all left own k → get_or numbers k 0 ≡ k → k < length left →
    x ≡ get_or left k [] → left' ≡ set left k [] → own' ≡ own ++ x ∷ [] → Owned numbers all left' own' (k + 1)
owned_more numbers all left left' own own' k x h here within is e more = record {
  owned = own_lists_more (λ i. get_or all i []) numbers k own own' h.owned here (more ∙ ap (λ l. own ++ l ∷ []) (is ∙ h.kept k (omega arith)));
  long = ap length e ∙ length-set left k [] ∙ h.long;
  kept = λ i up.
      let other : i ≢ k = omega arith in
      ap (λ l. get_or l i []) e ∙ get_or-set_other left k i [] [] other ∙ h.kept i (omega arith);
}

pub owned_same : (numbers : List ℕ) (all left own : List (List ℕ)) (k : ℕ) → Owned numbers all left own k → get_or numbers k 0 ≢ k → Owned numbers all left own (k + 1)
owned_same numbers all left own k h other = record {
  owned = own_lists_same (λ i. get_or all i []) numbers k own h.owned other;
  long = h.long;
  kept = λ i up. h.kept i (omega arith);
}
