-- Lists of makers: as they are kept with buffers for keys, and what one more or another in a place leaves.
use Rattle.std.proofs.Common.{◌≡◌, ◌≢◌, ◌⊎◌, inl, inr, refl, sym, ap, subst, ◌∙◌, ◌<◌, ◌≤◌, ◌-◌, arith, ℕ, zero, suc, Bool, true, false, true≢false, cond, List, [], ◌∷◌, ◌++◌, length, length-append, Option, Some, None, IsSome, take, slice_get, slice_set, slice_index_or, append-nil, nat_eq, ◌&&◌}
use Rattle.std.specs.BTreeMap.{insert_entry, is_at}
use Rattle.std.specs.Cmp.Lexicographic.{slice_cmp, nat_list_eq_equiv, bytes_decides, nat_list_cmp_total}
use Rattle.std.specs.List.Sorted.{IsStrictlySortedBy}
use Rattle.std.specs.Map.{lookup, keys_of, set_value}
use Rattle.std.specs.Option.{is_some, unwrap_or}
use Rattle.std.specs.Ordering.{nat_cmp}
use Rattle.std.proofs.lemmas.Bool.Decides.{nat_tests}
use Rattle.juses.specs.Keys.{same}
use Rattle.juses.specs.Tables.{by_items, made_in, with_made, numbered, front, last_number}
use Rattle.juses.proofs.Tables.{by_those, is_key, keys_of-by_items, sorted_keys, set_value-by_items, set_value_inserts, set_value_same, lookup_at, lookup-by_items, insert_entry-by_items, lookup-insert_entry}

-- ---- as they are kept

module _ {K X : Type 0} (f : K → List ℕ) (es fs : List (K × List X)) (q : List ℕ) (ns ms : List X) where
  pub found : lookup (is_key f q) es ≡ Some ns → made_in (by_items f es) q ≡ ns
  found h = ap (λ o. unwrap_or o []) (lookup-by_items f q es ∙ h)

  pub missing : lookup (is_key f q) es ≡ None → made_in (by_items f es) q ≡ []
  missing h = ap (λ o. unwrap_or o []) (lookup-by_items f q es ∙ h)

  -- a list that is there, changed in its place
  pub through : lookup (is_key f q) es ≡ Some ns → IsStrictlySortedBy (by_those f) (keys_of es) → fs ≡ set_value (is_key f q) es ms → by_items f fs ≡ with_made (by_items f es) q ms
  through held sorted changed =
      let there : is_some (lookup (is_at (slice_cmp nat_cmp q)) (by_items f es)) ≡ true = ap is_some (lookup_at f q es ∙ held) in
      let in_order : IsStrictlySortedBy (slice_cmp nat_cmp) (keys_of (by_items f es)) = subst (IsStrictlySortedBy (slice_cmp nat_cmp)) (sym (keys_of-by_items f es)) (sorted_keys f (keys_of es) sorted) in
      ap (by_items f) changed ∙ (set_value-by_items f q es ms ∙ set_value_inserts nat_list_cmp_total q ms (by_items f es) in_order there)

  pub unchanged : lookup (is_key f q) es ≡ Some ns → fs ≡ set_value (is_key f q) es ms → ms ≡ ns → by_items f fs ≡ by_items f es
  unchanged held changed as_before = ap (by_items f) (changed ∙ (ap (set_value (is_key f q) es) as_before ∙ set_value_same f (is_key f q) es ns held))

  -- a list of a maker that had none
  pub anew : (k : K) → f k ≡ q → fs ≡ insert_entry (by_those f) es k ms → by_items f fs ≡ with_made (by_items f es) q ms
  anew k key inserted = ap (by_items f) inserted ∙ (insert_entry-by_items f es k ms ∙ ap (λ p. with_made (by_items f es) p ms) key)

-- ---- by number

pub no_some : false ≡ true → ⊥
no_some h = true≢false (sym h)

before_suc : (n : ℕ) → suc n - 1 ≡ n
before_suc n = omega arith

module _ {X : Type 0} where
  within : (l : List X) (n : ℕ) → IsSome (slice_get l n) → n < length l
  within [] n h = absurd (no_some h)
  within (x ∷ l) zero h = omega arith
  within (x ∷ l) (suc n) h = let later = within l n h in omega (arith, later)

  pub numbered_within : (l : List X) (n : ℕ) → IsSome (numbered l n) → n - 1 < length l
  numbered_within l zero h = absurd (no_some h)
  numbered_within l (suc n) h = let here = within l n h in omega (arith, here)

  pub numbered_is : (l : List X) (n : ℕ) (x : X) → IsSome (numbered l n) → slice_get l (n - 1) ≡ Some x → numbered l n ≡ Some x
  numbered_is l zero x h e = absurd (no_some h)
  numbered_is l (suc n) x h e = ap (slice_get l) (sym (before_suc n)) ∙ e

  pub none_numbered : (n : ℕ) (l : List X) → l ≡ [] → IsSome (numbered l n) → ⊥
  none_numbered zero l e h = no_some h
  none_numbered (suc n) l e h = let P : List X → Type 0 = λ m. IsSome (slice_get m n) in no_some (subst P e h)

-- ---- another list at a maker

module _ {X : Type 0} (l : List (List ℕ × List X)) (p : List ℕ) (made : List X) where
  pub made_with : (q : List ℕ) → made_in (with_made l p made) q ≡ cond (same p q) made (made_in l q)
  made_with q = ap (λ o. unwrap_or o []) (lookup-insert_entry q p made l) ∙ by (same p q)
    where
      by : (b : Bool) → unwrap_or (cond b (Some made) (lookup (same q) l)) [] ≡ cond b made (made_in l q)
      by true = refl
      by false = refl

pub same_is : (p q : List ℕ) → same p q ≡ true → p ≡ q
same_is p q = (bytes_decides p q).0

pub same_self : (p : List ℕ) → same p p ≡ true
same_self p = nat_list_eq_equiv.refl p

pub same_symm : (p q : List ℕ) → same p q ≡ same q p
same_symm p q = nat_list_eq_equiv.symm p q

number_is : (n m : ℕ) → nat_eq n m ≡ true → n ≡ m
number_is n m h = grind (arith, nat_tests, h)

number_differs : (n m : ℕ) → nat_eq n m ≡ false → n ≢ m
number_differs n m h e = grind (arith, nat_tests, h, e)

number_apart : (n m : ℕ) → n ≢ m → nat_eq n m ≡ false
number_apart n m d = by (nat_eq n m) refl
  where
    by : (b : Bool) → nat_eq n m ≡ b → nat_eq n m ≡ false
    by true e = absurd (d (number_is n m e))
    by false e = e

pub no_number : (n : ℕ) → nat_eq (suc n) 0 ≡ false
no_number n = number_apart (suc n) 0 (λ e. omega (arith, e))

no_first : (n : ℕ) → nat_eq 0 (suc n) ≡ false
no_first n = number_apart 0 (suc n) (λ e. omega (arith, e))

pub number_self : (n : ℕ) → nat_eq n n ≡ true
number_self n = grind (arith, nat_tests)

number_suc : (n m : ℕ) → nat_eq n m ≡ nat_eq (suc n) (suc m)
number_suc n m = by (nat_eq n m) refl
  where
    by : (b : Bool) → nat_eq n m ≡ b → b ≡ nat_eq (suc n) (suc m)
    by true e = sym (ap (λ k. nat_eq (suc n) (suc k)) (sym (number_is n m e)) ∙ number_self (suc n))
    by false e = sym (number_apart (suc n) (suc m) (λ is. number_differs n m e (omega (arith, is))))

module _ {X : Type 0} where
  at_end : (l : List X) (x : X) → slice_get (l ++ x ∷ []) (length l) ≡ Some x
  at_end [] x = refl
  at_end (y ∷ l) x = at_end l x

  not_at_end : (l : List X) (x : X) (n : ℕ) → n ≢ length l → slice_get (l ++ x ∷ []) n ≡ slice_get l n
  not_at_end [] x zero d = absurd (d refl)
  not_at_end [] x (suc n) d = refl
  not_at_end (y ∷ l) x zero d = refl
  not_at_end (y ∷ l) x (suc n) d = not_at_end l x n (λ e. d (ap suc e))

  numbered_added : (l : List X) (x : X) (n : ℕ) → numbered (l ++ x ∷ []) n ≡ cond (nat_eq (suc (length l)) n) (Some x) (numbered l n)
  numbered_added l x zero = ap (λ b. cond b (Some x) None) (sym (no_number (length l)))
  numbered_added l x (suc n) = by (nat_eq (suc (length l)) (suc n)) refl
    where
      by : (b : Bool) → nat_eq (suc (length l)) (suc n) ≡ b → slice_get (l ++ x ∷ []) n ≡ cond b (Some x) (slice_get l n)
      by true e = let is : n ≡ length l = (let whole = number_is (suc (length l)) (suc n) e in omega (arith, whole)) in ap (slice_get (l ++ x ∷ [])) is ∙ at_end l x
      by false e = not_at_end l x n (λ is. number_differs (suc (length l)) (suc n) e (ap suc (sym is)))

  set_at : (l : List X) (n : ℕ) (x : X) (m : ℕ) → IsSome (slice_get l n) → slice_get (slice_set l n x) m ≡ cond (nat_eq n m) (Some x) (slice_get l m)
  set_at [] n x m h = absurd (no_some h)
  set_at (y ∷ l) zero x zero h = refl
  set_at (y ∷ l) zero x (suc m) h = ap (λ b. cond b (Some x) (slice_get l m)) (sym (no_first m))
  set_at (y ∷ l) (suc n) x zero h = ap (λ b. cond b (Some x) (Some y)) (sym (no_number n))
  set_at (y ∷ l) (suc n) x (suc m) h = set_at l n x m h ∙ ap (λ b. cond b (Some x) (slice_get l m)) (number_suc n m)

  numbered_set : (l : List X) (n : ℕ) (x : X) (m : ℕ) → IsSome (numbered l n) → numbered (slice_set l (n - 1) x) m ≡ cond (nat_eq n m) (Some x) (numbered l m)
  numbered_set l zero x m h = absurd (no_some h)
  numbered_set l (suc n) x zero h = ap (λ b. cond b (Some x) None) (sym (no_number n))
  numbered_set l (suc n) x (suc m) h = ap (λ k. slice_get (slice_set l k x) m) (before_suc n) ∙ (set_at l n x m h ∙ ap (λ b. cond b (Some x) (slice_get l m)) (number_suc n m))

  length_set : (l : List X) (n : ℕ) (x : X) → length (slice_set l n x) ≡ length l
  length_set [] n x = refl
  length_set (y ∷ l) zero x = refl
  length_set (y ∷ l) (suc n) x = ap suc (length_set l n x)

-- where the maker's list is another, what has a number there
module _ {X : Type 0} (l : List (List ℕ × List X)) (p : List ℕ) (x : X) where
  both_of : {Y : Type 0} (a b : Bool) (u v w : Y) → (a ≡ true → w ≡ v) → cond a (cond b u v) w ≡ cond (a && b) u w
  both_of true true u v w e = refl
  both_of true false u v w e = sym (e refl)
  both_of false b u v w e = refl

  at_number : (made : List X) (n k : ℕ) → ((m : ℕ) → numbered made m ≡ cond (nat_eq k m) (Some x) (numbered (made_in l p) m)) → (q : List ℕ)
      → numbered (made_in (with_made l p made) q) n ≡ cond (same p q && nat_eq k n) (Some x) (numbered (made_in l q) n)
  at_number made n k h q =
      ap (λ m. numbered m n) (made_with l p made q)
      ∙ (by (same p q)
      ∙ (ap (λ y. cond (same p q) y (numbered (made_in l q) n)) (h n)
      ∙ both_of (same p q) (nat_eq k n) (Some x) (numbered (made_in l p) n) (numbered (made_in l q) n) (λ e. ap (λ r. numbered (made_in l r) n) (sym (same_is p q e)))))
    where
      by : (b : Bool) → numbered (cond b made (made_in l q)) n ≡ cond b (numbered made n) (numbered (made_in l q) n)
      by true = refl
      by false = refl

  pub at_added : (q : List ℕ) (n : ℕ) → numbered (made_in (with_made l p (made_in l p ++ x ∷ [])) q) n ≡ cond (same p q && nat_eq (suc (length (made_in l p))) n) (Some x) (numbered (made_in l q) n)
  at_added q n = at_number (made_in l p ++ x ∷ []) n (suc (length (made_in l p))) (λ m. numbered_added (made_in l p) x m) q

  pub at_replaced : (k : ℕ) → IsSome (numbered (made_in l p) k) → (q : List ℕ) (n : ℕ) → numbered (made_in (with_made l p (slice_set (made_in l p) (k - 1) x)) q) n ≡ cond (same p q && nat_eq k n) (Some x) (numbered (made_in l q) n)
  at_replaced k h q n = at_number (slice_set (made_in l p) (k - 1) x) n k (λ m. numbered_set (made_in l p) k x m h) q

  pub count_added : (q : List ℕ) → length (made_in (with_made l p (made_in l p ++ x ∷ [])) q) ≡ cond (same q p) (suc (length (made_in l q))) (length (made_in l q))
  count_added q = ap length (made_with l p (made_in l p ++ x ∷ []) q) ∙ (by (same p q) refl ∙ ap (λ b. cond b (suc (length (made_in l q))) (length (made_in l q))) (same_symm p q))
    where
      longer : (m : List X) → length (m ++ x ∷ []) ≡ suc (length m)
      longer m = omega (arith, length-append m (x ∷ []))

      by : (b : Bool) → same p q ≡ b → length (cond b (made_in l p ++ x ∷ []) (made_in l q)) ≡ cond b (suc (length (made_in l q))) (length (made_in l q))
      by true e = longer (made_in l p) ∙ ap (λ r. suc (length (made_in l r))) (same_is p q e)
      by false e = refl

  pub count_replaced : (k : ℕ) (q : List ℕ) → length (made_in (with_made l p (slice_set (made_in l p) k x)) q) ≡ length (made_in l q)
  count_replaced k q = ap length (made_with l p (slice_set (made_in l p) k x) q) ∙ by (same p q) refl
    where
      by : (b : Bool) → same p q ≡ b → length (cond b (slice_set (made_in l p) k x) (made_in l q)) ≡ length (made_in l q)
      by true e = length_set (made_in l p) k x ∙ ap (λ r. length (made_in l r)) (same_is p q e)
      by false e = refl

-- ---- paths

pub front-snoc : (l : List ℕ) (n : ℕ) → front (l ++ n ∷ []) ≡ l
front-snoc [] n = refl
front-snoc (m ∷ []) n = refl
front-snoc (m ∷ k ∷ l) n = ap (λ r. m ∷ r) (front-snoc (k ∷ l) n)

pub last-snoc : (l : List ℕ) (n : ℕ) → last_number (l ++ n ∷ []) ≡ n
last-snoc [] n = refl
last-snoc (m ∷ []) n = refl
last-snoc (m ∷ k ∷ l) n = last-snoc (k ∷ l) n

pub whole : (l : List ℕ) → l ≢ [] → front l ++ last_number l ∷ [] ≡ l
whole [] d = absurd (d refl)
whole (n ∷ []) d = refl
whole (n ∷ m ∷ l) d = ap (λ r. n ∷ r) (whole (m ∷ l) (λ e. cc))

-- a path is its maker's with its number behind, and is another's only where both are the same
pub same_path : (p q : List ℕ) → p ≢ [] → q ≢ [] → (same (front p) (front q) && nat_eq (last_number p) (last_number q)) ≡ same p q
same_path p q d e = by (same p q) refl
  where
    parts : (a b : Bool) → same (front p) (front q) ≡ a → nat_eq (last_number p) (last_number q) ≡ b → same p q ≡ false → (a && b) ≡ false
    parts true true f l n =
        let is : p ≡ q = sym (whole p d) ∙ ((λ i. same_is (front p) (front q) f i ++ number_is (last_number p) (last_number q) l i ∷ []) ∙ whole q e) in
        absurd (true≢false (sym (same_self q) ∙ (ap (λ r. same r q) (sym is) ∙ n)))
    parts true false f l n = refl
    parts false b f l n = refl

    by : (c : Bool) → same p q ≡ c → (same (front p) (front q) && nat_eq (last_number p) (last_number q)) ≡ c
    by true s =
        let is = same_is p q s in
        ap (λ r. same (front r) (front q) && nat_eq (last_number r) (last_number q)) is ∙ (λ i. same_self (front q) i && number_self (last_number q) i)
    by false s = parts (same (front p) (front q)) (nat_eq (last_number p) (last_number q)) refl refl s

pub front_is : (l : List ℕ) → take (length l - 1) l ≡ front l
front_is [] = refl
front_is (n ∷ []) = refl
front_is (n ∷ m ∷ l) = let count : length (n ∷ m ∷ l) - 1 ≡ suc (length (m ∷ l) - 1) = omega arith in ap (λ k. take k (n ∷ m ∷ l)) count ∙ ap (λ r. n ∷ r) (front_is (m ∷ l))

pub last_is : (l : List ℕ) → slice_index_or l (length l - 1) 0 ≡ last_number l
last_is [] = refl
last_is (n ∷ []) = refl
last_is (n ∷ m ∷ l) = let count : length (n ∷ m ∷ l) - 1 ≡ suc (length (m ∷ l) - 1) = omega arith in ap (λ k. slice_index_or (n ∷ m ∷ l) k 0) count ∙ last_is (m ∷ l)
