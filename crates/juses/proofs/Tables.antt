-- Tables with keys that are buffers, seen as tables with keys that are bytes.
use Rattle.std.proofs.Common.{◌≡◌, refl, sym, ap, subst, map, ◌∙◌, ℕ, Bool, true, false, cond, ◌&&◌, ◌||◌, List, [], ◌∷◌, Some, None, Result, Ok, Err, OnOk, OnErr, true≢false, Ordering, Less, Equal, Greater}
use Rattle.std.specs.BTreeMap.{is_at, insert_entry}
use Rattle.std.specs.Cmp.{IsTotalOrder}
use Rattle.std.specs.Cmp.Lexicographic.{slice_cmp, texts_ties, nat_list_eq_equiv, nat_list_cmp_total}
use Rattle.std.specs.List.{AllByRecursion}
use Rattle.std.specs.List.Sorted.{IsStrictlySortedBy}
use Rattle.std.specs.Map.{lookup, keys_of, set_value}
use Rattle.std.specs.Option.{is_some, unwrap_or}
use Rattle.std.specs.Ordering.{is_eq, match_ordering, nat_cmp}
use Rattle.std.proofs.lemmas.Map.{lookup-none}
use Rattle.std.proofs.lemmas.Map.Entries.{none_below_head}
use Rattle.std.proofs.lemmas.Map.Lookups.{exact_bytes}
use Rattle.std.proofs.lemmas.Map.Keys.{sorted_tail}
use Rattle.jterm.specs.declared.term.Term.{Term}
use Rattle.juses.specs.Keys.{same}
use Rattle.juses.specs.Standing.{NameTable, names_in}
use Rattle.juses.specs.Desk.{with_locale}
use Rattle.juses.specs.Keeping.{with_value}
use Rattle.juses.specs.Tables.{by_items}

-- ---- a table with another entry

twice : {X : Type 0} (a b : Bool) → a ≡ b → (x y w : X) → cond a x y ≡ cond b x (cond a w y)
twice true true e x y w = refl
twice true false e x y w = cc
twice false true e x y w = cc
twice false false e x y w = refl

swapped : {X : Type 0} (a b : Bool) → (a ≡ true → b ≡ true → ⊥) → (x y w : X) → cond a x (cond b y w) ≡ cond b y (cond a x w)
swapped true true apart x y w = absurd (apart refl refl)
swapped true false apart x y w = refl
swapped false true apart x y w = refl
swapped false false apart x y w = refl

module _ {X : Type 0} where
  -- a table with another entry, at a key
  pub lookup-insert_entry : (q k : List ℕ) (v : X) (es : List (List ℕ × X)) → lookup (same q) (insert_entry (slice_cmp nat_cmp) es k v) ≡ cond (same k q) (Some v) (lookup (same q) es)
  lookup-insert_entry q k v [] = ap (λ b. cond b (Some v) None) (nat_list_eq_equiv.symm q k)
  lookup-insert_entry q k v (e ∷ es) = by (slice_cmp nat_cmp k e.0) refl (lookup-insert_entry q k v es)
    where
      by : (r : Ordering) → slice_cmp nat_cmp k e.0 ≡ r → lookup (same q) (insert_entry (slice_cmp nat_cmp) es k v) ≡ cond (same k q) (Some v) (lookup (same q) es)
          → lookup (same q) (match_ordering r ((k, v) ∷ e ∷ es) ((e.0, v) ∷ es) (e ∷ insert_entry (slice_cmp nat_cmp) es k v)) ≡ cond (same k q) (Some v) (cond (same q e.0) (Some e.1) (lookup (same q) es))
      by Less p later = ap (λ b. cond b (Some v) (cond (same q e.0) (Some e.1) (lookup (same q) es))) (nat_list_eq_equiv.symm q k)
      by Equal p later = twice (same q e.0) (same k q) (ap (same q) (sym (exact_bytes k e.0 p)) ∙ nat_list_eq_equiv.symm q k) (Some v) (lookup (same q) es) (Some e.1)
      by Greater p later =
          ap (cond (same q e.0) (Some e.1)) later
          ∙ swapped (same q e.0) (same k q) (λ here there. true≢false (sym here ∙ (sym (nat_list_eq_equiv.congr k q e.0 there) ∙ (texts_ties k e.0 ∙ ap is_eq p)))) (Some e.1) (Some v) (lookup (same q) es)

  -- the values of a table mapped
  pub map-insert_entry : {Y : Type 0} (g : X → Y) (es : List (List ℕ × X)) (k : List ℕ) (v : X) → map (λ e. (e.0, g e.1)) (insert_entry (slice_cmp nat_cmp) es k v) ≡ insert_entry (slice_cmp nat_cmp) (map (λ e. (e.0, g e.1)) es) k (g v)
  map-insert_entry g [] k v = refl
  map-insert_entry g (e ∷ es) k v = by (slice_cmp nat_cmp k e.0) (map-insert_entry g es k v)
    where
      by : (r : Ordering) → map (λ d. (d.0, g d.1)) (insert_entry (slice_cmp nat_cmp) es k v) ≡ insert_entry (slice_cmp nat_cmp) (map (λ d. (d.0, g d.1)) es) k (g v)
          → map (λ d. (d.0, g d.1)) (match_ordering r ((k, v) ∷ e ∷ es) ((e.0, v) ∷ es) (e ∷ insert_entry (slice_cmp nat_cmp) es k v)) ≡ match_ordering r ((k, g v) ∷ map (λ d. (d.0, g d.1)) (e ∷ es)) ((e.0, g v) ∷ map (λ d. (d.0, g d.1)) es) ((e.0, g e.1) ∷ insert_entry (slice_cmp nat_cmp) (map (λ d. (d.0, g d.1)) es) k (g v))
      by Less later = refl
      by Equal later = refl
      by Greater later = ap (λ l. (e.0, g e.1) ∷ l) later

  pub keys-insert_entry : (es : List (List ℕ × X)) (k : List ℕ) (v : X) → keys_of (insert_entry (slice_cmp nat_cmp) es k v) ≡ with_locale k (keys_of es)
  keys-insert_entry [] k v = refl
  keys-insert_entry (e ∷ es) k v = by (slice_cmp nat_cmp k e.0) (keys-insert_entry es k v)
    where
      by : (r : Ordering) → keys_of (insert_entry (slice_cmp nat_cmp) es k v) ≡ with_locale k (keys_of es)
          → keys_of (match_ordering r ((k, v) ∷ e ∷ es) ((e.0, v) ∷ es) (e ∷ insert_entry (slice_cmp nat_cmp) es k v)) ≡ match_ordering r (k ∷ e.0 ∷ keys_of es) (e.0 ∷ keys_of es) (e.0 ∷ with_locale k (keys_of es))
      by Less later = refl
      by Equal later = refl
      by Greater later = ap (λ l. e.0 ∷ l) later

-- the order of keys by their bytes
abbrev pub by_those : {K : Type 0} → (K → List ℕ) → K → K → Ordering
by_those f x y = slice_cmp nat_cmp (f x) (f y)

module _ {K X : Type 0} (f : K → List ℕ) where
  pub lookup-by_items : (q : List ℕ) (es : List (K × X)) → lookup (same q) (by_items f es) ≡ lookup (λ k. is_eq (slice_cmp nat_cmp q (f k))) es
  lookup-by_items q [] = refl
  lookup-by_items q (e ∷ es) = λ i. cond (texts_ties q (f e.0) i) (Some e.1) (lookup-by_items q es i)

  pub insert_entry-by_items : (es : List (K × X)) (k : K) (v : X) → by_items f (insert_entry (by_those f) es k v) ≡ insert_entry (slice_cmp nat_cmp) (by_items f es) (f k) v
  insert_entry-by_items [] k v = refl
  insert_entry-by_items (e ∷ es) k v = by (slice_cmp nat_cmp (f k) (f e.0)) (insert_entry-by_items es k v)
    where
      by : (r : Ordering) → by_items f (insert_entry (by_those f) es k v) ≡ insert_entry (slice_cmp nat_cmp) (by_items f es) (f k) v
          → by_items f (match_ordering r ((k, v) ∷ e ∷ es) ((e.0, v) ∷ es) (e ∷ insert_entry (by_those f) es k v)) ≡ match_ordering r ((f k, v) ∷ by_items f (e ∷ es)) ((f e.0, v) ∷ by_items f es) ((f e.0, e.1) ∷ insert_entry (slice_cmp nat_cmp) (by_items f es) (f k) v)
      by Less later = refl
      by Equal later = refl
      by Greater later = ap (λ l. (f e.0, e.1) ∷ l) later

-- to give a key that is there another value is to insert it
module _ {K X : Type 0} {R : K → K → Ordering} (o : IsTotalOrder R) (k : K) (v : X) where
  pub set_value_inserts : (es : List (K × X)) → IsStrictlySortedBy R (keys_of es) → is_some (lookup (is_at (R k)) es) ≡ true → set_value (is_at (R k)) es v ≡ insert_entry R es k v
  set_value_inserts [] s h = cc
  set_value_inserts (e ∷ es) s h = by (R k e.0) refl h (set_value_inserts es (sorted_tail R e.0 (keys_of es) s))
    where
      by : (r : Ordering) → R k e.0 ≡ r → is_some (cond (is_eq r) (Some e.1) (lookup (is_at (R k)) es)) ≡ true
          → (is_some (lookup (is_at (R k)) es) ≡ true → set_value (is_at (R k)) es v ≡ insert_entry R es k v)
          → cond (is_eq r) ((e.0, v) ∷ es) (e ∷ set_value (is_at (R k)) es v) ≡ match_ordering r ((k, v) ∷ e ∷ es) ((e.0, v) ∷ es) (e ∷ insert_entry R es k v)
      by Less p h later = absurd (true≢false (sym h ∙ ap is_some (lookup-none (is_at (R k)) es (none_below_head o k e es s p).1)))
      by Equal p h later = refl
      by Greater p h later = ap (λ l. e ∷ l) (later h)

module _ {K : Type 0} (f : K → List ℕ) where
  all_by_items : (k : K) (ks : List K) → AllByRecursion (λ y. by_those f k y ≡ Less) ks → AllByRecursion (λ y. slice_cmp nat_cmp (f k) y ≡ Less) (map f ks)
  all_by_items k [] h = tt
  all_by_items k (x ∷ ks) h = (h.0, all_by_items k ks h.1)

  pub sorted_keys : (ks : List K) → IsStrictlySortedBy (by_those f) ks → IsStrictlySortedBy (slice_cmp nat_cmp) (map f ks)
  unfolding IsStrictlySortedBy
  sorted_keys [] s = tt
  sorted_keys (k ∷ ks) s = (all_by_items k ks s.0, sorted_keys ks s.1)

  pub keys_of-by_items : {X : Type 0} (es : List (K × X)) → keys_of (by_items f es) ≡ map f (keys_of es)
  keys_of-by_items [] = refl
  keys_of-by_items (e ∷ es) = ap (λ l. f e.0 ∷ l) (keys_of-by_items es)

  abbrev pub is_key : List ℕ → K → Bool
  is_key q k = is_eq (slice_cmp nat_cmp q (f k))

  pub set_value-by_items : {X : Type 0} (q : List ℕ) (es : List (K × X)) (v : X) → by_items f (set_value (is_key q) es v) ≡ set_value (is_at (slice_cmp nat_cmp q)) (by_items f es) v
  set_value-by_items q [] v = refl
  set_value-by_items q (e ∷ es) v = by (is_key q e.0) (set_value-by_items q es v)
    where
      by : (b : Bool) → by_items f (set_value (is_key q) es v) ≡ set_value (is_at (slice_cmp nat_cmp q)) (by_items f es) v
          → by_items f (cond b ((e.0, v) ∷ es) (e ∷ set_value (is_key q) es v)) ≡ cond b ((f e.0, v) ∷ by_items f es) ((f e.0, e.1) ∷ set_value (is_at (slice_cmp nat_cmp q)) (by_items f es) v)
      by true later = refl
      by false later = ap (λ l. (f e.0, e.1) ∷ l) later

  pub lookup_at : {X : Type 0} (q : List ℕ) (es : List (K × X)) → lookup (is_at (slice_cmp nat_cmp q)) (by_items f es) ≡ lookup (is_key q) es
  lookup_at q [] = refl
  lookup_at q (e ∷ es) = ap (cond (is_key q e.0) (Some e.1)) (lookup_at q es)

  pub set_value_same : {X : Type 0} (test : K → Bool) (es : List (K × X)) (v : X) → lookup test es ≡ Some v → set_value test es v ≡ es
  set_value_same test [] v h = refl
  set_value_same test (e ∷ es) v h = by (test e.0) h (set_value_same test es v)
    where
      by : (b : Bool) → cond b (Some e.1) (lookup test es) ≡ Some v → (lookup test es ≡ Some v → set_value test es v ≡ es) → cond b ((e.0, v) ∷ es) (e ∷ set_value test es v) ≡ e ∷ es
      by true h later = let held : e.1 ≡ v = cc in ap (λ w. (e.0, w) ∷ es) (sym held)
      by false h later = ap (λ l. e ∷ l) (later h)

  module _ (es fs : List (K × NameTable)) (q : List ℕ) (ns ms : NameTable) where
    -- a value written through to the names of a locale that is there
    pub written_through : (n : List ℕ) (v : Term) → lookup (is_key q) es ≡ Some ns → IsStrictlySortedBy (by_those f) (keys_of es) → fs ≡ set_value (is_key q) es ms → ms ≡ insert_entry (slice_cmp nat_cmp) ns n v → by_items f fs ≡ with_value (by_items f es) q n v
    written_through n v found sorted through inserted =
        let there : is_some (lookup (is_at (slice_cmp nat_cmp q)) (by_items f es)) ≡ true = ap is_some (lookup_at q es ∙ found) in
        let in_order : IsStrictlySortedBy (slice_cmp nat_cmp) (keys_of (by_items f es)) = subst (IsStrictlySortedBy (slice_cmp nat_cmp)) (sym (keys_of-by_items es)) (sorted_keys (keys_of es) sorted) in
        let names : names_in (by_items f es) q ≡ ns = ap (λ o. unwrap_or o []) (lookup-by_items f q es ∙ found) in
        ap (by_items f) through
        ∙ (set_value-by_items q es ms
        ∙ (set_value_inserts nat_list_cmp_total q ms (by_items f es) in_order there
        ∙ ap (insert_entry (slice_cmp nat_cmp) (by_items f es) q) (inserted ∙ ap (λ l. insert_entry (slice_cmp nat_cmp) l n v) (sym names))))

    pub kept_through : lookup (is_key q) es ≡ Some ns → fs ≡ set_value (is_key q) es ms → ms ≡ ns → by_items f fs ≡ by_items f es
    kept_through found through same_names = ap (by_items f) (through ∙ (ap (set_value (is_key q) es) same_names ∙ set_value_same (is_key q) es ns found))

    -- the names of a locale that wasn't there
    pub inserted_anew : (k : K) (n : List ℕ) (v : Term) → f k ≡ q → lookup (is_key q) es ≡ None → fs ≡ insert_entry (by_those f) es k ms → ms ≡ insert_entry (slice_cmp nat_cmp) ns n v → ns ≡ [] → by_items f fs ≡ with_value (by_items f es) q n v
    inserted_anew k n v key missing inserted anew none =
        let names : names_in (by_items f es) q ≡ ns = ap (λ o. unwrap_or o []) (lookup-by_items f q es ∙ missing) ∙ sym none in
        ap (by_items f) inserted
        ∙ (insert_entry-by_items f es k ms
        ∙ λ i. insert_entry (slice_cmp nat_cmp) (by_items f es) (key i) ((anew ∙ ap (λ l. insert_entry (slice_cmp nat_cmp) l n v) (sym names)) i))

pub on_ok : {T E : Type 0} (r : Result T E) {P Q : Type 0} → (P → Q) → OnOk r P → OnOk r Q
on_ok (Ok x) f p = f p
on_ok (Err e) f p = tt

pub on_err : {T E : Type 0} (r : Result T E) {P Q : Type 0} → (P → Q) → OnErr r P → OnErr r Q
on_err (Ok x) f p = tt
on_err (Err e) f p = f p
