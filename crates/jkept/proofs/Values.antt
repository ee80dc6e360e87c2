-- The values of tests, as a map and as the code's entries.
use Rattle.std.specs.Prelude.{◌≡◌, ℕ, cond, Option, Some, None, List, [], ◌∷◌, unwrap_or}
use Rattle.std.proofs.Common.{refl, sym, ap, ◌∙◌}
use Rattle.std.specs.BTreeMap.{is_at}
use Rattle.std.specs.Cmp.{nat_cmp_total, eq_by_cmp_equiv}
use Rattle.std.specs.FinMap as map
use Rattle.std.specs.FinMap.{FinMap, from_entries, find, get-from_entries, get-insert, get-remove, same_map, nat_cmp-IsAntisymmetric}
use Rattle.std.specs.Map.{lookup}
use Rattle.std.specs.Ordering.{nat_cmp, eq_by_cmp}
use Rattle.jdata.specs.declared.noun.Noun.{Noun}
use Rattle.jkept.specs.Keeping.{Keeping, kept_after, started, value_of, empty_list}

abbrev pub Entries : Type 0
Entries = List (ℕ × Noun)

-- the entries as a map
abbrev pub as_map : Entries → FinMap nat_cmp Noun
as_map es = from_entries es

abbrev pub looked_up : ℕ → Entries → Option Noun
looked_up q es = lookup (is_at (nat_cmp q)) es

found : (q : ℕ) (es : Entries) → find nat_cmp q es ≡ looked_up q es
found q [] = refl
found q (e ∷ es) = ap (cond (eq_by_cmp nat_cmp q e.0) (Some e.1)) (found q es)

pub got : (q : ℕ) (es : Entries) → map.get (as_map es) q ≡ looked_up q es
got q es = get-from_entries nat_cmp_total es q ∙ found q es

turned : (k q : ℕ) → eq_by_cmp nat_cmp q k ≡ is_at (nat_cmp k) q
turned k q = (eq_by_cmp_equiv nat_cmp_total).symm q k

pub inserted : (es fs : Entries) (k : ℕ) (v : Noun) → ((q : ℕ) → looked_up q fs ≡ cond (is_at (nat_cmp k) q) (Some v) (looked_up q es)) → as_map fs ≡ map.insert (as_map es) k v
inserted es fs k v h = same_map nat_cmp_total nat_cmp-IsAntisymmetric _ _
    (λ q. got q fs ∙ h q ∙ sym (get-insert nat_cmp_total (as_map es) k v q ∙ (λ i. cond (turned k q i) (Some v) (got q es i))))

pub removed : (es fs : Entries) (k : ℕ) → ((q : ℕ) → looked_up q fs ≡ cond (is_at (nat_cmp k) q) None (looked_up q es)) → as_map fs ≡ map.remove (as_map es) k
removed es fs k h = same_map nat_cmp_total nat_cmp-IsAntisymmetric _ _
    (λ q. got q fs ∙ h q ∙ sym (get-remove nat_cmp_total (as_map es) k q ∙ (λ i. cond (turned k q i) None (got q es i))))

-- ---- what is kept

abbrev pub with_values : Noun → FinMap nat_cmp Noun → Keeping
with_values r m = record { result = r; values = m }

abbrev pub seen : Noun → Entries → Keeping
seen r es = with_values r (as_map es)

module _ (r : Noun) (es : Entries) (now : Keeping) (is : seen r es ≡ now) (k : ℕ) where
  pub keeps : (fs : Entries) (v : Noun) → ((q : ℕ) → looked_up q fs ≡ cond (is_at (nat_cmp k) q) (Some v) (looked_up q es)) → seen r fs ≡ kept_after (Some k) v now
  keeps fs v h = ap (with_values r) (inserted es fs k v h) ∙ ap (kept_after (Some k) v) is

  pub starts : (fs : Entries) → ((q : ℕ) → looked_up q fs ≡ cond (is_at (nat_cmp k) q) None (looked_up q es)) → seen r fs ≡ started k now
  starts fs h = ap (with_values r) (removed es fs k h) ∙ ap (started k) is

  pub reads : (o : Option Noun) → o ≡ looked_up k es → unwrap_or o empty_list ≡ value_of k now
  reads o h = ap (λ p. unwrap_or p empty_list) (h ∙ sym (got k es)) ∙ ap (value_of k) is
