-- What a desk keeps stays within its bounds.
use Rattle.std.proofs.Common.{◌≡◌, refl, sym, ap, subst, ◌∙◌, ◌<◌, ◌≤◌, ◌-◌, arith, ℕ, suc, Bool, true, false, cond, List, [], ◌∷◌, ◌++◌, length, length-append, slice_set}
use Rattle.juses.specs.Desk.{most_tasks, count_of}
use Rattle.juses.specs.Keys.{same}
use Rattle.juses.specs.Limits.{IsWithin}
use Rattle.juses.specs.Standing.{MadeTable}
use Rattle.juses.specs.Tables.{made_in, with_made}
use Rattle.juses.specs.declared.kept.Phase.{Phase}
use Rattle.juses.proofs.Makers.{count_added, count_replaced}

module _ (tasks new : MadeTable Phase) (order : List (List ℕ)) (threads waiting : List ℕ) (handed workers : ℕ) (w : IsWithin tasks order threads waiting handed workers) (p : List ℕ) (phase : Phase) where
  pub within_replaced : (k : ℕ) → new ≡ with_made tasks p (slice_set (made_in tasks p) k phase) → IsWithin new order threads waiting handed workers
  within_replaced k is = record {
    printed = w.printed;
    started = w.started;
    each = λ q. subst (λ t. length (made_in t q) ≤ length order) (sym is) (subst (λ n. n ≤ length order) (sym (count_replaced tasks p phase k q)) (w.each q));
    made = w.made;
  }

  pub within_added : (task : List ℕ) (order' : List (List ℕ)) → length order < most_tasks → new ≡ with_made tasks p (made_in tasks p ++ phase ∷ []) → order' ≡ order ++ task ∷ [] → IsWithin new order' threads waiting handed workers
  within_added task order' few is longer =
      let count : length order' ≡ suc (length order) = ap length longer ∙ (let l = length-append order (task ∷ []) in omega (arith, l)) in
      record {
        printed = w.printed;
        started = omega (arith, few, count);
        each = λ q. subst (λ t. length (made_in t q) ≤ length order') (sym is) (subst (λ n. n ≤ length order') (sym (count_added tasks p phase q)) (by q (same q p) count));
        made = w.made;
      }
    where
      by : (q : List ℕ) (b : Bool) → length order' ≡ suc (length order) → cond b (suc (length (made_in tasks q))) (length (made_in tasks q)) ≤ length order'
      by q true count = let e = w.each q in omega (arith, e, count)
      by q false count = let e = w.each q in omega (arith, e, count)

pub count_within : {X : Type 0} (test : X → Bool) (l : List X) → count_of test l ≤ length l
count_within test [] = omega arith
count_within test (x ∷ l) = by (test x) (count_within test l)
  where
    by : (b : Bool) → count_of test l ≤ length l → cond b (suc (count_of test l)) (count_of test l) ≤ suc (length l)
    by true h = omega (arith, h)
    by false h = omega (arith, h)
