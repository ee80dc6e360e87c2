-- What one turn makes of a pass.
use Rattle.std.proofs.Common.{◌≡◌, ℕ, List, [], ◌∷◌, ◌++◌, length, refl, sym, ap, ◌∙◌, subst}
use Rattle.std.proofs.lemmas.List.{append-nil}
use Rattle.jturn.specs.Pass.{Pass, Enters, Grew, StartsWith, entries, with_entry}
use Rattle.jturn.specs.Laws.{starts_on}

module _ {E : Type 0} where
  -- it entered, and made an entry
  pub grew_added : (p q r : Pass E) (e : E) (m : ℕ × ℕ) → Enters p q → r ≡ record (with_entry q e) { mark = m } → entries r ≡ entries q ++ e ∷ [] → Grew p (e ∷ []) r
  grew_added p q r e m h is made = record {
    turn = ap (λ z. z.turn) is ∙ h.turn;
    seen = starts_on r.seen q.seen p.seen (e ∷ [], ap (λ z. z.seen) is) h.seen;
    own = (length q.seen ∷ [], ap (λ z. z.own) is ∙ ap (λ l. l ++ length q.seen ∷ []) h.own, (q.seen, [], refl, h.seen, (refl, ([], ap (λ z. z.seen) is ∙ sym (append-nil (q.seen ++ e ∷ []))))));
    entries = made ∙ ap (λ l. l ++ e ∷ []) h.entries;
    parts = ap (λ z. z.parts) is ∙ h.parts;
    is_marker = ap (λ z. z.is_marker) is ∙ h.is_marker;
    constant = ap (λ z. z.constant) is ∙ h.constant;
  }

  -- it entered, and went back
  pub grew_kept : (p q r : Pass E) (m : ℕ × ℕ) → Enters p q → r ≡ record q { mark = m } → Grew p [] r
  grew_kept p q r m h is = record {
    turn = ap (λ z. z.turn) is ∙ h.turn;
    seen = subst (λ (l : List E). StartsWith l p.seen) (sym (ap (λ z. z.seen) is)) h.seen;
    own = ([], ap (λ z. z.own) is ∙ (h.own ∙ sym (append-nil p.own)), (refl, subst (λ (l : List E). StartsWith l p.seen) (sym (ap (λ z. z.seen) is)) h.seen));
    entries = ap entries is ∙ (h.entries ∙ sym (append-nil (entries p)));
    parts = ap (λ z. z.parts) is ∙ h.parts;
    is_marker = ap (λ z. z.is_marker) is ∙ h.is_marker;
    constant = ap (λ z. z.constant) is ∙ h.constant;
  }
