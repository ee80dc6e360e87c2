-- Laws of what turns make of a pass: nothing makes no entry, and the entries of one turn after another are those of both.
use Rattle.std.specs.Prelude.{ℕ, List, [], ◌∷◌, ◌++◌, refl}
use Rattle.std.proofs.Common.{sym, ap, ◌∙◌, subst, append_assoc}
use Rattle.std.proofs.lemmas.List.{append-nil}
use Rattle.jturn.specs.Pass.{Pass, Grew, Placed, StartsWith, entries}

module _ {E : Type 0} where
  pub starts_self : (xs : List E) → StartsWith xs xs
  starts_self xs = ([], sym (append-nil xs))

  pub starts_on : (xs ys zs : List E) → StartsWith xs ys → StartsWith ys zs → StartsWith xs zs
  starts_on xs ys zs h k = (k.0 ++ h.0, h.1 ∙ (ap (λ l. l ++ h.0) k.1 ∙ append_assoc zs k.0 h.0))

  -- what was placed after a history was placed after each beginning of it
  pub placed_earlier : (a b c es : List E) (ps : List ℕ) → StartsWith b a → Placed b es ps c → Placed a es ps c
  placed_earlier a b c [] ps h k = (k.0, starts_on c b a k.1 h)
  placed_earlier a b c (e ∷ es) ps h k = (k.0, k.1, k.2, starts_on k.0 b a k.3 h, k.4)

  -- what was placed one after the other was placed together
  pub placed_on : (a b c es fs : List E) (ps qs : List ℕ) → Placed a es ps b → Placed b fs qs c → Placed a (es ++ fs) (ps ++ qs) c
  placed_on a b c [] fs ps qs h k = subst (λ (rs : List ℕ). Placed a fs (rs ++ qs) c) (sym h.0) (placed_earlier a b c fs qs h.1 k)
  placed_on a b c (e ∷ es) fs ps qs h k = (h.0, h.1 ++ qs, ap (λ (rs : List ℕ). rs ++ qs) h.2, h.3, placed_on (h.0 ++ e ∷ []) b c es fs h.1 qs h.4 k)

  -- what was placed begins with what was there
  pub placed_starts : (a c es : List E) (ps : List ℕ) → Placed a es ps c → StartsWith c a
  placed_starts a c [] ps h = h.1
  placed_starts a c (e ∷ es) ps h = starts_on c (h.0 ++ e ∷ []) a (placed_starts (h.0 ++ e ∷ []) c es h.1 h.4) (starts_on (h.0 ++ e ∷ []) h.0 a (e ∷ [], refl) h.3)

  pub grew_none : (p : Pass E) → Grew p [] p
  grew_none p = record {
    turn = refl;
    seen = starts_self p.seen;
    own = ([], sym (append-nil p.own), (refl, starts_self p.seen));
    entries = sym (append-nil (entries p));
    parts = refl;
    is_marker = refl;
    constant = refl;
  }

  pub grew_on : (p q r : Pass E) (es fs : List E) → Grew p es q → Grew q fs r → Grew p (es ++ fs) r
  grew_on p q r es fs h k = record {
    turn = k.turn ∙ h.turn;
    seen = starts_on r.seen q.seen p.seen k.seen h.seen;
    own = (
      h.own.0 ++ k.own.0,
      k.own.1 ∙ (ap (λ l. l ++ k.own.0) h.own.1 ∙ append_assoc p.own h.own.0 k.own.0),
      placed_on p.seen q.seen r.seen es fs h.own.0 k.own.0 h.own.2 k.own.2,
    );
    entries = k.entries ∙ (ap (λ l. l ++ fs) h.entries ∙ append_assoc (entries p) es fs);
    parts = k.parts ∙ h.parts;
    is_marker = k.is_marker ∙ h.is_marker;
    constant = k.constant ∙ h.constant;
  }
