-- What a program asks is determined by the replies.
use Rattle.std.proofs.Common.{◌≡◌, refl, sym, ap, subst, ◌∙◌, List, [], ◌∷◌, ◌++◌, map, Some, None}
use Rattle.juses.specs.Program.{Program, Return, Ask, next, Begins, Ends}

module _ {Q R : Type 0} where
  abbrev replied : List (Q × R) → List R
  replied es = map (λ e. e.1) es

module _ {Q R A : Type 0} where
  pub same_uses : (p : Program Q R A) (es fs : List (Q × R)) → Begins p es → Begins p fs → replied es ≡ replied fs → es ≡ fs
  same_uses p [] [] b c r = refl
  same_uses p [] (f ∷ fs) b c r = cc
  same_uses p (e ∷ es) [] b c r = cc
  same_uses (Return a) (e ∷ es) (f ∷ fs) b c r = absurd b
  same_uses (Ask q k) (e ∷ es) (f ∷ fs) b c r =
      let first : e.1 ≡ f.1 = cc in
      let rest : replied es ≡ replied fs = cc in
      let later = same_uses (k e.1) es fs b.1 (subst (λ x. Begins (k x) fs) (sym first) c.1) rest in
      λ i. ((b.0 ∙ sym c.0) i, first i) ∷ later i

  pub begins_ended : (p : Program Q R A) (es : List (Q × R)) (a : A) → Ends p es a → Begins p es
  begins_ended p [] a h = tt
  begins_ended (Return b) (e ∷ es) a h = h
  begins_ended (Ask q k) (e ∷ es) a h = (h.0, begins_ended (k e.1) es a h.1)

  same_answer : (p : Program Q R A) (es : List (Q × R)) (a b : A) → Ends p es a → Ends p es b → a ≡ b
  same_answer (Return c) [] a b h g = h ∙ sym g
  same_answer (Return c) (e ∷ es) a b h g = absurd h
  same_answer (Ask q k) [] a b h g = absurd h
  same_answer (Ask q k) (e ∷ es) a b h g = same_answer (k e.1) es a b h.1 g.1

  pub same_end : (p : Program Q R A) (es fs : List (Q × R)) (a b : A) → Ends p es a → Ends p fs b → replied es ≡ replied fs → (es ≡ fs) × (a ≡ b)
  same_end p es fs a b h g r =
      let same = same_uses p es fs (begins_ended p es a h) (begins_ended p fs b g) r in
      (same, same_answer p es a b h (subst (λ l. Ends p l b) (sym same) g))

  pub next_there : (p : Program Q R A) (es fs : List (Q × R)) (e : Q × R) → Begins p (es ++ e ∷ fs) → next p (replied es) ≡ Some e.0
  next_there (Return a) [] fs e h = absurd h
  next_there (Return a) (d ∷ es) fs e h = absurd h
  next_there (Ask q k) [] fs e h = ap Some (sym h.0)
  next_there (Ask q k) (d ∷ es) fs e h = next_there (k d.1) es fs e h.1

  pub next_ended : (p : Program Q R A) (es : List (Q × R)) (a : A) → Ends p es a → next p (replied es) ≡ None
  next_ended (Return b) [] a h = refl
  next_ended (Return b) (e ∷ es) a h = absurd h
  next_ended (Ask q k) [] a h = absurd h
  next_ended (Ask q k) (e ∷ es) a h = next_ended (k e.1) es a h.1
