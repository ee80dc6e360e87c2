-- How what calls did by programs is put together.
use Rattle.std.proofs.Common.{◌≡◌, refl, sym, ap, subst, ℕ, List, [], ◌∷◌, ◌++◌, append-nil, Result, Ok, Err}
use Rattle.juses.specs.Entries.{entry}
use Rattle.juses.specs.Events.{Events, NoMore, Did, told, HaltsAt, Does, passing, stuck_by, Runs, RunsClosing}
use Rattle.juses.specs.Program.{Program, Return, Ask, ◌>>=◌}
use Rattle.juses.specs.Told.{Told, Replied, Passed, nothing, replied, refusing, closed_with, ◌followed_by◌}
use Rattle.juses.specs.Wishes.{Wish, use_of}
use Rattle.juses.specs.declared.uses.Cause.{Cause}
use Rattle.juses.specs.declared.uses.Halt.{Halt}
use Rattle.juses.specs.declared.uses.Halt.TheVariants.{Wait, NoMemory, Closed}
use Rattle.juses.specs.declared.uses.Reply.{Reply}
use Rattle.juses.specs.declared.uses.Use.{Use}

-- one after the other
abbrev pub both : Events → Events → Events
both NoMore more = more
both (Did e rest) more = Did e (both rest more)

pub told_both : (es fs : Events) → told (both es fs) ≡ told es ++ told fs
told_both NoMore fs = refl
told_both (Did e rest) fs = ap (λ l. Replied e ∷ l) (told_both rest fs)

-- what was done up to an answer doesn't speak of refusals
pub whichever : {A : Type 0} (refuses refuses' : List ℕ → Use → Halt → Type 0) (who : List ℕ) (p : Program Wish Reply A) (es : Events) (a : A)
    → Does refuses who p es (Ok a) → Does refuses' who p es (Ok a)
whichever refuses refuses' who p NoMore a h = h
whichever refuses refuses' who (Return b) (Did e rest) a h = h
whichever refuses refuses' who (Ask q k) (Did e rest) a h = (h.0, h.1, whichever refuses refuses' who (k e.reply) rest a h.2)

-- nor what was done up to want of memory
pub whichever_short : {A : Type 0} (refuses refuses' : List ℕ → Use → Halt → Type 0) (who : List ℕ) (p : Program Wish Reply A) (es : Events)
    → Does refuses who p es (Err NoMemory) → Does refuses' who p es (Err NoMemory)
whichever_short refuses refuses' who p NoMore h = tt
whichever_short refuses refuses' who (Return b) (Did e rest) h = h
whichever_short refuses refuses' who (Ask q k) (Did e rest) h = (h.0, h.1, whichever_short refuses refuses' who (k e.reply) rest h.2)

module _ (refuses : List ℕ → Use → Halt → Type 0) where
  pub does_both : {A B : Type 0} (f : A → Program Wish Reply B) (who : List ℕ) (p : Program Wish Reply A) (es fs : Events) (a : A) (r : Result B Halt)
      → Does refuses who p es (Ok a) → Does refuses who (f a) fs r → Does refuses who (p >>= f) (both es fs) r
  does_both f who p NoMore fs a r h k = subst (λ x. Does refuses who (x >>= f) fs r) (sym h) k
  does_both f who (Return b) (Did e rest) fs a r h k = absurd h
  does_both f who (Ask q c) (Did e rest) fs a r h k = (h.0, h.1, does_both f who (c e.reply) rest fs a r h.2 k)

  halts_at : {A B : Type 0} (f : A → Program Wish Reply B) (halt : Halt) (who : List ℕ) (p : Program Wish Reply A) → HaltsAt refuses halt who p → HaltsAt refuses halt who (p >>= f)
  halts_at f Wait who (Return a) h = absurd h
  halts_at f Wait who (Ask q k) h = h
  halts_at f NoMemory who p h = tt
  halts_at f (Closed cause) who (Return a) h = absurd h
  halts_at f (Closed cause) who (Ask q k) h = h

  pub does_halt : {A B : Type 0} (f : A → Program Wish Reply B) (who : List ℕ) (p : Program Wish Reply A) (es : Events) (halt : Halt)
      → Does refuses who p es (Err halt) → Does refuses who (p >>= f) es (Err halt)
  does_halt f who p NoMore halt h = halts_at f halt who p h
  does_halt f who (Return b) (Did e rest) halt h = absurd h
  does_halt f who (Ask q c) (Did e rest) halt h = (h.0, h.1, does_halt f who (c e.reply) rest halt h.2)

  refused_at : {A : Type 0} (halt : Halt) (who : List ℕ) (q : Wish) (k : Reply → Program Wish Reply A) → refuses who (use_of q) halt → HaltsAt refuses halt who (Ask q k)
  refused_at Wait who q k h = h
  refused_at NoMemory who q k h = tt
  refused_at (Closed cause) who q k h = h

-- The relations of some `Uses`, and the laws that are needed here.
pub record Relations (S : Type 0) : Type 1 where
  pub leads : S → Passed → S → Type 0
  pub refuses : S → List ℕ → Use → Halt → Type 0
  pub stays : (s : S) → leads s nothing s
  pub joins : (s t u : S) (p q : Passed) → leads s p t → leads t q u → leads s (p followed_by q) u

module _ {S : Type 0} (uses : Relations S) (who : List ℕ) where
  abbrev Ran : {A : Type 0} → S → S → Program Wish Reply A → Result A Halt → Type 0
  Ran s t p r = Runs uses.leads uses.refuses who s t p r

  -- after an answer the program goes on
  pub goes_on : {A B : Type 0} (s t u : S) (p : Program Wish Reply A) (f : A → Program Wish Reply B) (a : A) (r : Result B Halt)
      → Ran s t p (Ok a) → Ran t u (f a) r → Ran s u (p >>= f) r
  goes_on s t u p f a r (es, l, h) (fs, m, k) =
      let P : List Told → Type 0 = λ xs. uses.leads s (record { told = xs; handed = []; closed = stuck_by r }) u in (
        both es fs,
        subst P (sym (told_both es fs)) (uses.joins s t u (passing es []) (passing fs (stuck_by r)) l m),
        does_both (uses.refuses u) f who p es fs a r (whichever (uses.refuses t) (uses.refuses u) who p es a h) k,
      )

  -- after a halt it doesn't
  pub halts : {A B : Type 0} (s t : S) (p : Program Wish Reply A) (f : A → Program Wish Reply B) (halt : Halt)
      → Ran s t p (Err halt) → Ran s t (p >>= f) (Err halt)
  halts s t p f halt (es, l, h) = (es, l, does_halt (uses.refuses t) f who p es halt h)

  -- an answer without a use
  pub returns : {A : Type 0} (s : S) (a : A) → Ran s s (Return a) (Ok a)
  returns s a = (NoMore, uses.stays s, refl)

  -- there was no memory before the first use
  pub is_short : {A : Type 0} (s : S) (p : Program Wish Reply A) → Ran s s p (Err NoMemory)
  is_short s p = (NoMore, uses.stays s, tt)

  -- one use
  pub asked_once : (s t : S) (thread : ℕ) (q : Wish) (r : Reply) → uses.leads s (replied (entry who thread (use_of q) r)) t → Ran s t (Ask q Return) (Ok r)
  asked_once s t thread q r l = (Did (entry who thread (use_of q) r) NoMore, l, (refl, refl, refl))

  pub not_asked : (s t : S) (q : Wish) (halt : Halt) → uses.leads s (refusing halt) t → uses.refuses t who (use_of q) halt → Ran s t (Ask q Return) (Err halt)
  not_asked s t q halt l said = (NoMore, l, refused_at (uses.refuses t) halt who q Return said)

  -- a closing behind what was done up to want of memory
  pub closes : {A : Type 0} (s t u : S) (p : Program Wish Reply A) (cause : Cause) → Ran s t p (Err NoMemory) → uses.leads t (closed_with cause) u
      → RunsClosing (cause ∷ []) uses.leads uses.refuses who s u p (Err NoMemory)
  closes s t u p cause (es, l, h) m =
      let P : List Told → Type 0 = λ xs. uses.leads s (record { told = xs; handed = []; closed = cause ∷ [] }) u in
      (es, subst P (append-nil (told es)) (uses.joins s t u (passing es []) (closed_with cause) l m), whichever_short (uses.refuses t) (uses.refuses u) who p es h)
