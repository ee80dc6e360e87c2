-- Programs that are run one after another.
use Rattle.std.proofs.Common.{◌≡◌, ℕ, List, [], ◌∷◌, ◌++◌, Result, Ok, Err, ap, sym, subst}
use Rattle.juses.specs.Events.{Events, NoMore, Did, Does}
use Rattle.juses.specs.Program.{Program, Return, Ask, ◌>>=◌}
use Rattle.juses.specs.Wishes.{Wish}
use Rattle.juses.specs.declared.uses.Halt.{Halt}
use Rattle.juses.specs.declared.uses.Halt.TheVariants.{NoMemory}
use Rattle.juses.specs.declared.uses.Reply.{Reply}
use Rattle.juses.specs.declared.uses.Use.{Use}
use Rattle.juses.proofs.Doing.{both}
use Rattle.jeval.specs.Sentence.{sentence}
use Rattle.jeval.specs.declared.sentence.Shown.{Shown}
use Rattle.jeval.specs.declared.state.State.{State}
use Rattle.jsession.specs.Script.{script}

-- whatever came of it, the program began so
pub does_begun : {A : Type 0} (refuses refuses' : List ℕ → Use → Halt → Type 0) (who : List ℕ) (p : Program Wish Reply A) (es : Events) (r : Result A Halt)
    → Does refuses who p es r → Does refuses' who p es (Err NoMemory)
does_begun refuses refuses' who p NoMore r h = tt
does_begun refuses refuses' who (Return b) (Did e rest) r h = h
does_begun refuses refuses' who (Ask q k) (Did e rest) r h = (h.0, h.1, does_begun refuses refuses' who (k e.reply) rest r h.2)

module _ (refuses : List ℕ → Use → Halt → Type 0) (who : List ℕ) where
  pub does_map : {A B : Type 0} (f : A → B) (p : Program Wish Reply A) (es : Events) (a : A) → Does refuses who p es (Ok a) → Does refuses who (p >>= (λ x. Return (f x))) es (Ok (f a))
  does_map f p NoMore a h = ap (λ x. x >>= (λ y. Return (f y))) h
  does_map f (Return b) (Did e rest) a h = absurd h
  does_map f (Ask q k) (Did e rest) a h = (h.0, h.1, does_map f (k e.reply) rest a h.2)

  -- a program that goes on otherwise once it has come so far
  does_through : {A B C : Type 0} (f : A → Program Wish Reply B) (g : A → Program Wish Reply C) (p : Program Wish Reply A) (es fs : Events) (b : B) (r : Result C Halt) → Does refuses who (p >>= f) es (Ok b)
      → ((a : A) (ds : Events) → Does refuses who (f a) ds (Ok b) → Does refuses who (g a) (both ds fs) r) → Does refuses who (p >>= g) (both es fs) r
  does_through f g (Return x) es fs b r h k = k x es h
  does_through f g (Ask q c) NoMore fs b r h k = cc
  does_through f g (Ask q c) (Did e rest) fs b r h k = (h.0, h.1, does_through f g (c e.reply) rest fs b r h.2 k)

  does_further : {A B C : Type 0} (f : A → Program Wish Reply B) (g : A → Program Wish Reply C) (p : Program Wish Reply A) (es : Events)
      → ((a : A) (ds : Events) → Does refuses who (f a) ds (Err NoMemory) → Does refuses who (g a) ds (Err NoMemory)) → Does refuses who (p >>= f) es (Err NoMemory) → Does refuses who (p >>= g) es (Err NoMemory)
  does_further f g (Return x) es k h = k x es h
  does_further f g (Ask q c) NoMore k h = tt
  does_further f g (Ask q c) (Did e rest) k h = (h.0, h.1, does_further f g (c e.reply) rest k h.2)

  -- the first sentences came to their end, and this came of the next ones
  pub script_on : (turns : ℕ) (first now : List (List ℕ)) (s t : State) (es fs : Events) (r : Result State Halt) → Does refuses who (script turns first s) es (Ok t) → Does refuses who (script turns now t) fs r
      → Does refuses who (script turns (first ++ now) s) (both es fs) r
  script_on turns [] now s t NoMore fs r h m = let is : s ≡ t = cc in subst (λ x. Does refuses who (script turns now x) fs r) (sym is) m
  script_on turns [] now s t (Did e rest) fs r h m = absurd h
  script_on turns (line ∷ first) now s t es fs r h m =
      does_through (λ (x : Shown × State). script turns first x.1) (λ (x : Shown × State). script turns (first ++ now) x.1) (sentence turns (line ∷ []) s) es fs t r h (λ x ds k. script_on turns first now x.1 t ds fs r k m)

  -- what begins some sentences begins these and more
  pub more_begun : (turns : ℕ) (now later : List (List ℕ)) (s : State) (es : Events) → Does refuses who (script turns now s) es (Err NoMemory) → Does refuses who (script turns (now ++ later) s) es (Err NoMemory)
  more_begun turns [] later s NoMore h = tt
  more_begun turns [] later s (Did e rest) h = absurd h
  more_begun turns (line ∷ now) later s es h =
      does_further (λ (x : Shown × State). script turns now x.1) (λ (x : Shown × State). script turns (now ++ later) x.1) (sentence turns (line ∷ []) s) es (λ x ds k. more_begun turns now later x.1 ds k) h
