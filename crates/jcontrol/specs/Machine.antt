-- What the words of a prepared body do, one after another: where each leads, what it asks, and what that is in a body
-- of J Dictionary, "Control Structures".
use Rattle.std.specs.Prelude.{ℕ, ◌≡◌, ◌≢◌, ◌<◌, ◌+◌, ◌++◌, List, [], ◌∷◌, Bool, true, false, Option, Some, None, take, length, get_or, slice_get}
use Rattle.jcontrol.specs.declared.frame.Step.{Step}
use Rattle.jcontrol.specs.declared.frame.Step.TheVariants as step
use Rattle.jcontrol.specs.declared.prepared.Prepared.{Prepared}
use Rattle.jcontrol.specs.declared.prepared.Act.{Act}
use Rattle.jcontrol.specs.declared.prepared.Act.TheVariants as act
use Rattle.jcontrol.specs.Program.{Return, Ask}
use Rattle.jcontrol.specs.declared.frame.Reply.TheVariants.{Told, Fault}
use Rattle.jcontrol.specs.Meaning.{Control, Finished, Faulted, Unfinished, round_after}

abbrev pub chosen : Option Bool → ℕ → ℕ → ℕ
chosen (Some true) held failed = held
chosen _ held failed = failed

-- where control goes on after a word at this place
abbrev pub after : Act → ℕ → Option Bool → ℕ
after (act.TestStart w to) p told = to
after (act.Test w failed) p told = chosen told (p + 1) failed
after (act.First w d failed) p told = chosen told (p + 1) failed
after (act.Next w d held failed) p told = chosen told held failed
after (act.Case w s failed) p told = chosen told (p + 1) failed
after (act.Go to) p told = to
after act.Return p told = p
after _ p told = p + 1

-- an assertion that is told not to hold is refused
abbrev pub refuses : Act → Option Bool → Bool
refuses (act.Assert w) (Some false) = true
refuses _ _ = false

-- the round that comes next in the loop that stands in so many others
abbrev pub next_round : List ℕ → ℕ → ℕ
next_round rounds depth = round_after (get_or rounds depth 0)

-- what a word asks
abbrev pub asked : Act → List ℕ → Step
asked (act.Sentence n t) rs = step.Sentence n t
asked (act.TestStart w to) rs = step.TestStart w
asked (act.Test w failed) rs = step.Test w
asked (act.Assert w) rs = step.Assert w
asked (act.Round w) rs = step.Round w
asked (act.First w d failed) rs = step.Items w 0
asked (act.Next w d held failed) rs = step.Items w (next_round rs d)
asked (act.Select w) rs = step.Select w
asked (act.Case w s failed) rs = step.Case w s
asked (act.Go to) rs = step.Return
asked act.Return rs = step.Return

-- the rounds of the open `for.` loops after that
abbrev pub counted : Act → List ℕ → List ℕ
counted (act.First w d failed) rs = take d rs ++ 0 ∷ []
counted (act.Next w d held failed) rs = take d rs ++ next_round rs d ∷ []
counted _ rs = rs

-- whether a word asks the evaluator for something
abbrev pub IsAsking : Act → Type 0
IsAsking (act.Go to) = ⊥
IsAsking act.Return = ⊥
IsAsking _ = Unit {0}

-- control goes from a place to another without a question
pub data Leads (words : List Prepared) : ℕ → ℕ → Type 0 where
  here : (p : ℕ) → Leads words p p
  goes : (p q r : ℕ) → (w : Prepared) → slice_get words p ≡ Some w → w.act ≡ act.Go q → Leads words q r → Leads words p r

-- from this place, with these rounds, the words do what the program says
abbrev pub Does : List Prepared → Control → ℕ → List ℕ → Type 0
Does words (Return Unfinished) p rs = Unit {0}
Does words (Return Faulted) p rs = ⊥
Does words (Return Finished) p rs = (r : ℕ) × (w : Prepared) × Leads words p r × (slice_get words r ≡ Some w) × (w.act ≡ act.Return)
Does words (Ask q f) p rs =
    (r : ℕ) × (w : Prepared) × Leads words p r × (slice_get words r ≡ Some w) × IsAsking w.act × (asked w.act rs ≡ q)
    × ((t : Option Bool) → refuses w.act t ≡ false → Does words (f (Told t)) (after w.act r t) (counted w.act rs))
    × ((t : Option Bool) → refuses w.act t ≡ true → f (Told t) ≡ f Fault)
    × ((c : ℕ) (v : Prepared) → w.catch ≡ Some c → slice_get words c ≡ Some v → (t : Option Bool) → (refuses v.act t ≡ false) × Does words (f Fault) (after v.act c t) (counted w.act rs))
    × (w.catch ≡ None → f Fault ≡ Return Faulted)

-- a frame at this place goes on so, whatever it is told
pub record Lands (words : List Prepared) (p : ℕ) (rs : List ℕ) (caught : Control) : Type 0 where
  pub word : Prepared
  pub at : slice_get words p ≡ Some word
  pub free : (t : Option Bool) → refuses word.act t ≡ false
  pub on : (t : Option Bool) → Does words caught (after word.act p t) rs

-- a frame at this place goes on so after a fault
pub record Falls (words : List Prepared) (p : ℕ) (rs : List ℕ) (caught : Control) : Type 0 where
  pub word : Prepared
  pub at : slice_get words p ≡ Some word
  pub on : (c : ℕ) → word.catch ≡ Some c → Lands words c rs caught
  pub off : word.catch ≡ None → caught ≡ Return Faulted

-- a frame at this place goes on so by what it is told; an assertion that is refused is a fault
pub record Waits (words : List Prepared) (p : ℕ) (rs : List ℕ) (told : Option Bool → Control) : Type 0 where
  pub word : Prepared
  pub at : slice_get words p ≡ Some word
  pub on : (t : Option Bool) → refuses word.act t ≡ false → Does words (told t) (after word.act p t) rs
  pub refused : (t : Option Bool) → refuses word.act t ≡ true → Falls words p rs (told t)

-- at this place stands an `assert.`, and it is told not to hold
abbrev pub IsRefused : List Prepared → ℕ → Option Bool → Type 0
IsRefused words p t = (w : Prepared) × (slice_get words p ≡ Some w) × (refuses w.act t ≡ true)

-- the step is the one that the program asks for, and the frame then goes on as the program does
abbrev pub Comes : List Prepared → ℕ → List ℕ → Step → Control → Type 0
Comes words p rs s (Return Unfinished) = Unit {0}
Comes words p rs s (Return Faulted) = ⊥
Comes words p rs s (Return Finished) = s ≡ step.Return
Comes words p rs s (Ask q f) = (s ≡ q) × (s ≢ step.Return) × Waits words p rs (λ t. f (Told t)) × Falls words p rs (f Fault)

-- what comes of a fault: it is caught, and the frame goes on so, or it ends the body
abbrev pub Resumes : List Prepared → ℕ → List ℕ → Bool → Control → Type 0
Resumes words p rs true c = Lands words p rs c
Resumes words p rs false c = c ≡ Return Faulted

-- each place to which a word leads is there, and a word that asks nothing leads onward
abbrev pub LeadsInside : ℕ → ℕ → Act → Type 0
LeadsInside len p (act.Go to) = (p < to) × (to < len)
LeadsInside len p act.Return = Unit {0}
LeadsInside len p (act.TestStart w to) = to < len
LeadsInside len p (act.Test w failed) = (p + 1 < len) × (failed < len)
LeadsInside len p (act.First w d failed) = (p + 1 < len) × (failed < len)
LeadsInside len p (act.Case w s failed) = (p + 1 < len) × (failed < len)
LeadsInside len p (act.Next w d held failed) = (held < len) × (failed < len)
LeadsInside len p _ = p + 1 < len

pub record IsSound (words : List Prepared) : Type 0 where
  pub acts : (p : ℕ) (w : Prepared) → slice_get words p ≡ Some w → LeadsInside (length words) p w.act
  pub catches : (p : ℕ) (w : Prepared) (c : ℕ) → slice_get words p ≡ Some w → w.catch ≡ Some c → c < length words
