-- The program of a script: its sentences, one after another, each with so many turns.
use Rattle.std.specs.Prelude.{ℕ, List, [], ◌∷◌, Ok, Err}
use Rattle.jeval.specs.Sentence.{sentence}
use Rattle.jeval.specs.declared.state.State.{State}
use Rattle.juses.specs.Events.{Events, Does}
use Rattle.juses.specs.Keys.{base_locale}
use Rattle.juses.specs.Program.{Program, Return, ◌>>=◌}
use Rattle.juses.specs.Wishes.{Wish}
use Rattle.juses.specs.declared.uses.Halt.{Halt}
use Rattle.juses.specs.declared.uses.Halt.TheVariants.{NoMemory}
use Rattle.juses.specs.declared.uses.Reply.{Reply}
use Rattle.juses.specs.declared.uses.Use.{Use}

-- each sentence has one line
abbrev pub script : ℕ → List (List ℕ) → State → Program Wish Reply State
script turns [] s = Return s
script turns (line ∷ lines) s = sentence turns (line ∷ []) s >>= (λ r. script turns lines r.1)

-- the state of main in a new session
abbrev pub first_state : ℕ → State
first_state turns = record { here = base_locale; left = turns }

-- the script of a new session
abbrev pub script_of : ℕ → List (List ℕ) → Program Wish Reply State
script_of turns lines = script turns lines (first_state turns)

abbrev pub nothing_refused : List ℕ → Use → Halt → Type 0
nothing_refused who asked halt = ⊥

-- main did this by the program, and came to its end with this answer
abbrev pub DidAll : {A : Type 0} → Program Wish Reply A → Events → A → Type 0
DidAll program events answer = Does nothing_refused [] program events (Ok answer)

-- main did this by the program, and perhaps there is more to do
abbrev pub DidSome : {A : Type 0} → Program Wish Reply A → Events → Type 0
DidSome program events = Does nothing_refused [] program events (Err NoMemory)
