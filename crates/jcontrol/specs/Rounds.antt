-- How many rounds a body made, of those that it was given, and how many are left to it.
use Rattle.std.specs.Prelude.{ℕ, ◌+◌, ◌-◌, true, Some, List, [], ◌∷◌, ◌≡◌}
use Rattle.jcontrol.specs.declared.frame.Step.{Step}
use Rattle.jcontrol.specs.declared.frame.Step.TheVariants as step
use Rattle.jcontrol.specs.declared.frame.Reply.{Reply}
use Rattle.jcontrol.specs.declared.frame.Reply.TheVariants.{Told}
use Rattle.jcontrol.specs.Program.{Return, Ask}
use Rattle.jcontrol.specs.Meaning.{Control, Finished, Faulted, Unfinished}

-- with these replies the body made all the rounds that were left
abbrev pub Spent : Control → List (Step × Reply) → Type 0
Spent (Return Unfinished) es = Unit {0}
Spent (Return Finished) es = ⊥
Spent (Return Faulted) es = ⊥
Spent (Ask q k) [] = ⊥
Spent (Ask q k) (e ∷ es) = (e.0 ≡ q) × Spent (k e.1) es

-- how many rounds of loops a step starts
abbrev pub starts_round : Step → Reply → ℕ
starts_round (step.Round w) r = 1
starts_round (step.Items w i) (Told (Some true)) = 1
starts_round _ _ = 0

abbrev pub rounds : List (Step × Reply) → ℕ
rounds [] = 0
rounds (e ∷ es) = starts_round e.0 e.1 + rounds es

-- so many rounds are left at least, whatever is told
abbrev pub Lasts : ℕ → Control → Type 0
Lasts k (Return Unfinished) = k ≡ 0
Lasts k (Return Finished) = Unit {0}
Lasts k (Return Faulted) = Unit {0}
Lasts k (Ask q f) = (r : Reply) → Lasts (k - starts_round q r) (f r)
