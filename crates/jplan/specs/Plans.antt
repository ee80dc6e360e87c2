-- What is left of a plan, as a derivation.
use Rattle.std.specs.Prelude.{◌≡◌, IfOk, ℕ, suc, if◌then◌else◌, ◌+◌, ◌-◌, ◌++◌, ◌∷◌, [], Result, Ok, Err, None, Some, length}
use Rattle.jarray.specs.Matches.{matches}
use Rattle.jdata.specs.declared.noun.Noun.{Noun}
use Rattle.juses.specs.Program.{Return, Ask}
use Rattle.jplan.specs.Derivations.{Answer, Derivation, on, again, on_value, on_fault, applying, applying_last, given}
use Rattle.jplan.specs.Inserting.{inserted}
use Rattle.jplan.specs.Repeating.{times, until_match, climb, powered, repeated}
use Rattle.jplan.specs.Several.{alone, from_on, several_of}
use Rattle.jdata.specs.Noun.{product}
use Rattle.jdata.specs.declared.fault.NoMemory.{NoMemory}
use Rattle.jdata.specs.declared.fault.Trouble.{Trouble}
use Rattle.jdata.specs.declared.fault.Trouble.TheVariants as trouble
use Rattle.jterm.specs.declared.term.Term.{Term}
use Rattle.jplan.specs.declared.plan.Plan.{Plan}
use Rattle.jplan.specs.declared.plan.Plan.TheVariants as plan
use Rattle.jplan.specs.declared.plan.After.{After}
use Rattle.jplan.specs.declared.plan.After.TheVariants as after
use Rattle.jplan.specs.declared.repeating.Goal.{Goal}
use Rattle.jplan.specs.declared.repeating.Goal.TheVariants as goal

-- what becomes of the answer of an application
abbrev pub rest_after : After → Answer → Derivation
rest_after after.Given = Return
rest_after (after.AsRight u left) = on_value (λ value. applying_last u.now left value)
rest_after (after.AsLeft u right) = on_value (λ value. applying_last u.now (Some value) right)
rest_after (after.Right f g x y) = on_value (λ value. applying f.now x y (λ a. applying_last g.now (Some a) value))
rest_after (after.Insert u items) = on_value (λ value. inserted u.now items value)
rest_after (after.Else u x y) = on_fault (applying_last u.now x y)
rest_after (after.Under u w) = on_value (λ a. applying u.now None a (λ b. applying_last w.value None b))
rest_after (after.UnderRight u v x w) = on_value (λ b. applying v.now None x (λ a. applying u.now (Some a) b (λ c. applying_last w.value None c)))
rest_after (after.UnderLeft u b w) = on_value (λ a. applying u.now (Some a) b (λ c. applying_last w.value None c))
rest_after (after.Undo w) = on_value (λ b. applying_last w.value None b)
rest_after (after.Each u s) = on_value (λ value. from_on u.now (several_of s.value.parts) (s.value.at + 1) (s.value.results ++ value ∷ []))
rest_after (after.Alone none) = λ answer. Return (alone none.frame answer)
rest_after (after.Power u x y) = on_value (λ n. given (repeated u.now x) (λ w. powered w n y))

-- what becomes of the value of a repetition
abbrev pub rest_repeated : Term → Goal → Noun → Derivation
rest_repeated u (goal.Times left) value = times u left value
rest_repeated u (goal.Match before left) value = if matches value before then Return (Ok value) else until_match u left value
rest_repeated u (goal.Climb s values left) value = climb u s.frame s.counts left values value

-- what is left of a plan
abbrev pub rest : Plan → Derivation
rest (plan.Apply u x y next) = Ask (on u.now x y) (rest_after next)
rest (plan.Undo w y) = applying_last w.value None y
rest (plan.Again run y) = Ask (again run.value.verb.value y) (on_value (rest_repeated run.value.verb.value run.value.goal))
rest (plan.Done answer) = Return answer

-- repetitions are counted in 64 bits
abbrev pub most_counted : ℕ
most_counted = 18446744073709551615

-- how many applications are left at most
abbrev pub left_after : After → ℕ
left_after after.Given = 0
left_after (after.AsRight u left) = 1
left_after (after.AsLeft u right) = 1
left_after (after.Right f g x y) = 2
left_after (after.Insert u items) = length items
left_after (after.Else u x y) = 1
left_after (after.Under u w) = 2
left_after (after.UnderRight u v x w) = 3
left_after (after.UnderLeft u b w) = 2
left_after (after.Undo w) = 1
left_after (after.Each u s) = product (several_of s.value.parts).frame - (s.value.at + 1)
left_after (after.Alone none) = 0
left_after (after.Power u x y) = most_counted

abbrev pub left_repeated : Goal → ℕ
left_repeated (goal.Times left) = left
left_repeated (goal.Match before left) = left
left_repeated (goal.Climb s values left) = left

abbrev pub left_of : Plan → ℕ
left_of (plan.Apply u x y next) = suc (left_after next)
left_of (plan.Undo w y) = 1
left_of (plan.Again run y) = suc (left_repeated run.value.goal)
left_of (plan.Done value) = 0

-- an answer as the end of a plan
abbrev pub Ends : Result Noun Trouble → Result Plan NoMemory → Type 0
Ends (Ok value) result = IfOk result (λ p. rest p ≡ Return (Ok value)) × IfOk result (λ p. left_of p ≡ 0)
Ends (Err (trouble.Fault fault)) result = IfOk result (λ p. rest p ≡ Return (Err fault)) × IfOk result (λ p. left_of p ≡ 0)
Ends (Err trouble.NoMemory) result = IfOk result (λ p. ⊥)
