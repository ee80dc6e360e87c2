-- What a body means, after J Dictionary, "Control Structures": the steps that it asks for, in order, each by what was
-- told after those before it.
use Rattle.std.specs.Prelude.{ℕ, zero, suc, Bool, true, false, Option, Some, None, cond, min, ◌+◌, ◌-◌, ◌^◌}
use Rattle.jcontrol.specs.Program.{Program, Return, Ask}
use Rattle.jcontrol.specs.Block.{Block, Cases}
use Rattle.jcontrol.specs.Block.Block.{Nothing, Sentence, If, While, For, Select, Try, Assert, Break, Continue, Leave}
use Rattle.jcontrol.specs.Block.Cases.{NoCase, Case, Always}
use Rattle.jcontrol.specs.declared.frame.Step.{Step}
use Rattle.jcontrol.specs.declared.frame.Step.TheVariants as step
use Rattle.jcontrol.specs.declared.frame.Reply.{Reply}
use Rattle.jcontrol.specs.declared.frame.Reply.TheVariants.{Told, Fault}

-- how a body ends; Unfinished, where a loop made as many rounds as were left
pub data End : Type 0 where
  Finished : End
  Faulted : End
  Unfinished : End

abbrev pub Control : Type 0
Control = Program Step Reply End

-- the ways out of a block, each with what is asked from there on
pub record Ways : Type 0 where
  -- behind its last member
  pub done : Control
  -- by `break.`, and by `continue.`
  pub broken : Control
  pub again : Control
  -- by a fault
  pub caught : Control

-- the one way where it was told that a test holds, else the other
abbrev pub so_told : Control → Control → Option Bool → Control
so_told held failed (Some true) = held
so_told held failed _ = failed

-- after a step that tells nothing
abbrev pub goes_on : Ways → Control → Reply → Control
goes_on ways next (Told t) = next
goes_on ways next Fault = ways.caught

-- after a step that tells how a test came out
abbrev pub by_test : Ways → Control → Control → Reply → Control
by_test ways held failed (Told t) = so_told held failed t
by_test ways held failed Fault = ways.caught

-- after an assertion: one that doesn't hold is a fault
abbrev pub asserted : Ways → Control → Reply → Control
asserted ways next (Told (Some false)) = ways.caught
asserted ways next (Told _) = next
asserted ways next Fault = ways.caught

-- a test, and what is asked at its end
abbrev pub tested : ℕ → (Ways → Control) → Ways → Control → Control
tested w test ways next = Ask (step.TestStart w) (goes_on ways (test (record ways { done = next })))

-- the ways out of a loop's block: to go round again, at its end and by `continue.`, or behind the loop by `break.`
abbrev pub in_round : Ways → Control → Ways
in_round ways again = record { done = again; broken = ways.done; again = again; caught = ways.caught }

-- a round of `while. test do. block end.`, and then again
abbrev pub while_round : ℕ → (Ways → Control) → Ways → Control → Control
while_round w block ways again = Ask (step.Round w) (goes_on ways (block (in_round ways again)))

-- the loop, with so many rounds left: the test, and where it holds a round and then the loop again
abbrev pub while_loop : ℕ → (Ways → Control) → (Ways → Control) → Ways → ℕ → Control
while_loop w test block ways zero = Return Unfinished
while_loop w test block ways (suc k) = tested w test ways (Ask (step.Test w) (by_test ways (while_round w block ways (while_loop w test block ways k)) ways.done))

-- the number of the round after this one; it stands still at the last number of 64 bits, which no array's item has
abbrev pub round_after : ℕ → ℕ
round_after i = min (i + 1) (2 ^ 64 - 1)

-- from round i of a `for.` on: where the item with that number is there, a round for it and then the next
abbrev pub for_loop : ℕ → (Ways → Control) → Ways → ℕ → ℕ → Control
for_loop w block ways zero i = Return Unfinished
for_loop w block ways (suc k) i = Ask (step.Items w i) (by_test ways (block (in_round ways (for_loop w block ways k (round_after i)))) ways.done)

abbrev mutual
  -- with so many rounds for each loop, in this test
  pub meaning : ℕ → Option ℕ → Block → Ways → Control
  meaning n t Nothing ways = ways.done
  meaning n t (Sentence m rest) ways = Ask (step.Sentence m t) (goes_on ways (meaning n t rest ways))
  meaning n t (If w test block otherwise rest) ways =
      let after = record ways { done = meaning n t rest ways } in
      tested w (meaning n (Some w) test) ways (Ask (step.Test w) (by_test ways (meaning n t block after) (meaning n t otherwise after)))
  meaning n t (While w skips test block rest) ways =
      let after = record ways { done = meaning n t rest ways } in
      let loop = while_loop w (meaning n (Some w) test) (meaning n t block) after n in
      cond skips (while_round w (meaning n t block) after loop) loop
  meaning n t (For w test block rest) ways =
      tested w (meaning n (Some w) test) ways (for_loop w (meaning n t block) (record ways { done = meaning n t rest ways }) n 0)
  meaning n t (Select w test cases rest) ways =
      tested w (meaning n (Some w) test) ways (Ask (step.Select w) (goes_on ways (selected n t w cases (record ways { done = meaning n t rest ways }))))
  meaning n t (Try block caught rest) ways =
      let after = record ways { done = meaning n t rest ways } in
      meaning n t block (record after { caught = meaning n t caught after })
  meaning n t (Assert w test rest) ways =
      tested w (meaning n (Some w) test) ways (Ask (step.Assert w) (asserted ways (meaning n t rest ways)))
  meaning n t (Break rest) ways = ways.broken
  meaning n t (Continue rest) ways = ways.again
  meaning n t (Leave rest) ways = Return Finished

  -- the first case that is taken
  pub selected : ℕ → Option ℕ → ℕ → Cases → Ways → Control
  selected n t s NoCase ways = ways.done
  selected n t s (Case w test block falls more) ways =
      tested w (meaning n (Some w) test) ways (Ask (step.Case w s) (by_test ways (meaning n t block (cond falls (record ways { done = fallen n t more ways }) ways)) (selected n t s more ways)))
  selected n t s (Always block falls more) ways = meaning n t block (cond falls (record ways { done = fallen n t more ways }) ways)

  -- the block of the next case, whether it is taken or not
  pub fallen : ℕ → Option ℕ → Cases → Ways → Control
  fallen n t NoCase ways = ways.done
  fallen n t (Case w test block falls more) ways = meaning n t block (cond falls (record ways { done = fallen n t more ways }) ways)
  fallen n t (Always block falls more) ways = meaning n t block (cond falls (record ways { done = fallen n t more ways }) ways)

-- a whole body
abbrev pub body : ℕ → Block → Control
body n block = meaning n None block (record { done = Return Finished; broken = Return Finished; again = Return Finished; caught = Return Faulted })
