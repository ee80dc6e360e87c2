-- What was made of a pass before it asked again.
use Rattle.std.proofs.Common.{◌≡◌, subst, ℕ, List, Option, Result, Ok, Err}
use Rattle.jturn.specs.Pass.{Pass}
use Rattle.juses.specs.Entries.{entry}
use Rattle.juses.specs.Told.{nothing, replied, asked_for}
use Rattle.juses.specs.declared.uses.Cause.{Cause}
use Rattle.juses.specs.declared.uses.Entry.{Entry}
use Rattle.juses.specs.declared.uses.Halt.{Halt}
use Rattle.juses.specs.declared.uses.Halt.TheVariants.{NoMemory, Closed}
use Rattle.juses.specs.declared.uses.Reply.{Reply}
use Rattle.juses.specs.declared.uses.Use.{Use}
use Rattle.juses.specs.declared.uses.Why.{Why}
use Rattle.juses.specs.declared.uses.Work.{Work}
use Rattle.jpass.specs.Used.{Used, Asked, Sought, AsksAgain, Refused}
use Rattle.jpass.specs.UsedLaws.{used_on}

module _ (thread : ℕ) (first p q : Pass Entry) (still : (helped : List (List ℕ)) → Used thread helped first nothing p) where
  pub still_on : ((helped : List (List ℕ)) → Used thread helped p nothing q) → (helped : List (List ℕ)) → Used thread helped first nothing q
  still_on u helped = used_on thread helped first p q nothing nothing (still helped) (u helped)

  pub asked_later : (who : List ℕ) (asked given : Use) (answer : Result Reply Halt) → given ≡ asked → Asked thread p who given q answer → Asked thread first who asked q answer
  asked_later who asked given answer is a = subst (λ u. Asked thread first who u q answer) is (by answer a)
    where
      by : (answer : Result Reply Halt) → Asked thread p who given q answer → Asked thread first who given q answer
      by (Ok r) (u, child) = ((λ helped. used_on thread helped first p q nothing (replied (entry who thread given r)) (still helped) (u helped)), child)
      by (Err halt) (u, so) = (still_on u, so)

  pub sought_later : (why : Why) (given : Option (List ℕ × Work)) → Sought AsksAgain thread p why q (Ok given) → Sought Refused thread first why q (Ok given)
  sought_later why given (u, due) = ((λ helped may. used_on thread helped first p q nothing (asked_for thread why given) (still helped) (u helped may)), due)

  pub sought_closed : (why : Why) (c : Cause) → Sought AsksAgain thread p why q (Err (Closed c)) → Sought Refused thread first why q (Err (Closed c))
  sought_closed why c (u, so) = (still_on u, so)

  pub sought_no_memory : (why : Why) → Sought AsksAgain thread p why q (Err NoMemory) → Sought Refused thread first why q (Err NoMemory)
  sought_no_memory why (u, so) = (still_on u, so)
