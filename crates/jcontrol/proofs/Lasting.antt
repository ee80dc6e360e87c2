-- A body doesn't run out of rounds before it made as many as were left.
use Rattle.std.proofs.Common.{ℕ, zero, suc, ◌≡◌, ◌≤◌, ◌<◌, ◌+◌, ◌-◌, List, [], ◌∷◌, Bool, true, false, cond, Option, Some, None, sym, subst, arith}
use Rattle.jcontrol.specs.declared.frame.Step.{Step}
use Rattle.jcontrol.specs.declared.frame.Step.TheVariants as step
use Rattle.jcontrol.specs.declared.frame.Reply.{Reply}
use Rattle.jcontrol.specs.declared.frame.Reply.TheVariants.{Told, Fault}
use Rattle.jcontrol.specs.Program.{Return, Ask}
use Rattle.jcontrol.specs.Block.{Block, Cases}
use Rattle.jcontrol.specs.Block.Block.{Nothing, Sentence, If, While, For, Select, Try, Assert, Break, Continue, Leave}
use Rattle.jcontrol.specs.Block.Cases.{NoCase, Case, Always}
use Rattle.jcontrol.specs.Meaning.{Finished, Faulted, Unfinished, Control, Ways, goes_on, by_test, asserted, tested, in_round, while_round, while_loop, round_after, for_loop, meaning, selected, fallen, body}
use Rattle.jcontrol.specs.Rounds.{Spent, Lasts, starts_round, rounds}

pub less : (p : Control) (j k : ℕ) → j ≤ k → Lasts k p → Lasts j p
less (Return Unfinished) j k h l = omega arith
less (Return Finished) j k h l = tt
less (Return Faulted) j k h l = tt
less (Ask q f) j k h l = λ r. less (f r) (j - starts_round q r) (k - starts_round q r) (omega arith) (l r)

spent : (p : Control) (es : List (Step × Reply)) (k : ℕ) → Lasts k p → Spent p es → k ≤ rounds es
spent (Return Unfinished) es k l h = omega arith
spent (Return Finished) es k l h = absurd h
spent (Return Faulted) es k l h = absurd h
spent (Ask q f) [] k l h = absurd h
spent (Ask q f) (e ∷ es) k l h =
    let i : k - starts_round q e.1 ≤ rounds es = spent (f e.1) es (k - starts_round q e.1) (l e.1) h.1 in
    let j : k ≤ starts_round q e.1 + rounds es = omega arith in
    subst (λ s. k ≤ starts_round s e.1 + rounds es) (sym h.0) j

record All (k : ℕ) (ways : Ways) : Type 0 where
  done : Lasts k ways.done
  broken : Lasts k ways.broken
  again : Lasts k ways.again
  caught : Lasts k ways.caught

with_done : (k : ℕ) (ways : Ways) (x : Control) → All k ways → Lasts k x → All k (record ways { done = x })
with_done k ways x a l = record { done = l; broken = a.broken; again = a.again; caught = a.caught }

less_all : (ways : Ways) (j k : ℕ) → j ≤ k → All k ways → All j ways
less_all ways j k h a = record { done = less ways.done j k h a.done; broken = less ways.broken j k h a.broken; again = less ways.again j k h a.again; caught = less ways.caught j k h a.caught }

told : (q : Step) (ways : Ways) (x : Control) (k : ℕ) → All k ways → Lasts k x → Lasts k (Ask q (goes_on ways x))
told q ways x k a l (Told t) = less x (k - starts_round q (Told t)) k (omega arith) l
told q ways x k a l Fault = less ways.caught (k - starts_round q Fault) k (omega arith) a.caught

claimed : (q : Step) (ways : Ways) (x : Control) (k : ℕ) → All k ways → Lasts k x → Lasts k (Ask q (asserted ways x))
claimed q ways x k a l (Told (Some true)) = less x (k - starts_round q (Told (Some true))) k (omega arith) l
claimed q ways x k a l (Told (Some false)) = less ways.caught (k - starts_round q (Told (Some false))) k (omega arith) a.caught
claimed q ways x k a l (Told None) = less x (k - starts_round q (Told None)) k (omega arith) l
claimed q ways x k a l Fault = less ways.caught (k - starts_round q Fault) k (omega arith) a.caught

chose : (q : Step) (ways : Ways) (x y : Control) (k : ℕ) → All k ways → Lasts k x → Lasts k y → Lasts k (Ask q (by_test ways x y))
chose q ways x y k a l m (Told (Some true)) = less x (k - starts_round q (Told (Some true))) k (omega arith) l
chose q ways x y k a l m (Told (Some false)) = less y (k - starts_round q (Told (Some false))) k (omega arith) m
chose q ways x y k a l m (Told None) = less y (k - starts_round q (Told None)) k (omega arith) m
chose q ways x y k a l m Fault = less ways.caught (k - starts_round q Fault) k (omega arith) a.caught

took : (w : ℕ) (ways : Ways) (x : Control) (k : ℕ) → All k ways → Lasts (k - 1) x → Lasts k (Ask (step.Round w) (goes_on ways x))
took w ways x k a l (Told t) = l
took w ways x k a l Fault = less ways.caught (k - 1) k (omega arith) a.caught

has_item : (w i : ℕ) (ways : Ways) (x y : Control) (k : ℕ) → All k ways → Lasts (k - 1) x → Lasts k y → Lasts k (Ask (step.Items w i) (by_test ways x y))
has_item w i ways x y k a l m (Told (Some true)) = l
has_item w i ways x y k a l m (Told (Some false)) = less y (k - 0) k (omega arith) m
has_item w i ways x y k a l m (Told None) = less y (k - 0) k (omega arith) m
has_item w i ways x y k a l m Fault = less ways.caught (k - 0) k (omega arith) a.caught

module _ (n : ℕ) where
  abbrev Lasting : (Ways → Control) → Type 0
  Lasting m = (k : ℕ) (ways : Ways) → k ≤ n → All k ways → Lasts k (m ways)

  test_lasts : (w : ℕ) (m : Ways → Control) → Lasting m → (ways : Ways) (x : Control) (k : ℕ) → k ≤ n → All k ways → Lasts k x → Lasts k (tested w m ways x)
  test_lasts w m lm ways x k h a l = told (step.TestStart w) ways (m (record ways { done = x })) k a (lm k (record ways { done = x }) h (with_done k ways x a l))

  in_loop : (ways : Ways) (again : Control) (j k : ℕ) → j ≤ k → All k ways → Lasts j again → All j (in_round ways again)
  in_loop ways again j k h a l = record { done = l; broken = less ways.done j k h a.done; again = l; caught = less ways.caught j k h a.caught }

  while_lasts : (w : ℕ) (t b : Ways → Control) → Lasting t → Lasting b → (ways : Ways) (m k : ℕ) → k ≤ m → k ≤ n → All k ways → Lasts k (while_loop w t b ways m)
  while_lasts w t b lt lb ways zero k h i a = omega arith
  while_lasts w t b lt lb ways (suc m) k h i a =
      let again = while_loop w t b ways m in
      let inner = in_round ways again in
      let more = while_lasts w t b lt lb ways m (k - 1) (omega arith) (omega arith) (less_all ways (k - 1) k (omega arith) a) in
      let round = took w ways (b inner) k a (lb (k - 1) inner (omega arith) (in_loop ways again (k - 1) k (omega arith) a more)) in
      let x = Ask (step.Round w) (goes_on ways (b inner)) in
      test_lasts w t lt ways (Ask (step.Test w) (by_test ways x ways.done)) k i a (chose (step.Test w) ways x ways.done k a round a.done)

  for_lasts : (w : ℕ) (b : Ways → Control) → Lasting b → (ways : Ways) (m i k : ℕ) → k ≤ m → k ≤ n → All k ways → Lasts k (for_loop w b ways m i)
  for_lasts w b lb ways zero i k h j a = omega arith
  for_lasts w b lb ways (suc m) i k h j a =
      let again = for_loop w b ways m (round_after i) in
      let inner = in_round ways again in
      let more = for_lasts w b lb ways m (round_after i) (k - 1) (omega arith) (omega arith) (less_all ways (k - 1) k (omega arith) a) in
      has_item w i ways (b inner) ways.done k a (lb (k - 1) inner (omega arith) (in_loop ways again (k - 1) k (omega arith) a more)) a.done

  leaves : (falls : Bool) (m : Ways → Control) → Lasting m → (other : Control) (ways : Ways) (k : ℕ) → k ≤ n → All k ways → Lasts k other → Lasts k (m (cond falls (record ways { done = other }) ways))
  leaves true m lm other ways k h a l = lm k (record ways { done = other }) h (with_done k ways other a l)
  leaves false m lm other ways k h a l = lm k ways h a

  mutual
    lasts : (b : Block) (t : Option ℕ) → Lasting (meaning n t b)
    lasts Nothing t = λ k ways h a. a.done
    lasts (Sentence m rest) t = λ k ways h a. told (step.Sentence m t) ways (meaning n t rest ways) k a (lasts rest t k ways h a)
    lasts (If w test block otherwise rest) t = λ k ways h a.
        let next = meaning n t rest ways in
        let all = with_done k ways next a (lasts rest t k ways h a) in
        let x = meaning n t block (record ways { done = next }) in
        let y = meaning n t otherwise (record ways { done = next }) in
        test_lasts w (meaning n (Some w) test) (lasts test (Some w)) ways (Ask (step.Test w) (by_test ways x y)) k h a
        (chose (step.Test w) ways x y k a (lasts block t k (record ways { done = next }) h all) (lasts otherwise t k (record ways { done = next }) h all))
    lasts (While w skips test block rest) t = λ k ways h a.
        let next = meaning n t rest ways in
        let onward : Ways = record ways { done = next } in
        let all = with_done k ways next a (lasts rest t k ways h a) in
        let again = while_loop w (meaning n (Some w) test) (meaning n t block) onward n in
        let inner = in_round onward again in
        let more = while_lasts w (meaning n (Some w) test) (meaning n t block) (lasts test (Some w)) (lasts block t) onward n k h h all in
        let first = told (step.Round w) onward (meaning n t block inner) k all (lasts block t k inner h (in_loop onward again k k (omega arith) all more)) in
        elim skips as (λ x. Lasts k (cond x (while_round w (meaning n t block) onward again) again)) [ true ↦ first | false ↦ more ]
    lasts (For w test block rest) t = λ k ways h a.
        let next = meaning n t rest ways in
        let onward : Ways = record ways { done = next } in
        let all = with_done k ways next a (lasts rest t k ways h a) in
        test_lasts w (meaning n (Some w) test) (lasts test (Some w)) ways (for_loop w (meaning n t block) onward n 0) k h a
        (for_lasts w (meaning n t block) (lasts block t) onward n 0 k h h all)
    lasts (Select w test cases rest) t = λ k ways h a.
        let next = meaning n t rest ways in
        let onward : Ways = record ways { done = next } in
        let x = selected n t w cases onward in
        test_lasts w (meaning n (Some w) test) (lasts test (Some w)) ways (Ask (step.Select w) (goes_on ways x)) k h a
        (told (step.Select w) ways x k a (selected_lasts cases t w k onward h (with_done k ways next a (lasts rest t k ways h a))))
    lasts (Try block caught rest) t = λ k ways h a.
        let next = meaning n t rest ways in
        let onward : Ways = record ways { done = next } in
        let all = with_done k ways next a (lasts rest t k ways h a) in
        lasts block t k (record onward { caught = meaning n t caught onward }) h
        (record { done = all.done; broken = a.broken; again = a.again; caught = lasts caught t k onward h all })
    lasts (Assert w test rest) t = λ k ways h a.
        let x = meaning n t rest ways in
        test_lasts w (meaning n (Some w) test) (lasts test (Some w)) ways (Ask (step.Assert w) (asserted ways x)) k h a
        (claimed (step.Assert w) ways x k a (lasts rest t k ways h a))
    lasts (Break rest) t = λ k ways h a. a.broken
    lasts (Continue rest) t = λ k ways h a. a.again
    lasts (Leave rest) t = λ k ways h a. tt

    selected_lasts : (c : Cases) (t : Option ℕ) (s : ℕ) → Lasting (selected n t s c)
    selected_lasts NoCase t s = λ k ways h a. a.done
    selected_lasts (Case w test block falls more) t s = λ k ways h a.
        let other = fallen n t more ways in
        let x = meaning n t block (cond falls (record ways { done = other }) ways) in
        let y = selected n t s more ways in
        test_lasts w (meaning n (Some w) test) (lasts test (Some w)) ways (Ask (step.Case w s) (by_test ways x y)) k h a
        (chose (step.Case w s) ways x y k a (leaves falls (meaning n t block) (lasts block t) other ways k h a (fallen_lasts more t k ways h a)) (selected_lasts more t s k ways h a))
    selected_lasts (Always block falls more) t s = λ k ways h a. leaves falls (meaning n t block) (lasts block t) (fallen n t more ways) ways k h a (fallen_lasts more t k ways h a)

    fallen_lasts : (c : Cases) (t : Option ℕ) → Lasting (fallen n t c)
    fallen_lasts NoCase t = λ k ways h a. a.done
    fallen_lasts (Case w test block falls more) t = λ k ways h a. leaves falls (meaning n t block) (lasts block t) (fallen n t more ways) ways k h a (fallen_lasts more t k ways h a)
    fallen_lasts (Always block falls more) t = λ k ways h a. leaves falls (meaning n t block) (lasts block t) (fallen n t more ways) ways k h a (fallen_lasts more t k ways h a)

  pub body_lasts : (b : Block) → Lasts n (body n b)
  body_lasts b = lasts b None n (record { done = Return Finished; broken = Return Finished; again = Return Finished; caught = Return Faulted }) (omega arith) (record { done = tt; broken = tt; again = tt; caught = tt })

pub enough : (n : ℕ) (b : Block) (es : List (Step × Reply)) → rounds es < n → Spent (body n b) es → ⊥
enough n b es h s = let k : n ≤ rounds es = spent (body n b) es n (body_lasts n b) s in omega arith
