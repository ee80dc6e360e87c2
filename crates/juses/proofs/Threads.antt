-- A history in which each activity's entries are its program's is faithful, whoever ran which activity.
use Rattle.std.proofs.Common.{◌≡◌, ◌≢◌, ◌⊎◌, inl, inr, refl, sym, ap, subst, ◌∙◌, ℕ, zero, suc, List, [], ◌∷◌, ◌++◌, map, Bool, true, false, if◌then◌else◌, Some, Result, Ok, Err, ◌≤◌, arith, nat_eq, append-nil, append_assoc}
use Rattle.std.proofs.lemmas.Bool.Decides.{nat_tests}
use Rattle.juses.specs.ByActivity.{trace_of, trace, times, WasHanded, Leaves, LeavesBy, TaskBy, WorksAlong, FaithfulIn, Mixed, with_list, Together}
use Rattle.juses.specs.Entries.{entry}
use Rattle.juses.specs.Activities.{Asks, Faithful, task_of}
use Rattle.juses.specs.OldestFirst.{onto, history}
use Rattle.juses.specs.Keys.{same}
use Rattle.juses.specs.Program.{Program, Return, Ask, next, main_of}
use Rattle.juses.specs.Histories.{own, replies}
use Rattle.juses.specs.Told.{Told, Replied, Handed, NoneDue}
use Rattle.juses.specs.Wishes.{Wish}
use Rattle.juses.specs.declared.uses.Entry.{Entry}
use Rattle.juses.specs.declared.uses.Halt.{Halt}
use Rattle.juses.specs.declared.uses.Ended.{Ended}
use Rattle.juses.specs.declared.uses.Reply.{Reply}
use Rattle.juses.specs.declared.uses.Reply.TheVariants.{Done}
use Rattle.juses.specs.declared.uses.Use.{Use}
use Rattle.juses.specs.declared.uses.Use.TheVariants as asked
use Rattle.juses.specs.declared.uses.Work.{Work}
use Rattle.juses.proofs.Phases.{same_self, same_or_not}

abbrev Uses_of : Type 0
Uses_of = Program Use Reply (Unit {0})

replied : (x : List ℕ) (h : List Entry) → replies (own x h) ≡ map (λ y. y.1) (trace_of x h)
replied x [] = refl
replied x (e ∷ h) = by (same x e.who) (replied x h)
  where
    front : (l : List (Use × Reply)) → map (λ y. y.1) l ++ e.reply ∷ [] ≡ map (λ y. y.1) (l ++ (e.asked, e.reply) ∷ [])
    front [] = refl
    front (y ∷ l) = ap (λ m. y.1 ∷ m) (front l)

    by : (b : Bool) → replies (own x h) ≡ map (λ y. y.1) (trace_of x h) → replies (if b then e ∷ own x h else own x h) ≡ map (λ y. y.1) (if b then trace_of x h ++ (e.asked, e.reply) ∷ [] else trace_of x h)
    by true r = ap (λ l. l ++ e.reply ∷ []) r ∙ front (trace_of x h)
    by false r = r

-- the last of its uses was its next
next_last : (p rest : Uses_of) (xs : List (Use × Reply)) (y : Use × Reply) → Leaves p (xs ++ y ∷ []) rest → next p (map (λ z. z.1) xs) ≡ Some y.0
next_last (Return a) rest [] y l = absurd l
next_last (Return a) rest (x ∷ xs) y l = absurd l
next_last (Ask q k) rest [] y l = ap Some (sym l.0)
next_last (Ask q k) rest (x ∷ xs) y l = next_last (k x.1) rest xs y l.1

leaves_before : (p rest : Uses_of) (xs : List (Use × Reply)) (y : Use × Reply) → Leaves p (xs ++ y ∷ []) rest → (mid : Uses_of) × Leaves p xs mid
leaves_before p rest [] y l = (p, refl)
leaves_before (Return a) rest (x ∷ xs) y l = absurd l
leaves_before (Ask q k) rest (x ∷ xs) y l = let m = leaves_before (k x.1) rest xs y l.1 in (m.0, (l.0, m.1))

not_empty : (xs : List (Use × Reply)) (y : Use × Reply) → xs ++ y ∷ [] ≢ []
not_empty [] y e = cc
not_empty (x ∷ xs) y e = cc

module _ {A : Type 0} (meaning : Work → Program Wish Reply Ended) (script : Program Wish Reply A) where
  module _ (e : Entry) (h : List Entry) where
    mine : (x : List ℕ) → x ≡ e.who → trace_of x (e ∷ h) ≡ trace_of x h ++ (e.asked, e.reply) ∷ []
    mine x is = ap (λ b. if b then trace_of x h ++ (e.asked, e.reply) ∷ [] else trace_of x h) (ap (same x) (sym is) ∙ same_self x)

    earlier : (x : List ℕ) → FaithfulIn meaning script x (e ∷ h) → FaithfulIn meaning script x h
    earlier x f = by (same_or_not x e.who) f
      where
        by : (x ≡ e.who) ⊎ ((x ≢ e.who) × (same x e.who ≡ false)) → FaithfulIn meaning script x (e ∷ h) → FaithfulIn meaning script x h
        by (inl is) (inl none) = absurd (not_empty (trace_of x h) (e.asked, e.reply) (sym (mine x is) ∙ none))
        by (inl is) (inr t) =
            let m = leaves_before t.0 t.2 (trace_of x h) (e.asked, e.reply) (subst (λ l. Leaves t.0 l t.2) (mine x is) t.3) in
            inr (t.0, t.1.0, m.0, m.1)
        by (inr d) (inl none) = inl (sym (ap (λ b. if b then trace_of x h ++ (e.asked, e.reply) ∷ [] else trace_of x h) d.1) ∙ none)
        by (inr d) (inr t) = inr (t.0, t.1.0, t.2, subst (λ l. Leaves t.0 l t.2) (ap (λ b. if b then trace_of x h ++ (e.asked, e.reply) ∷ [] else trace_of x h) d.1) t.3)

    asks : FaithfulIn meaning script e.who (e ∷ h) → Asks meaning script h e.who e.asked
    asks (inl none) = absurd (not_empty (trace_of e.who h) (e.asked, e.reply) (sym (mine e.who refl) ∙ none))
    asks (inr t) = (t.0, t.1.1 refl, ap (next t.0) (replied e.who h) ∙ next_last t.0 t.2 (trace_of e.who h) (e.asked, e.reply) (subst (λ l. Leaves t.0 l t.2) (mine e.who refl) t.3))

  pub faithful_by : (h : List Entry) → ((x : List ℕ) → FaithfulIn meaning script x h) → Faithful meaning script h
  faithful_by [] f = tt
  faithful_by (e ∷ h) f = (faithful_by h (λ x. earlier e h x (f x)), asks e h (f e.who))

-- ---- of several passes

trace_onto : (x : List ℕ) (xs : List Told) (h : List Entry) → trace_of x (onto xs h) ≡ trace_of x h ++ trace x xs
trace_onto x [] h = sym (append-nil (trace_of x h))
trace_onto x (Replied e ∷ xs) h = trace_onto x xs (e ∷ h) ∙ by (same x e.who)
  where
    by : (b : Bool) → (if b then trace_of x h ++ (e.asked, e.reply) ∷ [] else trace_of x h) ++ trace x xs ≡ trace_of x h ++ (if b then (e.asked, e.reply) ∷ trace x xs else trace x xs)
    by true = append_assoc (trace_of x h) ((e.asked, e.reply) ∷ []) (trace x xs)
    by false = refl
trace_onto x (Handed why t th w ∷ xs) h = trace_onto x xs (entry t th asked.Begin Done ∷ h) ∙ by (same x t)
  where
    by : (b : Bool) → (if b then trace_of x h ++ (asked.Begin, Done) ∷ [] else trace_of x h) ++ trace x xs ≡ trace_of x h ++ (if b then (asked.Begin, Done) ∷ trace x xs else trace x xs)
    by true = append_assoc (trace_of x h) ((asked.Begin, Done) ∷ []) (trace x xs)
    by false = refl
trace_onto x (NoneDue why ∷ xs) h = trace_onto x xs h

-- whether two numbers are the same
number_or_not : (i j : ℕ) → ((i ≡ j) × (nat_eq i j ≡ true)) ⊎ ((i ≢ j) × (nat_eq i j ≡ false))
number_or_not i j = by (nat_eq i j) refl
  where
    by : (b : Bool) → nat_eq i j ≡ b → ((i ≡ j) × (nat_eq i j ≡ true)) ⊎ ((i ≢ j) × (nat_eq i j ≡ false))
    by true e = inl (grind (arith, nat_tests, e), e)
    by false e = inr ((λ is. grind (arith, nat_tests, e, is)), e)

module _ (x : List ℕ) where
  -- where no list but one has entries of the activity, the history's are those of that list
  mixed_trace : (h : List Entry) (f : ℕ → List Entry) (i : ℕ) → Mixed f h → ((j : ℕ) → j ≢ i → trace_of x (f j) ≡ []) → trace_of x h ≡ trace_of x (f i)
  mixed_trace [] f i m others = ap (trace_of x) (sym (m i))
  mixed_trace (e ∷ h) f i (j, rest, is, m) others = by (number_or_not j i) (mixed_trace h (with_list f j rest) i m)
    where
      at_j : trace_of x (f j) ≡ (if same x e.who then trace_of x rest ++ (e.asked, e.reply) ∷ [] else trace_of x rest)
      at_j = ap (trace_of x) is

      -- where the whole has none, the rest has none
      less : (b : Bool) → (if b then trace_of x rest ++ (e.asked, e.reply) ∷ [] else trace_of x rest) ≡ [] → (trace_of x rest ≡ []) × (b ≡ false)
      less true none = absurd (not_empty (trace_of x rest) (e.asked, e.reply) none)
      less false none = (none, refl)

      unchanged : (k : ℕ) → j ≢ k → with_list f j rest k ≡ f k
      unchanged k n = pick (number_or_not j k)
        where
          pick : ((j ≡ k) × (nat_eq j k ≡ true)) ⊎ ((j ≢ k) × (nat_eq j k ≡ false)) → with_list f j rest k ≡ f k
          pick (inl y) = absurd (n y.0)
          pick (inr y) = ap (λ b. if b then rest else f k) y.1

      changed : (k : ℕ) → j ≡ k → with_list f j rest k ≡ rest
      changed k y = pick (number_or_not j k)
        where
          pick : ((j ≡ k) × (nat_eq j k ≡ true)) ⊎ ((j ≢ k) × (nat_eq j k ≡ false)) → with_list f j rest k ≡ rest
          pick (inl z) = ap (λ b. if b then rest else f k) z.1
          pick (inr z) = absurd (z.0 y)

      by : ((j ≡ i) × (nat_eq j i ≡ true)) ⊎ ((j ≢ i) × (nat_eq j i ≡ false)) → (((k : ℕ) → k ≢ i → trace_of x (with_list f j rest k) ≡ []) → trace_of x h ≡ trace_of x (with_list f j rest i)) → trace_of x (e ∷ h) ≡ trace_of x (f i)
      by (inl y) call =
          let before : trace_of x h ≡ trace_of x rest = call (λ k n. ap (trace_of x) (unchanged k (λ z. n (sym z ∙ y.0))) ∙ others k n) ∙ ap (trace_of x) (changed i y.0) in
          ap (λ l. if same x e.who then l ++ (e.asked, e.reply) ∷ [] else l) before ∙ (sym at_j ∙ ap (λ k. trace_of x (f k)) y.0)
      by (inr y) call =
          let none = less (same x e.who) (sym at_j ∙ others j y.0) in
          let before : trace_of x h ≡ trace_of x (f i) = call (λ k n. rest_or k n none.0) ∙ ap (trace_of x) (unchanged i y.0) in
          ap (λ b. if b then trace_of x h ++ (e.asked, e.reply) ∷ [] else trace_of x h) none.1 ∙ before
        where
          rest_or : (k : ℕ) → k ≢ i → trace_of x rest ≡ [] → trace_of x (with_list f j rest k) ≡ []
          rest_or k n none = pick (number_or_not j k)
            where
              pick : ((j ≡ k) × (nat_eq j k ≡ true)) ⊎ ((j ≢ k) × (nat_eq j k ≡ false)) → trace_of x (with_list f j rest k) ≡ []
              pick (inl z) = ap (trace_of x) (changed k z.0) ∙ none
              pick (inr z) = ap (trace_of x) (unchanged k z.0) ∙ others k n

module _ {A : Type 0} (meaning : Work → Program Wish Reply Ended) (script : Program Wish Reply A) (tells : ℕ → List Told) (h : List Entry) (t : Together meaning script tells h) where
  all_of : (x : List ℕ) (i : ℕ) → ((j : ℕ) → j ≢ i → trace x (tells j) ≡ []) → trace_of x h ≡ trace x (tells i)
  all_of x i others = mixed_trace x h (λ j. history (tells j)) i t.mixed (λ j n. trace_onto x (tells j) [] ∙ others j n) ∙ trace_onto x (tells i) []

  main_along : (g : List Entry) → WorksAlong meaning script [] (main_of script) g
  main_along [] = tt
  main_along (e ∷ g) = (main_along g, λ is. inl (refl, refl))

  idle : (i : ℕ) → i ≢ 0 → trace [] (tells i) ≡ []
  idle i n = let w = t.workers i n in by w.0 (trace [] (tells i)) (w.1.its_own (t.no_main i))
    where
      by : (r : Result (Unit {0}) Halt) (xs : List (Use × Reply)) → LeavesBy (λ done. Return tt) (Return tt) xs r → xs ≡ []
      by r [] l = refl
      by (Ok a) (y ∷ xs) l = absurd l
      by (Err halt) (y ∷ xs) l = absurd l.1

  of_main : FaithfulIn meaning script [] h
  of_main = by t.main.0 (t.main.1.its_own (t.no_main 0))
    where
      is : trace_of [] h ≡ trace [] (tells 0)
      is = all_of [] 0 idle

      by : (r : Result A Halt) → LeavesBy (λ a. Return tt) (main_of script) (trace [] (tells 0)) r → FaithfulIn meaning script [] h
      by (Ok a) l = inr (main_of script, main_along h, Return tt, subst (λ xs. Leaves (main_of script) xs (Return tt)) (sym is) l)
      by (Err halt) l = inr (main_of script, main_along h, l.0, subst (λ xs. Leaves (main_of script) xs l.0) (sym is) l.1)

  module _ (x : List ℕ) (not_main : x ≢ []) where
    none_elsewhere : (j : ℕ) → times x (tells j) ≡ 0 → trace x (tells j) ≡ []
    none_elsewhere j z = by (number_or_not j 0)
      where
        by : ((j ≡ 0) × (nat_eq j 0 ≡ true)) ⊎ ((j ≢ 0) × (nat_eq j 0 ≡ false)) → trace x (tells j) ≡ []
        by (inl y) = ap (λ k. trace x (tells k)) y.0 ∙ t.main.1.of_others x not_main (ap (λ k. times x (tells k)) (sym y.0) ∙ z)
        by (inr y) = (t.workers j y.0).1.of_others x not_main z

    task_in : (B : Type 0) (i : ℕ) (r : Result B Halt) → (work : Work) × WasHanded x work (tells i) × TaskBy meaning work (trace x (tells i)) r → trace_of x h ≡ trace x (tells i) → FaithfulIn meaning script x h
    task_in B i (Ok a) k is = inr (task_of (meaning k.0), t.started i x k.0 k.1, Return tt, subst (λ xs. Leaves (task_of (meaning k.0)) xs (Return tt)) (sym is) k.2)
    task_in B i (Err halt) k is = inr (task_of (meaning k.0), t.started i x k.0 k.1, k.2.0, subst (λ xs. Leaves (task_of (meaning k.0)) xs k.2.0) (sym is) k.2.1)

    in_pass : (i : ℕ) → times x (tells i) ≡ 1 → trace_of x h ≡ trace x (tells i) → FaithfulIn meaning script x h
    in_pass i one is = by (number_or_not i 0)
      where
        by : ((i ≡ 0) × (nat_eq i 0 ≡ true)) ⊎ ((i ≢ 0) × (nat_eq i 0 ≡ false)) → FaithfulIn meaning script x h
        by (inl y) = task_in A 0 t.main.0 (t.main.1.of_tasks x not_main (ap (λ k. times x (tells k)) (sym y.0) ∙ one)) (is ∙ ap (λ k. trace x (tells k)) y.0)
        by (inr y) = let w = t.workers i y.0 in task_in (Unit {0}) i w.0 (w.1.of_tasks x not_main one) is

    of_task : FaithfulIn meaning script x h
    of_task =
        let o = t.once x not_main in
        let is : trace_of x h ≡ trace x (tells o.0) = all_of x o.0 (λ j n. none_elsewhere j (o.2 j n)) in
        by o.0 (times x (tells o.0)) refl o.1 is
      where
        by : (i n : ℕ) → times x (tells i) ≡ n → times x (tells i) ≤ 1 → trace_of x h ≡ trace x (tells i) → FaithfulIn meaning script x h
        by i zero z le is = inl (is ∙ none_elsewhere i z)
        by i (suc n) z le is = in_pass i (omega (arith, z, le)) is

  pub together_faithful : Faithful meaning script h
  together_faithful = faithful_by meaning script h each
    where
      each : (x : List ℕ) → FaithfulIn meaning script x h
      each [] = of_main
      each (n ∷ x) = of_task (n ∷ x) (λ e. cc)
