-- What is left of an activity's program, and that its End is the last of its uses.
use Rattle.std.proofs.Common.{◌≡◌, ℕ, refl, sym, ap, subst, inl, inr, ◌∙◌, ◌⊎◌, List, [], ◌∷◌, Bool, true, false, Option, Some, None}
use Rattle.juses.specs.Activities.{ending, task_of}
use Rattle.juses.specs.Program.{Program, Return, Ask, next, before, main_of}
use Rattle.juses.specs.Wishes.{Wish, use_of, Read, Write, Print, Start, Open, MakePyx, SetPyx, MakeMutex, Lock, Unlock, MakeThread, Threads, PoolState, Current}
use Rattle.juses.specs.declared.uses.Ended.{Ended}
use Rattle.juses.specs.declared.uses.Use.{Use}
use Rattle.juses.specs.declared.uses.Use.TheVariants as asked
use Rattle.juses.specs.declared.uses.Reply.{Reply}
use Rattle.jlaws.proofs.Logs.{Stage}
use Rattle.jlaws.proofs.Setting.{Act}
use Rattle.jlaws.proofs.Stages.{clash, nothing}
use Rattle.jlaws.proofs.Core.{not_some, same_some}

abbrev pub Uses : Type 0
Uses = Program Use Reply (Unit {0})

-- an entry, its thread aside
abbrev pub Done : Type 0
Done = Act (List ℕ) Use Reply

-- the replies to these entries, the newest first
abbrev pub newest : List (Act (List ℕ) Use Reply) → List Reply
newest [] = []
newest (e ∷ l) = e.reply ∷ newest l

-- what is left of a program after these replies, the newest first
abbrev pub step : Program Use Reply (Unit {0}) → Reply → Program Use Reply (Unit {0})
step (Return a) r = Return a
step (Ask q k) r = k r

abbrev pub left : Program Use Reply (Unit {0}) → List Reply → Program Use Reply (Unit {0})
left p [] = p
left p (r ∷ rs) = step (left p rs) r

-- the next use after these replies
abbrev pub next_of : Program Use Reply (Unit {0}) → List Reply → Option Use
next_of p rs = next (left p rs) []

abbrev pub is_end : Use → Bool
is_end (asked.End outcome) = true
is_end _ = false

no_end : (q : Wish) → is_end (use_of q) ≡ false
no_end (Read from name) = refl
no_end (Write place name value) = refl
no_end (Print bytes) = refl
no_end (Start pool work) = refl
no_end (Open pyx) = refl
no_end MakePyx = refl
no_end (SetPyx pyx outcome) = refl
no_end MakeMutex = refl
no_end (Lock mutex) = refl
no_end (Unlock mutex) = refl
no_end (MakeThread pool) = refl
no_end Threads = refl
no_end (PoolState pool) = refl
no_end Current = refl

-- what can be left of what main does: no End is asked
abbrev OfMain : (A : Type 0) → Program Use Reply (Unit {0}) → Type 0
OfMain A x = (y : Program Wish Reply A) × (x ≡ main_of y)

module _ {A : Type 0} where
  of_main : (p : Program Wish Reply A) (rs : List Reply) → OfMain A (left (main_of p) rs)
  of_main p [] = (p, refl)
  of_main p (r ∷ rs) = on (of_main p rs)
    where
      inside : (x : Program Use Reply (Unit {0})) (y : Program Wish Reply A) → x ≡ main_of y → OfMain A (step x r)
      inside x (Return a) e = (Return a, ap (λ z. step z r) e)
      inside x (Ask q k) e = (k r, ap (λ z. step z r) e)

      on : OfMain A (left (main_of p) rs) → OfMain A (step (left (main_of p) rs) r)
      on (y, e) = inside (left (main_of p) rs) y e

  main_asks : (x : Program Use Reply (Unit {0})) (u : Use) (y : Program Wish Reply A) → x ≡ main_of y → next x [] ≡ Some u → is_end u ≡ false
  main_asks x u (Return a) e h = not_some (next x []) u (ap (λ z. next z []) e) h
  main_asks x u (Ask q k) e h = subst (λ v. is_end v ≡ false) (same_some (use_of q) u (sym (ap (λ z. next z []) e) ∙ h)) (no_end q)

  pub main_ends_last : (p : Program Wish Reply A) (m : List (Act (List ℕ) Use Reply)) (e : Act (List ℕ) Use Reply) (q : List (Act (List ℕ) Use Reply))
      → ((f : Act (List ℕ) Use Reply) (o : List (Act (List ℕ) Use Reply)) → Stage (f ∷ o) m → next_of (main_of p) (newest o) ≡ Some f.asked) → Stage (e ∷ q) m → is_end e.asked ≡ true → next_of (main_of p) (newest m) ≡ None
  main_ends_last p m e q h i b = let o = of_main p (newest q) in clash (is_end e.asked) b (main_asks (left (main_of p) (newest q)) e.asked o.0 o.1 (h e q i))

-- what can be left of what a task does: all of it, its work with the End behind it, or nothing
abbrev OfTask : Program Wish Reply Ended → Program Use Reply (Unit {0}) → Type 0
OfTask p x = (x ≡ task_of p) ⊎ (((y : Program Wish Reply Ended) × (x ≡ before ending y)) ⊎ (x ≡ Return tt))

of_task : (p : Program Wish Reply Ended) (rs : List Reply) → OfTask p (left (task_of p) rs)
of_task p [] = inl refl
of_task p (r ∷ rs) = on (left (task_of p) rs) (of_task p rs)
  where
    inside : (x : Program Use Reply (Unit {0})) (y : Program Wish Reply Ended) → x ≡ before ending y → OfTask p (step x r)
    inside x (Return o) e = inr (inr (ap (λ z. step z r) e))
    inside x (Ask q k) e = inr (inl (k r, ap (λ z. step z r) e))

    on : (x : Program Use Reply (Unit {0})) → OfTask p x → OfTask p (step x r)
    on x (inl e) = inr (inl (p, ap (λ z. step z r) e))
    on x (inr (inl (y, e))) = inside x y e
    on x (inr (inr e)) = inr (inr (ap (λ z. step z r) e))

-- after the End nothing is left
after_end : (p : Program Wish Reply Ended) (x : Program Use Reply (Unit {0})) (u : Use) (r : Reply) → OfTask p x → next x [] ≡ Some u → is_end u ≡ true → next (step x r) [] ≡ None
after_end p x u r (inl e) h b = clash (is_end asked.Begin) (subst (λ v. is_end v ≡ true) (sym (same_some asked.Begin u (sym (ap (λ z. next z []) e) ∙ h))) b) refl
after_end p x u r (inr (inl (Return o, e))) h b = ap (λ z. next (step z r) []) e
after_end p x u r (inr (inl (Ask q k, e))) h b = clash (is_end (use_of q)) (subst (λ v. is_end v ≡ true) (sym (same_some (use_of q) u (sym (ap (λ z. next z []) e) ∙ h))) b) (no_end q)
after_end p x u r (inr (inr e)) h b = not_some (next x []) u (ap (λ z. next z []) e) h

pub task_ends_last : (p : Program Wish Reply Ended) (m : List (Act (List ℕ) Use Reply)) (e : Act (List ℕ) Use Reply) (q : List (Act (List ℕ) Use Reply))
    → ((f : Act (List ℕ) Use Reply) (o : List (Act (List ℕ) Use Reply)) → Stage (f ∷ o) m → next_of (task_of p) (newest o) ≡ Some f.asked) → Stage (e ∷ q) m → is_end e.asked ≡ true → next_of (task_of p) (newest m) ≡ None
task_ends_last p [] e q h i b = nothing e q i
task_ends_last p (x ∷ m) e q h (inl i) b =
    let f : e ≡ x = cc in
    after_end p (left (task_of p) (newest m)) x.asked x.reply (of_task p (newest m)) (h x m (inl refl)) (subst (λ v. is_end v.asked ≡ true) f b)
task_ends_last p (x ∷ m) e q h (inr i) b = not_some (next_of (task_of p) (newest m)) x.asked (task_ends_last p m e q (λ f o j. h f o (inr j)) i b) (h x m (inl refl))
