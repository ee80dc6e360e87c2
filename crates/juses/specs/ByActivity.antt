-- What is told, taken activity by activity.
use Rattle.std.specs.Prelude.{◌≡◌, ◌≢◌, ◌⊎◌, ◌≤◌, ℕ, suc, nat_eq, List, [], ◌∷◌, ◌++◌, if◌then◌else◌, Result, Ok, Err}
use Rattle.juses.specs.Activities.{task_of, Works}
use Rattle.juses.specs.Doings.{no_use}
use Rattle.juses.specs.OldestFirst.{history}
use Rattle.juses.specs.Keys.{same}
use Rattle.juses.specs.Program.{Program, Return, Ask, before}
use Rattle.juses.specs.Told.{Told, Replied, Handed, NoneDue}
use Rattle.juses.specs.Wishes.{Wish}
use Rattle.juses.specs.declared.uses.Entry.{Entry}
use Rattle.juses.specs.declared.uses.Halt.{Halt}
use Rattle.juses.specs.declared.uses.Ended.{Ended}
use Rattle.juses.specs.declared.uses.Reply.{Reply}
use Rattle.juses.specs.declared.uses.Reply.TheVariants.{Done}
use Rattle.juses.specs.declared.uses.Use.{Use}
use Rattle.juses.specs.declared.uses.Use.TheVariants.{Begin}
use Rattle.juses.specs.declared.uses.Work.{Work}

-- what an activity asked, with the replies, the oldest in front
abbrev pub trace : List ℕ → List Told → List (Use × Reply)
trace who [] = []
trace who (Replied e ∷ xs) = if same who e.who then (e.asked, e.reply) ∷ trace who xs else trace who xs
trace who (Handed why task thread work ∷ xs) = if same who task then (Begin, Done) ∷ trace who xs else trace who xs
trace who (NoneDue why ∷ xs) = trace who xs

-- how often a task was handed out
abbrev pub times : List ℕ → List Told → ℕ
times who [] = 0
times who (Replied e ∷ xs) = times who xs
times who (Handed why task thread work ∷ xs) = if same who task then suc (times who xs) else times who xs
times who (NoneDue why ∷ xs) = times who xs

-- a task was handed out with this work
abbrev pub WasHanded : List ℕ → Work → List Told → Type 0
WasHanded who work [] = ⊥
WasHanded who work (Replied e ∷ xs) = WasHanded who work xs
WasHanded who work (Handed why task thread w ∷ xs) = ((who ≡ task) × (work ≡ w)) ⊎ WasHanded who work xs
WasHanded who work (NoneDue why ∷ xs) = WasHanded who work xs

-- with these replies the program asks just these uses, and this is left of it
abbrev pub Leaves : {Q R A : Type 0} → Program Q R A → List (Q × R) → Program Q R A → Type 0
Leaves p [] rest = p ≡ rest
Leaves (Return a) (x ∷ xs) rest = ⊥
Leaves (Ask q k) (x ∷ xs) rest = (x.0 ≡ q) × Leaves (k x.1) xs rest

-- all of it up to an answer; up to a halt, a part
abbrev pub LeavesBy : {A : Type 0} → (A → Program Use Reply (Unit {0})) → Program Use Reply (Unit {0}) → List (Use × Reply) → Result A Halt → Type 0
LeavesBy f p xs (Ok a) = Leaves p xs (f a)
LeavesBy f p xs (Err halt) = (rest : Program Use Reply (Unit {0})) × Leaves p xs rest

-- a task's uses: all up to its End, or after a halt a part
abbrev pub TaskBy : {A : Type 0} → (Work → Program Wish Reply Ended) → Work → List (Use × Reply) → Result A Halt → Type 0
TaskBy meaning work xs (Ok a) = Leaves (task_of (meaning work)) xs (Return tt)
TaskBy meaning work xs (Err halt) = (rest : Program Use Reply (Unit {0})) × Leaves (task_of (meaning work)) xs rest

-- The uses of the activity itself are its program's, those of each task that was handed out are its work's, and no other
-- activity has any. No task is handed out twice here, nor is the activity itself.
pub record ByActivity {A : Type 0} (meaning : Work → Program Wish Reply Ended) (who : List ℕ) (f : A → Program Use Reply (Unit {0})) (p : Program Wish Reply A) (xs : List Told) (r : Result A Halt) : Type 0 where
  pub its_own : times who xs ≡ 0 → LeavesBy f (before f p) (trace who xs) r
  pub of_tasks : (x : List ℕ) → x ≢ who → times x xs ≡ 1 → (work : Work) × WasHanded x work xs × TaskBy meaning work (trace x xs) r
  pub of_others : (x : List ℕ) → x ≢ who → times x xs ≡ 0 → trace x xs ≡ []

-- ---- of a whole history, the newest entry in front

-- what an activity asked in it, with the replies, the oldest in front
abbrev pub trace_of : List ℕ → List Entry → List (Use × Reply)
trace_of x [] = []
trace_of x (e ∷ h) = if same x e.who then trace_of x h ++ (e.asked, e.reply) ∷ [] else trace_of x h

module _ {A : Type 0} (meaning : Work → Program Wish Reply Ended) (script : Program Wish Reply A) where
  -- wherever an entry of the activity stands, it ran this program by then
  abbrev pub WorksAlong : List ℕ → Program Use Reply (Unit {0}) → List Entry → Type 0
  WorksAlong x p [] = Unit {0}
  WorksAlong x p (e ∷ h) = WorksAlong x p h × (e.who ≡ x → Works meaning script h x p)

  -- the activity's entries are its program's, from its start on
  abbrev pub FaithfulIn : List ℕ → List Entry → Type 0
  FaithfulIn x h = (trace_of x h ≡ []) ⊎ ((p : Program Use Reply (Unit {0})) × WorksAlong x p h × (rest : Program Use Reply (Unit {0})) × Leaves p (trace_of x h) rest)

-- ---- of several passes

-- the lists, with this one in this place
abbrev pub with_list : (ℕ → List Entry) → ℕ → List Entry → ℕ → List Entry
with_list f i l j = if nat_eq i j then l else f j

-- the history is made of these lists, each in its order
abbrev pub Mixed : (ℕ → List Entry) → List Entry → Type 0
Mixed f [] = (i : ℕ) → f i ≡ []
Mixed f (e ∷ h) = (i : ℕ) × (rest : List Entry) × (f i ≡ e ∷ rest) × Mixed (with_list f i rest) h

-- What passes did together: each told this. Pass 0 ran main; each other ran tasks alone, and asked nothing of its own.
-- A task was handed out at most once and by one pass, and where its entries stand it had been started with the work that
-- was handed out.
pub record Together {A : Type 0} (meaning : Work → Program Wish Reply Ended) (script : Program Wish Reply A) (told : ℕ → List Told) (h : List Entry) : Type 0 where
  pub mixed : Mixed (λ i. history (told i)) h
  pub main : (r : Result A Halt) × ByActivity meaning [] (λ a. Return tt) script (told 0) r
  pub workers : (i : ℕ) → i ≢ 0 → (r : Result (Unit {0}) Halt) × ByActivity meaning [] (λ done. Return tt) no_use (told i) r
  pub no_main : (i : ℕ) → times [] (told i) ≡ 0
  pub once : (x : List ℕ) → x ≢ [] → (i : ℕ) × (times x (told i) ≤ 1) × ((j : ℕ) → j ≢ i → times x (told j) ≡ 0)
  pub started : (i : ℕ) (x : List ℕ) (work : Work) → WasHanded x work (told i) → WorksAlong meaning script x (task_of (meaning work)) h
