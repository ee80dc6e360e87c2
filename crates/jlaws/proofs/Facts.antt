-- What the laws need of the desk and of programs, shown of the session's own.
use Rattle.std.proofs.Common.{◌≡◌, refl, sym, ap, subst, inl, inr, ◌∙◌, ◌<◌, ℕ, zero, suc, List, [], ◌∷◌, ◌++◌, Bool, true, false, cond, ◌&&◌, if◌then◌else◌, Option, Some, None, nat_lt, length}
use Rattle.std.proofs.lemmas.Bool.{ltb-true, lt-ltb}
use Rattle.jdata.specs.declared.fault.Fault.TheVariants.{Limit}
use Rattle.jdata.specs.declared.path.PyxId.{PyxId}
use Rattle.juses.specs.Activities.{Legal, Fits, WasStarted, task_of}
use Rattle.juses.specs.Agreeing.{AgreeBeside}
use Rattle.juses.specs.Desk.{State, first, reply, depends_on, bytes_of, may_start, most_tasks, start_reply, begin_reply, end_reply, task_reply, opened, left_tasks}
use Rattle.juses.specs.Entries.{pyx_of}
use Rattle.juses.specs.Histories.{after}
use Rattle.juses.specs.Keys.{Key, same, is_among, changes}
use Rattle.juses.specs.Program.{Program, main_of}
use Rattle.juses.specs.Wishes.{Wish}
use Rattle.juses.specs.declared.kept.Phase.{Phase}
use Rattle.juses.specs.declared.kept.Phase.TheVariants.{Waiting, Running, Over}
use Rattle.juses.specs.declared.uses.Ended.{Ended}
use Rattle.juses.specs.declared.uses.Entry.{Entry}
use Rattle.juses.specs.declared.uses.Use.{Use}
use Rattle.juses.specs.declared.uses.Use.TheVariants as asked
use Rattle.juses.specs.declared.uses.Reply.{Reply}
use Rattle.juses.specs.declared.uses.Reply.TheVariants as says
use Rattle.juses.specs.declared.uses.Work.{Work}
use Rattle.juses.proofs.KeyFacts.{replies_alike}
use Rattle.juses.proofs.Phases.{Good, same_is, same_self, some_reply, started_pyx, opened_was_new}
use Rattle.jlaws.specs.Quiet.{IsGranted, IsSilent}
use Rattle.jlaws.proofs.Logs.{Stage, tally}
use Rattle.jlaws.proofs.Setting.{Act, Setting, Facts, is_start}
use Rattle.jlaws.proofs.Stages.{clash, nothing}
use Rattle.jlaws.proofs.Programs.{newest, next_of, is_end, main_ends_last, task_ends_last}
use Rattle.jlaws.proofs.Sound.{sound}
use Rattle.jlaws.proofs.States.{act, acts, own_in, changed_in, at_by, Made, made_by, workers_after, ended_by}

-- what an activity works on: the script, or the work of its start
pub data Job : Type 0 where
  Main : Job
  Task : Work → Job

-- a pyx with the number 0 is a task's
abbrev task_at : ℕ → List ℕ → Option (List ℕ)
task_at zero path = Some path
task_at (suc n) path = None

abbrev pub opens_task : Use → Option (List ℕ)
opens_task (asked.Open pyx) = task_at pyx.number pyx.path
opens_task _ = None

abbrev with_job : Work → Option (List ℕ) → Option (List ℕ × Job)
with_job work (Some path) = Some (path, Task work)
with_job work None = None

-- the task that an entry starts, with its work
abbrev pub starting : Use → Reply → Option (List ℕ × Job)
starting (asked.Start pool work) (says.Pyx pyx) = with_job work (task_at pyx.number pyx.path)
starting _ _ = None

abbrev pub IsTame : List ℕ → Use → Reply → Type 0
IsTame who u r = IsGranted u r × IsSilent who u

-- ---- starts

abbrev pair_path : Option (List ℕ × Job) → List ℕ → List ℕ
pair_path (Some z) t = z.0
pair_path None t = t

abbrev pair_job : Option (List ℕ × Job) → Job → Job
pair_job (Some z) j = z.1
pair_job None j = j

task_at_is : (n : ℕ) (path : List ℕ) (work : Work) (t : List ℕ) (j : Job) → with_job work (task_at n path) ≡ Some (t, j) → (n ≡ 0) × (path ≡ t) × (j ≡ Task work)
task_at_is zero path work t j e = (refl, ap (λ o. pair_path o t) e, sym (ap (λ o. pair_job o j) e))
task_at_is (suc n) path work t j e = cc

pub record Start (u : Use) (r : Reply) (t : List ℕ) (j : Job) : Type 0 where
  pub pool : ℕ
  pub work : Work
  pub asks : u ≡ asked.Start pool work
  pub given : r ≡ says.Pyx (pyx_of t)
  pub job : j ≡ Task work

pub start_is : (u : Use) (r : Reply) (t : List ℕ) (j : Job) → starting u r ≡ Some (t, j) → Start u r t j
start_is (asked.Start pool work) (says.Pyx pyx) t j e =
    let is = task_at_is pyx.number pyx.path work t j e in
    record { pool = pool; work = work; asks = refl; given = λ i. says.Pyx (record { path = is.1 i; number = is.0 i }); job = is.2 }
start_is u r t j e = cc

pub starting_is : (pool : ℕ) (work : Work) (t : List ℕ) (u : Use) (r : Reply) → u ≡ asked.Start pool work → r ≡ says.Pyx (pyx_of t) → starting u r ≡ Some (t, Task work)
starting_is pool work t u r a b = λ i. starting (a i) (b i)

-- what a Start that is answered with a pyx says of the state
started_room : (b c : Bool) (p : List ℕ) (pyx : PyxId) → (if b && c then says.Pyx (pyx_of p) else says.Refused Limit) ≡ says.Pyx pyx → b ≡ true
started_room true c p pyx e = refl
started_room false c p pyx e = cc

module _ (s : State) (who : List ℕ) (th : ℕ) where
  abbrev child : List ℕ
  child = who ++ suc (s.tasks_of who) ∷ []

  start_given : (pool : ℕ) (work : Work) (t : List ℕ) → reply s who th (asked.Start pool work) ≡ Some (says.Pyx (pyx_of t)) → (t ≡ child) × (length s.tasks < most_tasks)
  start_given pool work t e =
      let is : start_reply s.tasks (s.tasks_of who) who ≡ says.Pyx (pyx_of t) = some_reply e in
      let path : pyx_of child ≡ pyx_of t = started_pyx (may_start s.tasks who) child (pyx_of t) is in
      (sym (ap (λ (p : PyxId). p.path) path), ltb-true (length s.tasks) most_tasks (started_room (nat_lt (length s.tasks) most_tasks) (nat_lt (length who) 4) child (pyx_of t) is))

  pub start_said : (u : Use) (r : Reply) (t : List ℕ) (j : Job) → reply s who th u ≡ Some r → starting u r ≡ Some (t, j) → (t ≡ child) × (length s.tasks < most_tasks)
  start_said u r t j said e =
      let is = start_is u r t j e in
      start_given is.pool is.work t (subst (λ v. reply s who th v ≡ Some (says.Pyx (pyx_of t))) is.asks (subst (λ x. reply s who th u ≡ Some x) is.given said))

length-last : (l : List (List ℕ)) (x : List ℕ) → length (l ++ x ∷ []) ≡ suc (length l)
length-last [] x = refl
length-last (y ∷ l) x = ap suc (length-last l x)

-- the number of the tasks is that of the entries that started one
count_on : (u : Use) (r : Reply) (ts : List (List ℕ)) (p : Option (List ℕ × Job)) → starting u r ≡ p → (s : State) (who : List ℕ) (th : ℕ) → reply s who th u ≡ Some r → length (left_tasks u r ts) ≡ elim p [ None ↦ length ts | Some z ↦ suc (length ts) ]
count_on (asked.Start pool work) (says.Pyx pyx) ts p e s who th said =
    let is : start_reply s.tasks (s.tasks_of who) who ≡ says.Pyx pyx = some_reply said in
    let path : pyx_of (who ++ suc (s.tasks_of who) ∷ []) ≡ pyx = started_pyx (may_start s.tasks who) (who ++ suc (s.tasks_of who) ∷ []) pyx is in
    let given : Some (who ++ suc (s.tasks_of who) ∷ [], Task work) ≡ p = ap (λ (q : PyxId). with_job work (task_at q.number q.path)) path ∙ e in
    subst (λ q. length (ts ++ pyx.path ∷ []) ≡ elim q [ None ↦ length ts | Some z ↦ suc (length ts) ]) given (length-last ts pyx.path)
count_on u r ts p e s who th said = ap (λ q. elim q [ None ↦ length ts | Some z ↦ suc (length ts) ]) e

depends_same : (s t : State) (u : Use) → depends_on s u ≡ depends_on t u
depends_same s t (asked.Read from name) = refl
depends_same s t (asked.Write place name value) = refl
depends_same s t (asked.Print bytes) = refl
depends_same s t (asked.Start pool work) = refl
depends_same s t asked.Begin = refl
depends_same s t (asked.End outcome) = refl
depends_same s t (asked.Open pyx) = refl
depends_same s t asked.MakePyx = refl
depends_same s t (asked.SetPyx pyx outcome) = refl
depends_same s t asked.MakeMutex = refl
depends_same s t (asked.Lock mutex) = refl
depends_same s t (asked.Unlock mutex) = refl
depends_same s t (asked.MakeThread pool) = refl
depends_same s t asked.Threads = refl
depends_same s t (asked.PoolState pool) = refl
depends_same s t asked.Current = refl

-- whether a use depends on a key, in whichever state
abbrev pub depends : Use → Key → Bool
depends u k = is_among (depends_on (first 0) u) k

pub depends_is : (s : State) (u : Use) (k : Key) → depends u k ≡ is_among (depends_on s u) k
depends_is s u k = ap (λ l. is_among l k) (depends_same (first 0) s u)

-- ---- replies

begun_done : (p : Option Phase) (r : Reply) → begin_reply p ≡ Some r → r ≡ says.Done
begun_done (Some (Waiting pool work)) r e = sym (some_reply e)
begun_done (Some (Running pool th)) r e = cc
begun_done (Some (Over o)) r e = cc
begun_done None r e = cc

ended_done : (p : Option Phase) (r : Reply) → end_reply p ≡ Some r → r ≡ says.Done
ended_done (Some (Waiting pool work)) r e = cc
ended_done (Some (Running pool th)) r e = sym (some_reply e)
ended_done (Some (Over o)) r e = cc
ended_done None r e = cc

-- an Open of a task's pyx shows how the task ended
pub task_opened : (p : Option Phase) (r : Reply) → task_reply p ≡ Some r → (o : Ended) × (p ≡ Some (Over o)) × (r ≡ opened o)
task_opened (Some (Waiting pool work)) r e = cc
task_opened (Some (Running pool th)) r e = cc
task_opened (Some (Over o)) r e = (o, refl, sym (some_reply e))
task_opened None r e = cc

-- a Start that isn't refused was given a task
granted : (b c : Bool) (p : List ℕ) (pool : ℕ) (work : Work) (r : Reply) → (if b && c then says.Pyx (pyx_of p) else says.Refused Limit) ≡ r → IsGranted (asked.Start pool work) r → (b ≡ true) × (r ≡ says.Pyx (pyx_of p))
granted true true p pool work r e g = (refl, sym e)
granted true false p pool work r e g = absurd (subst (IsGranted (asked.Start pool work)) (sym e) g)
granted false c p pool work r e g = absurd (subst (IsGranted (asked.Start pool work)) (sym e) g)

-- two states that agree in these give the same reply
module _ (s t : State) (who : List ℕ) (th th' : ℕ) where
  abbrev Keys : Use → Type 0
  Keys u = (k : Key) → depends u k ≡ true → s.at k ≡ t.at k

  abbrev Said : Use → Reply → Reply → Type 0
  Said u r r' = (reply s who th u ≡ Some r) × (reply t who th' u ≡ Some r')

  plainly : (u : Use) (r r' : Reply) → Keys u → Said u r r' → AgreeBeside s t who th th' u → r ≡ r'
  plainly u r r' keys said a = some_reply (sym said.0 ∙ (replies_alike s t who th th' u (λ k among. keys k (depends_is s u k ∙ among)) a ∙ said.1))

  start_alike : (pool : ℕ) (work : Work) (r r' : Reply) → Keys (asked.Start pool work) → Said (asked.Start pool work) r r' → IsGranted (asked.Start pool work) r' → Made who s t
      → ((x : List ℕ) (j : Job) → starting (asked.Start pool work) r' ≡ Some (x, j) → length s.tasks < most_tasks) → r ≡ r'
  start_alike pool work r r' keys said g made room =
      let path : List ℕ = who ++ suc (t.tasks_of who) ∷ [] in
      let given = granted (nat_lt (length t.tasks) most_tasks) (nat_lt (length who) 4) path pool work r' (some_reply said.1) g in
      let here : nat_lt (length s.tasks) most_tasks ≡ true = lt-ltb (length s.tasks) most_tasks (room path (Task work) (starting_is pool work path (asked.Start pool work) r' refl given.1)) in
      plainly (asked.Start pool work) r r' keys said (made.tasks, here ∙ sym given.0)

  abbrev Outcomes : Use → Type 0
  Outcomes u = (x : List ℕ) → opens_task u ≡ Some x → (o p : Ended) → s.phase x ≡ Some (Over o) → t.phase x ≡ Some (Over p) → o ≡ p

  open_alike : (path : List ℕ) (n : ℕ) (r r' : Reply) → Keys (asked.Open (record { path = path; number = n })) → Said (asked.Open (record { path = path; number = n })) r r' → Outcomes (asked.Open (record { path = path; number = n })) → r ≡ r'
  open_alike path zero r r' keys said same_end =
      let one = task_opened (s.phase path) r said.0 in
      let two = task_opened (t.phase path) r' said.1 in
      one.2 ∙ (ap opened (same_end path refl one.0 two.0 one.1 two.1) ∙ sym two.2)
  open_alike path (suc n) r r' keys said same_end = plainly (asked.Open (record { path = path; number = suc n })) r r' keys said tt

  -- main's thread is 0
  current : (x : List ℕ) → IsSilent x asked.Current → (x ≡ [] → th ≡ th') → th ≡ th'
  current [] quiet same_thread = same_thread refl
  current (k ∷ path) quiet same_thread = absurd quiet

  no_pool : (x : List ℕ) (pool : ℕ) → IsSilent x (asked.PoolState pool) → ⊥
  no_pool [] pool h = h
  no_pool (k ∷ path) pool h = h

  pub agree : (u : Use) (r r' : Reply) → Said u r r' → IsTame who u r' → (who ≡ [] → th ≡ th') → Keys u → Made who s t → s.workers ≡ t.workers → Outcomes u
      → ((x : List ℕ) (j : Job) → starting u r' ≡ Some (x, j) → length s.tasks < most_tasks) → r ≡ r'
  agree (asked.Start pool work) r r' said tame main keys made w ends room = start_alike pool work r r' keys said tame.0 made room
  agree asked.Begin r r' said tame main keys made w ends room = begun_done (s.phase who) r said.0 ∙ sym (begun_done (t.phase who) r' said.1)
  agree (asked.End o) r r' said tame main keys made w ends room = ended_done (s.phase who) r said.0 ∙ sym (ended_done (t.phase who) r' said.1)
  agree (asked.Open pyx) r r' said tame main keys made w ends room = open_alike pyx.path pyx.number r r' keys said ends
  agree asked.MakePyx r r' said tame main keys made w ends room = plainly asked.MakePyx r r' keys said made.pyxes
  agree asked.MakeMutex r r' said tame main keys made w ends room = plainly asked.MakeMutex r r' keys said made.mutexes
  agree (asked.MakeThread pool) r r' said tame main keys made w ends room = plainly (asked.MakeThread pool) r r' keys said w
  agree (asked.PoolState pool) r r' said tame main keys made w ends room = absurd (no_pool who pool tame.1)
  agree asked.Current r r' said tame main keys made w ends room = plainly asked.Current r r' keys said (current who tame.1 main)
  agree (asked.Read from name) r r' said tame main keys made w ends room = plainly (asked.Read from name) r r' keys said tt
  agree (asked.Write place name value) r r' said tame main keys made w ends room = plainly (asked.Write place name value) r r' keys said tt
  agree (asked.Print bytes) r r' said tame main keys made w ends room = plainly (asked.Print bytes) r r' keys said tt
  agree (asked.SetPyx pyx o) r r' said tame main keys made w ends room = plainly (asked.SetPyx pyx o) r r' keys said tt
  agree (asked.Lock mutex) r r' said tame main keys made w ends room = plainly (asked.Lock mutex) r r' keys said tt
  agree (asked.Unlock mutex) r r' said tame main keys made w ends room = plainly (asked.Unlock mutex) r r' keys said tt
  agree asked.Threads r r' said tame main keys made w ends room = plainly asked.Threads r r' keys said tt

pub no_task_prints : (who : List ℕ) (u : Use) (r : Reply) → IsTame who u r → same [] who ≡ false → bytes_of u ≡ []
no_task_prints [] (asked.Print bytes) r h n = clash true refl n
no_task_prints (k ∷ path) (asked.Print bytes) r h n = absurd h.1
no_task_prints who u r h n = refl

-- ---- the facts

module _ {A : Type 0} (meaning : Work → Program Wish Reply Ended) (script : Program Wish Reply A) where
  abbrev pub program_of : Job → Program Use Reply (Unit {0})
  program_of Main = main_of script
  program_of (Task work) = task_of (meaning work)

  abbrev pub session : Setting
  session = record {
    Path = List ℕ;
    Use = Use;
    Reply = Reply;
    Work = Job;
    Key = Key;
    main = [];
    same = same;
    script = Main;
    next = λ w l. next_of (program_of w) (newest l);
    starts = λ e. starting e.asked e.reply;
    ends = is_end;
    opens = opens_task;
    depends = depends;
    changes = λ e k. changes e.asked e.reply k;
    printed = bytes_of;
    Tame = λ e. IsTame e.who e.asked e.reply;
    limit = most_tasks;
  }

  ends_last : (w : Job) (m : List (Act (List ℕ) Use Reply)) (e : Act (List ℕ) Use Reply) (q : List (Act (List ℕ) Use Reply))
      → ((f : Act (List ℕ) Use Reply) (o : List (Act (List ℕ) Use Reply)) → Stage (f ∷ o) m → next_of (program_of w) (newest o) ≡ Some f.asked) → Stage (e ∷ q) m → is_end e.asked ≡ true → next_of (program_of w) (newest m) ≡ None
  ends_last Main m e q h i b = main_ends_last script m e q h i b
  ends_last (Task work) m e q h i b = task_ends_last (meaning work) m e q h i b

  module _ (workers : ℕ) where
    -- the entries are those of a legal history, threads aside
    abbrev pub LegalActs : List (Act (List ℕ) Use Reply) → Type 0
    LegalActs l = (h : List Entry) × Legal workers h × (acts h ≡ l)

    -- the newest of them is an entry of it
    abbrev Newest : Act (List ℕ) Use Reply → List (Act (List ℕ) Use Reply) → Type 0
    Newest e p = (x : Entry) × (h : List Entry) × Legal workers (x ∷ h) × (act x ≡ e) × (acts h ≡ p)

    newest_of : (e : Act (List ℕ) Use Reply) (p : List (Act (List ℕ) Use Reply)) → LegalActs (e ∷ p) → Newest e p
    newest_of e p ([], l, b) = nothing e p (sym b)
    newest_of e p (x ∷ h, l, b) = (x, h, l, cc, cc)

    earlier : (e : Act (List ℕ) Use Reply) (p : List (Act (List ℕ) Use Reply)) → LegalActs (e ∷ p) → LegalActs p
    earlier e p d = let n = newest_of e p d in (n.1, n.2.0, n.4)

    never_main : (e : Act (List ℕ) Use Reply) (p : List (Act (List ℕ) Use Reply)) (t : List ℕ) (w : Job) → LegalActs (e ∷ p) → starting e.asked e.reply ≡ Some (t, w) → same [] t ≡ false
    never_main e p t w d b =
        let n = newest_of e p d in
        let x : Entry = n.0 in
        let said : starting x.asked x.reply ≡ Some (t, w) = subst (λ (z : Act (List ℕ) Use Reply). starting z.asked z.reply ≡ Some (t, w)) (sym n.3) b in
        let is = (start_said (after workers n.1) x.who x.thread x.asked x.reply t w n.2.2 said).0 in
        subst (λ z. same [] z ≡ false) (sym is) (not_empty x.who (suc ((after workers n.1).tasks_of x.who)))
      where
        not_empty : (l : List ℕ) (n : ℕ) → same [] (l ++ n ∷ []) ≡ false
        not_empty [] n = refl
        not_empty (m ∷ l) n = refl

    -- a task of which a start stands in the history was started with that work
    pub started_in : (s : Act (List ℕ) Use Reply) (q : List (Act (List ℕ) Use Reply)) (h : List Entry) (t : List ℕ) (w : Job) → Stage (s ∷ q) (acts h) → starting s.asked s.reply ≡ Some (t, w) → (work : Work) × (w ≡ Task work) × WasStarted h t work
    started_in s q [] t w i b = nothing s q i
    started_in s q (x ∷ h) t w (inl i) b =
        let same_act : s ≡ act x = cc in
        let is = start_is x.asked x.reply t w (subst (λ (z : Act (List ℕ) Use Reply). starting z.asked z.reply ≡ Some (t, w)) same_act b) in
        (is.work, is.job, inl (is.pool, is.asks, is.given))
    started_in s q (x ∷ h) t w (inr i) b = let is = started_in s q h t w i b in (is.0, is.1, inr is.2)

    starts_once : (e s : Act (List ℕ) Use Reply) (p q : List (Act (List ℕ) Use Reply)) (t : List ℕ) (v w : Job) → LegalActs (e ∷ p) → Stage (s ∷ q) p → starting e.asked e.reply ≡ Some (t, v) → starting s.asked s.reply ≡ Some (t, w) → ⊥
    starts_once e s p q t v w d i b c =
        let n = newest_of e p d in
        let x : Entry = n.0 in
        let h : List Entry = n.1 in
        let is = start_is x.asked x.reply t v (subst (λ (z : Act (List ℕ) Use Reply). starting z.asked z.reply ≡ Some (t, v)) (sym n.3) b) in
        let g : Good workers h = (sound workers h n.2.0).good in
        let was = started_in s q h t w (subst (λ z. Stage (s ∷ q) z) (sym n.4) i) c in
        g.known t was.0 was.2 (opened_was_new workers h x g n.2.2 t is.pool is.work is.asks is.given)

    count : (h : List Entry) → Legal workers h → length (after workers h).tasks ≡ tally (is_start session) (acts h)
    count [] l = refl
    count (e ∷ h) l = on (starting e.asked e.reply) refl (count h l.0)
      where
        on : (p : Option (List ℕ × Job)) → starting e.asked e.reply ≡ p → length (after workers h).tasks ≡ tally (is_start session) (acts h) → length (after workers (e ∷ h)).tasks ≡ tally (is_start session) (acts (e ∷ h))
        on None b rest = count_on e.asked e.reply (after workers h).tasks None b (after workers h) e.who e.thread l.2 ∙ (rest ∙ sym (counts b))
          where
            counts : starting e.asked e.reply ≡ None → tally (is_start session) (acts (e ∷ h)) ≡ tally (is_start session) (acts h)
            counts b = ap (λ (p : Option (List ℕ × Job)). cond (elim p [ None ↦ false | Some z ↦ true ]) (suc (tally (is_start session) (acts h))) (tally (is_start session) (acts h))) b
        on (Some z) b rest = count_on e.asked e.reply (after workers h).tasks (Some z) b (after workers h) e.who e.thread l.2 ∙ (ap suc rest ∙ sym (counts b))
          where
            counts : starting e.asked e.reply ≡ Some z → tally (is_start session) (acts (e ∷ h)) ≡ suc (tally (is_start session) (acts h))
            counts b = ap (λ (p : Option (List ℕ × Job)). cond (elim p [ None ↦ false | Some y ↦ true ]) (suc (tally (is_start session) (acts h))) (tally (is_start session) (acts h))) b

    room : (e : Act (List ℕ) Use Reply) (p : List (Act (List ℕ) Use Reply)) (t : List ℕ) (w : Job) → LegalActs (e ∷ p) → starting e.asked e.reply ≡ Some (t, w) → tally (is_start session) p < most_tasks
    room e p t w d b =
        let n = newest_of e p d in
        let x : Entry = n.0 in
        let said : starting x.asked x.reply ≡ Some (t, w) = subst (λ (z : Act (List ℕ) Use Reply). starting z.asked z.reply ≡ Some (t, w)) (sym n.3) b in
        let few = (start_said (after workers n.1) x.who x.thread x.asked x.reply t w n.2.2 said).1 in
        subst (λ z. tally (is_start session) z < most_tasks) n.4 (subst (λ z. z < most_tasks) (count n.1 n.2.0) few)

    -- ---- a reply is by the asker's own entries, by the changes of the keys that the use depends on, and by the End of
    -- the task that it opens

    abbrev SameReply : Act (List ℕ) Use Reply → Act (List ℕ) Use Reply → List (Act (List ℕ) Use Reply) → List (Act (List ℕ) Use Reply) → Type 0
    SameReply e f p q = IsTame f.who f.asked f.reply → e.who ≡ f.who → e.asked ≡ f.asked → own_in e.who p ≡ own_in f.who q
        → ((k : Key) → depends f.asked k ≡ true → changed_in k p ≡ changed_in k q)
        → ((t : List ℕ) → opens_task f.asked ≡ Some t → (x y : Act (List ℕ) Use Reply) (i j : List (Act (List ℕ) Use Reply)) → Stage (x ∷ i) (own_in t p) → Stage (y ∷ j) (own_in t q) → is_end x.asked ≡ true → is_end y.asked ≡ true → x.asked ≡ y.asked)
        → ((t : List ℕ) (w : Job) → starting f.asked f.reply ≡ Some (t, w) → tally (is_start session) p < most_tasks)
        → e.reply ≡ f.reply

    end_is : (o p : Ended) → asked.End o ≡ asked.End p → o ≡ p
    end_is o p e = ap (λ u. outcome_in u o) e
      where
        outcome_in : Use → Ended → Ended
        outcome_in (asked.End x) d = x
        outcome_in _ d = d

    main_thread : (h : List Entry) (who : List ℕ) (th : ℕ) (u : Use) → Fits workers h who th u → who ≡ [] → th ≡ 0
    main_thread h [] th u f is = f
    main_thread h (k ∷ path) th u f is = cc

    module _ (x y : Entry) (h g : List Entry) (l : Legal workers (x ∷ h)) (m : Legal workers (y ∷ g)) where
      same_reply : SameReply (act x) (act y) (acts h) (acts g)
      same_reply tame who asks owns keys opens few =
          agree (after workers h) (after workers g) y.who x.thread y.thread y.asked x.reply y.reply said tame main (λ k dep. at_by workers k h g (keys k dep)) made alike ends (λ t w b. subst (λ z. z < most_tasks) (sym (count h l.0)) (few t w b))
        where
          said : (reply (after workers h) y.who x.thread y.asked ≡ Some x.reply) × (reply (after workers g) y.who y.thread y.asked ≡ Some y.reply)
          said = (subst (λ a. reply (after workers h) a x.thread y.asked ≡ Some x.reply) who (subst (λ u. reply (after workers h) x.who x.thread u ≡ Some x.reply) asks l.2), m.2)

          main : y.who ≡ [] → x.thread ≡ y.thread
          main is = main_thread h x.who x.thread x.asked l.1 (who ∙ is) ∙ sym (main_thread g y.who y.thread y.asked m.1 is)

          made : Made y.who (after workers h) (after workers g)
          made = made_by workers y.who h g (subst (λ a. own_in a (acts h) ≡ own_in y.who (acts g)) who owns)

          alike : (after workers h).workers ≡ (after workers g).workers
          alike = workers_after workers h ∙ sym (workers_after workers g)

          ends : (t : List ℕ) → opens_task y.asked ≡ Some t → (o p : Ended) → (after workers h).phase t ≡ Some (Over o) → (after workers g).phase t ≡ Some (Over p) → o ≡ p
          ends t b o p e f =
              let one = ended_by workers t o h l.0 e in
              let two = ended_by workers t p g m.0 f in
              let a : is_end (one.0).asked ≡ true = ap is_end one.3 in
              let c : is_end (two.0).asked ≡ true = ap is_end two.3 in
              end_is o p (sym one.3 ∙ (opens t b one.0 two.0 one.1 two.1 one.2 two.2 a c ∙ two.3))

    replies : (e f : Act (List ℕ) Use Reply) (p q : List (Act (List ℕ) Use Reply)) → LegalActs (e ∷ p) → LegalActs (f ∷ q) → SameReply e f p q
    replies e f p q d c =
        let n = newest_of e p d in
        let m = newest_of f q c in
        let base : SameReply (act n.0) (act m.0) (acts n.1) (acts m.1) = same_reply n.0 m.0 n.1 m.1 n.2 m.2 in
        subst (λ z. SameReply e f p z) m.4 (subst (λ z. SameReply e f z (acts m.1)) n.4 (subst (λ z. SameReply e z (acts n.1) (acts m.1)) m.3 (subst (λ z. SameReply z (act m.0) (acts n.1) (acts m.1)) n.3 base)))

    pub facts : Facts session LegalActs
    facts = record {
      same_true = same_is;
      same_refl = same_self;
      earlier = earlier;
      never_main = never_main;
      starts_once = starts_once;
      room = room;
      ends_last = ends_last;
      tasks_print_nothing = λ e h n. no_task_prints e.who e.asked e.reply h n;
      replies = replies;
    }
