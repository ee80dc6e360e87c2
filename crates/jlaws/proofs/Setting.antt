-- What the laws speak of: activities, their programs, a desk, and logs of what was asked and replied.
use Rattle.std.specs.Prelude.{List, [], ◌∷◌, ◌≡◌, ◌⊎◌, ◌++◌, Bool, true, false, Option, Some, None, ℕ, ◌<◌}
use Rattle.jlaws.proofs.Logs.{keep, Stage, tally}

-- an entry of a history, its thread aside
pub record Act (Path Use Reply : Type 0) : Type 0 where
  pub who : Path
  pub asked : Use
  pub reply : Reply

pub record Setting : Type 1 where
  pub Path : Type 0
  pub Use : Type 0
  pub Reply : Type 0
  pub Work : Type 0
  pub Key : Type 0
  pub main : Path
  pub same : Path → Path → Bool
  -- main's work
  pub script : Work
  -- the first use for which no reply is left, after these entries of the activity
  pub next : Work → List (Act Path Use Reply) → Option Use
  -- the task that an entry starts, with its work
  pub starts : Act Path Use Reply → Option (Path × Work)
  -- whether the use is an End
  pub ends : Use → Bool
  -- the task whose pyx the use opens
  pub opens : Use → Option Path
  pub depends : Use → Key → Bool
  pub changes : Act Path Use Reply → Key → Bool
  pub printed : Use → List ℕ
  -- a one-thread run with this entry may be quiet
  pub Tame : Act Path Use Reply → Type 0
  -- how many tasks can be started
  pub limit : ℕ

module _ (D : Setting) where
  abbrev pub Entry : Type 0
  Entry = Act D.Path D.Use D.Reply

  abbrev pub Log : Type 0
  Log = List (Act D.Path D.Use D.Reply)

  -- the entries of an activity
  abbrev pub own : D.Path → Log → Log
  own a = keep (λ e. D.same a e.who)

  -- the entries that change a key
  abbrev pub changed : D.Key → Log → Log
  changed k = keep (λ e. D.changes e k)

  -- `w` is the work of the activity `a`
  abbrev pub Works : D.Path → D.Work → Log → Type 0
  Works a w l = ((a ≡ D.main) × (w ≡ D.script)) ⊎ ((s : Entry) × (p : Log) × Stage (s ∷ p) l × (D.starts s ≡ Some (a, w)))

  -- each entry's use is the next of its activity
  abbrev pub Faithful : Log → Type 0
  Faithful [] = Unit {0}
  Faithful (e ∷ l) = Faithful l × ((w : D.Work) × Works e.who w l × (D.next w (own e.who l) ≡ Some e.asked))

  -- main has nothing left to ask, and each task that was started has ended
  abbrev pub Complete : Log → Type 0
  Complete l = (D.next D.script (own D.main l) ≡ None) × ((s : Entry) (p : Log) (t : D.Path) (w : D.Work) → Stage (s ∷ p) l → D.starts s ≡ Some (t, w) → (e : Entry) × (q : Log) × Stage (e ∷ q) (own t l) × (D.ends e.asked ≡ true))

  -- whether an entry starts a task
  abbrev pub is_start : Entry → Bool
  is_start e = elim (D.starts e) [ None ↦ false | Some t ↦ true ]

  -- what was printed, in order
  abbrev pub prints : Log → List ℕ
  prints [] = []
  prints (e ∷ l) = prints l ++ D.printed e.asked

  -- what one activity does by `f` can't be seen by another that does `e`
  abbrev pub Apart : Entry → Entry → Type 0
  Apart e f = (k : D.Key) → D.depends e.asked k ≡ true → D.changes f k ≡ true → ⊥

  pub record Quiet (r : Log) : Type 0 where
    pub tame : (e : Entry) (p : Log) → Stage (e ∷ p) r → D.Tame e
    -- for each task, what others do after its Start neither changes what it depends on nor depends on what it changes
    pub apart : (s : Entry) (p : Log) (t : D.Path) (w : D.Work) → D.starts s ≡ Some (t, w) → (f : Entry) (q : Log) → Stage (f ∷ q) r → Stage (s ∷ p) q → D.same t f.who ≡ false → (e : Entry) (o : Log) → Stage (e ∷ o) r → e.who ≡ t → Apart e f × Apart f e

  -- between a task's Start and an entry of the task stands none of main
  abbrev pub Serial : Log → Type 0
  Serial r = (m s e : Entry) (l p q : Log) (t : D.Path) (w : D.Work) → Stage (m ∷ l) r → D.same D.main m.who ≡ true → Stage (s ∷ p) l → D.starts s ≡ Some (t, w) → Stage (e ∷ q) r → e.who ≡ t → Stage (m ∷ l) q → ⊥

module _ (D : Setting) (Legal : Log D → Type 0) where
  -- what the desk and the programs have to provide
  pub record Facts : Type 0 where
    pub same_true : (a b : D.Path) → D.same a b ≡ true → a ≡ b
    pub same_refl : (a : D.Path) → D.same a a ≡ true
    pub earlier : (e : Entry D) (p : Log D) → Legal (e ∷ p) → Legal p
    pub never_main : (e : Entry D) (p : Log D) (t : D.Path) (w : D.Work) → Legal (e ∷ p) → D.starts e ≡ Some (t, w) → D.same D.main t ≡ false
    pub starts_once : (e s : Entry D) (p q : Log D) (t : D.Path) (v w : D.Work) → Legal (e ∷ p) → Stage (s ∷ q) p → D.starts e ≡ Some (t, v) → D.starts s ≡ Some (t, w) → ⊥
    pub room : (e : Entry D) (p : Log D) (t : D.Path) (w : D.Work) → Legal (e ∷ p) → D.starts e ≡ Some (t, w) → tally (is_start D) p < D.limit
    -- an activity that has ended has nothing left to ask
    pub ends_last : (w : D.Work) (m : Log D) (e : Entry D) (q : Log D) → ((f : Entry D) (o : Log D) → Stage (f ∷ o) m → D.next w o ≡ Some f.asked) → Stage (e ∷ q) m → D.ends e.asked ≡ true → D.next w m ≡ None
    pub tasks_print_nothing : (e : Entry D) → D.Tame e → D.same D.main e.who ≡ false → D.printed e.asked ≡ []
    -- a reply is determined by the asker's own entries, by the changes of the keys that the use depends on, and by the End of the task whose pyx it opens
    pub replies : (e f : Entry D) (p q : Log D) → Legal (e ∷ p) → Legal (f ∷ q) → D.Tame f → e.who ≡ f.who → e.asked ≡ f.asked → own D e.who p ≡ own D f.who q
        → ((k : D.Key) → D.depends f.asked k ≡ true → changed D k p ≡ changed D k q)
        → ((t : D.Path) → D.opens f.asked ≡ Some t → (x y : Entry D) (i j : Log D) → Stage (x ∷ i) (own D t p) → Stage (y ∷ j) (own D t q) → D.ends x.asked ≡ true → D.ends y.asked ≡ true → x.asked ≡ y.asked)
        → ((t : D.Path) (w : D.Work) → D.starts f ≡ Some (t, w) → tally (is_start D) p < D.limit)
        → e.reply ≡ f.reply
