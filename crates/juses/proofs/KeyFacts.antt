-- An entry changes its keys alone, and a reply is determined by the keys that it depends on and by what stands beside
-- them.
use Rattle.std.proofs.Common.{◌≡◌, refl, ap, ◌∙◌, ℕ, zero, suc, pos, List, [], ◌∷◌, ◌++◌, length, nat_lt, nat_eq, Bool, true, false, cond, ◌&&◌, ◌||◌, Some, None}
use Rattle.std.specs.Cmp.Lexicographic.{nat_list_eq_equiv}
use Rattle.jdata.specs.declared.fault.Fault.TheVariants.{Limit}
use Rattle.jdata.specs.declared.path.PyxId.{PyxId}
use Rattle.juses.specs.Agreeing.{AgreeBeside, AgreeOnHolder, AgreeOnTask}
use Rattle.juses.specs.Keys.{Key, NameIn, NamesOf, Locales, PyxBy, MutexBy, Threads, z_locale, same_key, is_among, changes, changed_by}
use Rattle.juses.specs.Desk as desk
use Rattle.juses.specs.Desk.{State, reply, moved, named, first_of, left_at, left_name, left_names, left_locales, left_pyx, left_mutex, left_threads, depends_on, opened_key, open_reply, task_reply, most_tasks}
use Rattle.juses.specs.declared.uses.Entry.{Entry}
use Rattle.juses.specs.declared.uses.Use.{Use}
use Rattle.juses.specs.declared.uses.Use.TheVariants as asked
use Rattle.juses.specs.declared.uses.Reply.{Reply}
use Rattle.juses.specs.declared.uses.Reply.TheVariants as says
use Rattle.juses.proofs.Makers.{number_self}

pub others_stay : (s : State) (e : Entry) (k : Key) → changed_by e k ≡ false → (moved s e).at k ≡ s.at k
others_stay s e k h = ap (λ b. cond b (left_at k e s) (s.at k)) h

pub changes_alike : (s t : State) (e d : Entry) (k : Key) → e.asked ≡ d.asked → e.reply ≡ d.reply → AgreeOnHolder k e.who d.who → s.at k ≡ t.at k → (moved s e).at k ≡ (moved t d).at k
changes_alike s t e d (NameIn p n) a r w h = λ i. cond (changes (a i) (r i) (NameIn p n)) (left_name (a i) (h i)) (h i)
changes_alike s t e d (NamesOf p) a r w h = λ i. cond (changes (a i) (r i) (NamesOf p)) (left_names (a i) (h i)) (h i)
changes_alike s t e d Locales a r w h = λ i. cond (changes (a i) (r i) Locales) (left_locales (a i) (h i)) (h i)
changes_alike s t e d (PyxBy p n) a r w h = λ i. cond (changes (a i) (r i) (PyxBy p n)) (left_pyx (a i) (r i) (h i)) (h i)
changes_alike s t e d (MutexBy p n) a r w h = λ i. cond (changes (a i) (r i) (MutexBy p n)) (left_mutex (w i) (a i) (r i) (h i)) (h i)
changes_alike s t e d Threads a r w h = λ i. cond (changes (a i) (r i) Threads) (left_threads (a i) (r i) (h i)) (h i)

same_self : (k : Key) → same_key k k ≡ true
same_self (NameIn p n) = λ i. nat_list_eq_equiv.refl p i && nat_list_eq_equiv.refl n i
same_self (NamesOf p) = nat_list_eq_equiv.refl p
same_self Locales = refl
same_self (PyxBy p n) = λ i. nat_list_eq_equiv.refl p i && number_self n i
same_self (MutexBy p n) = λ i. nat_list_eq_equiv.refl p i && number_self n i
same_self Threads = refl

or_true : (b : Bool) → (b || true) ≡ true
or_true true = refl
or_true false = refl

-- the one key is among them
only_one : (k : Key) → is_among (k ∷ []) k ≡ true
only_one k = ap (λ b. b || false) (same_self k)

open_alike : (s t : State) (path : List ℕ) (n : ℕ) → AgreeOnTask s t path n → ((k : Key) → is_among (opened_key path n) k ≡ true → s.at k ≡ t.at k)
    → open_reply n (s.phase path) (s.at (PyxBy path n)) ≡ open_reply n (t.phase path) (t.at (PyxBy path n))
open_alike s t path zero a h = ap task_reply a
open_alike s t path (suc n) a h = ap desk.pyx_reply (h (PyxBy path (suc n)) (only_one (PyxBy path (suc n))))

pub replies_alike : (s t : State) (who : List ℕ) (thread thread' : ℕ) (u : Use) → ((k : Key) → is_among (depends_on s u) k ≡ true → s.at k ≡ t.at k) → AgreeBeside s t who thread thread' u → reply s who thread u ≡ reply t who thread' u
replies_alike s t who thread thread' (asked.Read from name) h a =
    let here : s.at (NameIn from name) ≡ t.at (NameIn from name) = h (NameIn from name) (λ i. same_self (NameIn from name) i || is_among (NameIn z_locale name ∷ []) (NameIn from name)) in
    let in_z : s.at (NameIn z_locale name) ≡ t.at (NameIn z_locale name) = h (NameIn z_locale name) (ap (λ b. same_key (NameIn from name) (NameIn z_locale name) || (b || false)) (same_self (NameIn z_locale name)) ∙ or_true (same_key (NameIn from name) (NameIn z_locale name))) in
    λ i. Some (named (first_of (here i) (first_of (in_z i) None)))
replies_alike s t who thread thread' (asked.Write p n v) h a = refl
replies_alike s t who thread thread' (asked.Print bytes) h a = refl
replies_alike s t who thread thread' (asked.Start pool work) h a = λ i. Some (cond (a.1 i && nat_lt (length who) 4) (says.Pyx (record { path = who ++ suc (a.0 i) ∷ []; number = 0 })) (says.Refused Limit))
replies_alike s t who thread thread' asked.Begin h a = ap desk.begin_reply a
replies_alike s t who thread thread' (asked.End o) h a = ap desk.end_reply a
replies_alike s t who thread thread' (asked.Open pyx) h a = open_alike s t pyx.path pyx.number a h
replies_alike s t who thread thread' asked.MakePyx h a = ap (λ n. Some (desk.make_pyx_reply n who)) a
replies_alike s t who thread thread' (asked.SetPyx pyx o) h a = ap (λ x. Some (desk.set_reply x)) (h (PyxBy pyx.path pyx.number) (only_one (PyxBy pyx.path pyx.number)))
replies_alike s t who thread thread' asked.MakeMutex h a = ap (λ n. Some (desk.make_mutex_reply n who)) a
replies_alike s t who thread thread' (asked.Lock m) h a = ap (desk.lock_reply who) (h (MutexBy m.path m.number) (only_one (MutexBy m.path m.number)))
replies_alike s t who thread thread' (asked.Unlock m) h a = ap (λ x. Some (desk.unlock_reply who x)) (h (MutexBy m.path m.number) (only_one (MutexBy m.path m.number)))
replies_alike s t who thread thread' (asked.MakeThread pool) h a = let at = h Threads (only_one Threads) in λ i. Some (desk.thread_reply (a i) (at i))
replies_alike s t who thread thread' asked.Threads h a = ap (λ l. Some (says.Number (pos (length l)))) (h Threads (only_one Threads))
replies_alike s t who thread thread' (asked.PoolState pool) h a = let at = h Threads (only_one Threads) in λ i. Some (desk.pool_reply (a.0 i) (a.1 i) (at i) pool)
replies_alike s t who thread thread' asked.Current h a = ap (λ n. Some (says.Number (pos n))) a
