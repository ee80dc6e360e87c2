-- Each step of a turn keeps its rule.
use Rattle.std.proofs.Common.{◌≡◌, ◌≢◌, ℕ, ◌+◌, ◌%◌, ◌^◌, ◌<◌, ◌≤◌, true, eqb, List, [], ◌∷◌, ◌++◌, length, set, get_or, sym, refl, ap, ◌∙◌, subst, inl, inr, ⊎_elim, arith, length-append}
use Rattle.std.proofs.Math.Nat.{add-mod}
use mathlib.Core.Option.{none, some, some-injective, some-ne-none}
use mathlib.Core.Option as maybe
use mathlib.Core.Logic.{dite}
use native.Mathlib.Decide.{ℕ_discrete, dec_le}
use lib.ListN.{get_elem?}
use Rattle.atomic_table.specs.Table.{State, Me, step, keeps, takes, gives, Allows, Splits, Joins, opening, Final, Seen}
use Rattle.atomic_table.proofs.Lists.{at_set, at_snoc, at_longer, set_else, one_turn}
use Rattle.std.specs.declared.snapshot.Snapshot.{Snapshot}
use Rattle.jturn.specs.declared.board.View.{View}
use Rattle.jturn.specs.declared.board.Slot.{Slot}
use Rattle.jturn.specs.declared.board.Slot.TheVariants.{Away, Same, Added}
use Rattle.jturn.specs.declared.board.Stage.{Stage}
use Rattle.jturn.specs.declared.board.Stage.TheVariants.{Idle, Waiting, Holding}
use Rattle.jturn.specs.Pass.{StartsWith}
use Rattle.jturn.specs.Turned.{total, one_if, times, has_ticket, queued, holding, IsOneTicket, IsOneEntry, Knows, InSlot, Fits, Home, Turned, IsInside}
use Rattle.jturn.specs.Steps.{is_idle, is_holding, Right, opened, waits, enters, cut_left, cut_right, glued, spent, drew, compared, stayed, Entered, looked, leaves, served}
use Rattle.jturn.specs.Laws.{starts_self, starts_on}
use Rattle.jturn.proofs.Totals.{total_set, total_at, total_two, total_snoc, total_some, total_only, total_le, one_here, none_else, times_append, put_here, starts_empty, starts_length, starts_both, starts_whole, by_test, alone}

ticket_word : (n : ℕ) → (n % 2 ^ 64 + 1) % 2 ^ 64 ≡ (n + 1) % 2 ^ 64
ticket_word n = sym (add-mod n 1 (2 ^ 64))

idle_of : (st : Stage) → is_idle st ≡ true → st ≡ Idle
idle_of Idle e = refl
idle_of (Waiting t) e = cc
idle_of (Holding t) e = cc

held_by : (st : Stage) → 0 < holding st → (t : ℕ) × (st ≡ Holding t)
held_by Idle h = absurd (omega arith)
held_by (Waiting t) h = absurd (omega arith)
held_by (Holding t) h = (t, refl)

holder_of : (st : Stage) → is_holding st ≡ true → (t : ℕ) × (st ≡ Holding t)
holder_of Idle e = cc
holder_of (Waiting t) e = cc
holder_of (Holding t) e = (t, refl)

not_held : (st : Stage) (t : ℕ) → holding st ≡ 0 → st ≢ Holding t
not_held st t h e = let k = ap holding e in omega arith

queued_most : (st : Stage) → queued st ≤ 1
queued_most Idle = omega arith
queued_most (Waiting t) = omega arith
queued_most (Holding t) = omega arith

-- a ticket that some pass has is out
in_range : (served drawn t n : ℕ) → 0 < n → IsOneTicket served drawn t n → (served ≤ t) × (t < drawn)
in_range served drawn t n any f = let a = f.0 in let b = f.2 in dite (dec_le served t)
    (λ low. dite (dec_le drawn t) (λ past. let z = b past in absurd (omega arith)) (λ before. (low, omega arith))) (λ below. let z = a (omega arith) in absurd (omega arith))

-- the counts of a ticket before and after another seat's view has changed
drawn_more : (served drawn t n m : ℕ) → served ≤ drawn → m + 0 ≡ n + one_if (eqb drawn t) → IsOneTicket served drawn t n → IsOneTicket served (drawn + 1) t m
drawn_more served drawn t n m le e f = let a = f.0 in let b = f.1 in let d = f.2 in dite (ℕ_discrete drawn t)
    (λ is. let o = one_here drawn t is in let z : n ≡ 0 = d (omega arith) in ((λ h. absurd (omega arith)), (λ h k. omega arith), λ h. absurd (omega arith)))
    (λ ne. let o = none_else drawn t ne in let same : n ≡ m = omega arith in ((λ h. sym same ∙ a h), (λ h k. sym same ∙ b h (omega arith)), λ h. sym same ∙ d (omega arith)))

served_more : (served drawn t n m : ℕ) → served < drawn → m + one_if (eqb served t) ≡ n + 0 → IsOneTicket served drawn t n → IsOneTicket (served + 1) drawn t m
served_more served drawn t n m lt e f = let a = f.0 in let b = f.1 in let d = f.2 in dite (ℕ_discrete served t)
    (λ is. let o = one_here served t is in let z : n ≡ 1 = b (omega arith) (omega arith) in ((λ h. omega arith), (λ h k. absurd (omega arith)), λ h. absurd (omega arith)))
    (λ ne. let o = none_else served t ne in let same : n ≡ m = omega arith in ((λ h. sym same ∙ a (omega arith)), (λ h k. sym same ∙ b (omega arith) k), λ h. sym same ∙ d h))

entry_more : (len p n m a : ℕ) → m + a ≡ n + (a + (one_if (eqb len p) + 0)) → IsOneEntry len p n → IsOneEntry (len + 1) p m
entry_more len p n m a e f = let b = f.0 in let d = f.1 in dite (ℕ_discrete len p)
    (λ is. let o = one_here len p is in let z : n ≡ 0 = d (omega arith) in ((λ h. omega arith), λ h. absurd (omega arith)))
    (λ ne. let o = none_else len p ne in let same : n ≡ m = omega arith in ((λ h. sym same ∙ b (omega arith)), λ h. sym same ∙ d (omega arith)))

same_waiting : (t u : ℕ) → Waiting t ≡ Waiting u → t ≡ u
same_waiting t u e = cc

same_holding : (t u : ℕ) → Holding t ≡ Holding u → t ≡ u
same_holding t u e = cc

module _ {S E : Type 0} (stands : S → List E → Type 0) (mark : S → ℕ × ℕ) (constant : S → List ℕ) (parts : ℕ) where
  abbrev V : Type 0
  V = View E

  abbrev St : Type 0
  St = State (Slot S (Snapshot E)) V

  abbrev M : Type 0
  M = Me (Slot S (Snapshot E)) V

  abbrev Rule : St → Type 0
  Rule = Turned stands mark constant parts

  abbrev Homes : Type 0
  Homes = List (maybe.Option (Slot S (Snapshot E)))

  -- a step of the seat id, whose view goes from v to w
  changed : (s : St) (r : Rule s) (id : ℕ) (v w : V) (log' : List E) (served' drawn' : ℕ) (marked' : ℕ × ℕ) (changes' sleepers' : ℕ) (words' : List ℕ) (homes' : Homes)
      → get_elem? s.views id ≡ some v → words' ≡ drawn' % 2 ^ 64 ∷ served' % 2 ^ 64 ∷ changes' ∷ sleepers' ∷ [] → w.parts ≡ v.parts → w.marks ≡ v.marks
      → (served' + r.drawn) + queued w.stage ≡ (r.served + drawn') + queued v.stage
      → ((t n m : ℕ) → m + has_ticket t v.stage ≡ n + has_ticket t w.stage → IsOneTicket r.served r.drawn t n → IsOneTicket served' drawn' t m)
      → ((p n m : ℕ) → m + times p v.own ≡ n + times p w.own → IsOneEntry (length r.log) p n → IsOneEntry (length log') p m)
      → Knows log' served' marked' r.fixed w
      → ((j : ℕ) (u : V) → j ≢ id → get_elem? s.views j ≡ some u → Knows r.log r.served r.marked r.fixed u → Knows log' served' marked' r.fixed u)
      → (j : ℕ) × ((u : V) × (get_elem? (set s.views id w) j ≡ some u) × (u.seen ≡ log'))
      → Home stands mark constant log' marked' r.fixed (total (λ v. holding v.stage) (set s.views id w)) homes'
      → Rule record { words = words'; homes = homes'; views = set s.views id w }
  changed s r id v w log' served' drawn' marked' changes' sleepers' words' homes' at words ps ms line tickets entries mine others longest home = record {
    log = log';
    served = served';
    drawn = drawn';
    marked = marked';
    fixed = r.fixed;
    changes = changes';
    sleepers = sleepers';
    words = words;
    few = r.few;
    all_parts = let e = total_set (λ (u : V). u.parts) s.views id v w at in let a = r.all_parts in omega arith;
    in_line = let e = total_set (λ (u : V). queued u.stage) s.views id v w at in let a = r.in_line in omega arith;
    each_ticket = λ t. tickets t _ _ (total_set (λ (u : V). has_ticket t u.stage) s.views id v w at) (r.each_ticket t);
    each_entry = λ p. entries p _ _ (total_set (λ (u : V). times p u.own) s.views id v w at) (r.each_entry p);
    one_marker = let e = total_set (λ (u : V). u.marks) s.views id v w at in let a = r.one_marker in omega arith;
    each_view = λ j u e. ⊎_elim (λ (t : (j ≡ id) × (w ≡ u)). subst (λ (z : V). Knows log' served' marked' r.fixed z) t.1 mine)
        (λ (t : (j ≢ id) × (get_elem? s.views j ≡ some u)). others j u t.0 t.1 (r.each_view j u t.1)) (at_set s.views id j w u e);
    longest = longest;
    home = home;
  }

  -- the longest list seen, where the seat id has seen no other
  longest_stays : (s : St) (r : Rule s) (id : ℕ) (v w : V) → get_elem? s.views id ≡ some v → w.seen ≡ v.seen → (j : ℕ) × ((u : V) × (get_elem? (set s.views id w) j ≡ some u) × (u.seen ≡ r.log))
  longest_stays s r id v w at same = let j : ℕ = r.longest.0 in let u : V = r.longest.1.0 in let there = r.longest.1.1 in let whole = r.longest.1.2 in dite (ℕ_discrete j id)
      (λ is. let u_is : u ≡ v = some-injective u v (sym there ∙ (ap (get_elem? s.views) is ∙ at)) in (id, (w, put_here s.views id v w at, same ∙ (ap (λ (z : V). z.seen) (sym u_is) ∙ whole))))
      (λ ne. (j, (u, set_else s.views id j w ne ∙ there, whole)))

  -- the slot, where the seat id holds it as before
  home_stays : (s : St) (r : Rule s) (id : ℕ) (v w : V) → get_elem? s.views id ≡ some v → holding w.stage ≡ holding v.stage → Home stands mark constant r.log r.marked r.fixed (total (λ v. holding v.stage) (set s.views id w)) s.homes
  home_stays s r id v w at same = let e = total_set (λ (u : V). holding u.stage) s.views id v w at in
      let k : total (λ (u : V). holding u.stage) s.views ≡ total (λ (u : V). holding u.stage) (set s.views id w) = omega arith in
      subst (λ (n : ℕ). Home stands mark constant r.log r.marked r.fixed n s.homes) k r.home

  in_line_le : (s : St) (r : Rule s) → r.served ≤ r.drawn
  in_line_le s r = let e = r.in_line in omega arith

  pub draws : (slots id : ℕ) (me : M) → is_idle me.0.stage ≡ true → 0 < me.0.parts → Allows Rule slots id me 0 (λ n. (n + 1) % 2 ^ 64) (drew (step slots 0 1 0 none) me)
  draws slots id me idle some_part s r _ at _ = let v : V = me.0 in let w : V = waits r.drawn v in let is : v.stage ≡ Idle = idle_of v.stage idle in let known = r.each_view id v at in let le = in_line_le s r in
      let found : get_or s.words 0 0 ≡ r.drawn % 2 ^ 64 = ap (λ (ws : List ℕ). get_or ws 0 0) r.words in
      let no_ticket : (t : ℕ) → has_ticket t v.stage ≡ 0 = λ t. ap (has_ticket t) is in let no_place : queued v.stage ≡ 0 = ap queued is in let no_hold : holding v.stage ≡ 0 = ap holding is in (
        w,
        keeps,
        tt,
        changed s r id v w r.log r.served (r.drawn + 1) r.marked r.changes r.sleepers _ s.homes at
            (ap (λ (ws : List ℕ). set ws 0 ((get_or ws 0 0 + 1) % 2 ^ 64)) r.words ∙ ap (λ (n : ℕ). n ∷ r.served % 2 ^ 64 ∷ r.changes ∷ r.sleepers ∷ []) (ticket_word r.drawn)) refl refl (omega arith)
            (λ t n m e f. let z = no_ticket t in drawn_more r.served r.drawn t n m le (omega arith) f)
            (λ p n m e f. let same : n ≡ m = omega arith in subst (IsOneEntry (length r.log) p) same f)
            record {
              begins = known.begins;
              heard = known.heard;
              inside = known.inside;
              marks = known.marks;
              fixed = known.fixed;
              gone = λ z. absurd (omega arith);
              turn = λ t e. cc;
            }
            (λ j u _ _ k. k) (longest_stays s r id v w at refl) (home_stays s r id v w at (sym no_hold)),
        (r.drawn, found, refl),
      )

  -- a pass that waits for the ticket in the word is the one that is served
  is_next : (s : St) (r : Rule s) (id t : ℕ) (v : V) → get_elem? s.views id ≡ some v → v.stage ≡ Waiting t → get_or s.words 1 0 ≡ t % 2 ^ 64 → r.served ≡ t
  is_next s r id t v at is found =
      let here : has_ticket t v.stage ≡ 1 = ap (has_ticket t) is ∙ one_here t t refl in
      let out = total_at (λ (u : V). has_ticket t u.stage) s.views id v at in
      let range = in_range r.served r.drawn t _ (omega arith) (r.each_ticket t) in let line = r.in_line in let all = r.all_parts in let few = r.few in
      let low : r.served ≤ t = range.0 in let high : t < r.drawn = range.1 in
      let most : total (λ (u : V). queued u.stage) s.views ≤ total (λ (u : V). u.parts) s.views = total_le (λ (u : V). queued u.stage) (λ (u : V). u.parts) s.views (λ i u e. let k = (r.each_view i u e).gone in
      dite (ℕ_discrete u.parts 0) (λ z. let q : queued u.stage ≡ 0 = ap queued (k z).0 in omega arith) (λ ne. let q = queued_most u.stage in omega arith)) in
      let word : get_or s.words 1 0 ≡ r.served % 2 ^ 64 = ap (λ (ws : List ℕ). get_or ws 1 0) r.words in
      let near : t < r.served + 2 ^ 64 = omega arith in
      one_turn r.served t (2 ^ 64) low near (sym word ∙ found)

  -- while a pass waits for the ticket that is served, no one holds the slot
  no_holder : (s : St) (r : Rule s) (id t : ℕ) (v : V) → get_elem? s.views id ≡ some v → v.stage ≡ Waiting t → r.served ≡ t → total (λ (u : V). holding u.stage) s.views ≡ 1 → ⊥
  no_holder s r id t v at is now one =
      let h = total_some (λ (u : V). holding u.stage) s.views (omega arith) in
      let j : ℕ = h.0 in let u : V = h.1.0 in let there = h.1.1 in let held = held_by u.stage h.1.2 in
      let now_too : held.0 ≡ r.served = ((r.each_view j u there).turn held.0 held.1).0 in
      let apart : id ≢ j = λ e. let same : v ≡ u = some-injective v u (sym at ∙ (ap (get_elem? s.views) e ∙ there)) in
      let z : holding u.stage ≡ 0 = ap (λ (z : V). holding z.stage) (sym same) ∙ ap holding is in let one_more = h.1.2 in omega arith in
      let two = total_two (λ (z : V). has_ticket t z.stage) s.views id j v u apart at there in
      let mine : has_ticket t v.stage ≡ 1 = ap (has_ticket t) is ∙ one_here t t refl in
      let theirs : has_ticket t u.stage ≡ 1 = ap (has_ticket t) held.1 ∙ one_here held.0 t (now_too ∙ now) in
      let a = (r.each_ticket t).1 in let b = (r.each_ticket t).2 in dite (dec_le r.drawn t) (λ past. let z = b past in omega arith) (λ before. let z = a (omega arith) (omega arith) in omega arith)

  takes_turn : (s : St) (r : Rule s) (id t : ℕ) (v : V) → get_elem? s.views id ≡ some v → v.stage ≡ Waiting t → 0 < v.parts → r.served ≡ t
      → Rule record { words = set s.words 1 (get_or s.words 1 0); homes = set s.homes 0 none; views = set s.views id (enters r.log r.marked t v) }
  takes_turn s r id t v at is some_part now = let w : V = enters r.log r.marked t v in let known = r.each_view id v at in
      let q : queued v.stage ≡ 1 = ap queued is in let z : holding v.stage ≡ 0 = ap holding is in let e = total_set (λ (u : V). holding u.stage) s.views id v w at in
      changed s r id v w r.log r.served r.drawn r.marked r.changes r.sleepers _ _ at
      (ap (λ (ws : List ℕ). set ws 1 (get_or ws 1 0)) r.words) refl refl (omega arith)
      (λ t' n m e f. let k : has_ticket t' v.stage ≡ one_if (eqb t t') = ap (has_ticket t') is in let same : n ≡ m = omega arith in subst (IsOneTicket r.served r.drawn t') same f)
      (λ p n m e f. let same : n ≡ m = omega arith in subst (IsOneEntry (length r.log) p) same f)
      record {
        begins = starts_self r.log;
        heard = starts_empty r.log;
        inside = λ p le. let k = starts_length r.log v.seen known.begins in known.inside p (omega arith);
        marks = λ _. refl;
        fixed = known.fixed;
        gone = λ z. absurd (omega arith);
        turn = λ t' e. (sym (same_holding t t' e) ∙ sym now, refl, refl);
      }
      (λ j u _ _ k. k) (id, (w, put_here s.views id v w at, refl))
      (⊎_elim (λ h. absurd (no_holder s r id t v at is now h.1)) (λ h. inl (ap (λ (hs : Homes). set hs 0 none) h.1, (let none_yet = h.2 in omega arith))) r.home)

  pub looks : (slots id t : ℕ) (me : M) → me.0.stage ≡ Waiting t → 0 < me.0.parts → Allows Rule slots id me 1 (λ n. n) (looked stands mark constant (step slots 1 0 0 none) me)
  looks slots id t me is some_part s r _ at _ = let v : V = me.0 in let known = r.each_view id v at in dite (ℕ_discrete (get_or s.words 1 0) (t % 2 ^ 64))
      (λ hit. let now = is_next s r id t v at is hit in ⊎_elim (λ h. absurd (no_holder s r id t v at is now h.1)) (λ h. let y : Slot S (Snapshot E) = h.0 in (
        enters r.log r.marked t v,
        takes 0 y,
        ap (λ (hs : Homes). get_elem? hs 0) h.1,
        takes_turn s r id t v at is some_part now,
        (λ t' is'. let same : t ≡ t' = same_waiting t t' (sym is ∙ is') in (
          (λ _. subst (λ (z : ℕ). Entered stands mark constant z me (enters r.log r.marked t v, (0, y) ∷ me.1)) same
              (r.log, (r.marked, (y, refl, known.begins, (λ m. sym (known.marks m)), subst (λ (k : List ℕ). InSlot (Fits stands mark constant r.log r.marked k) y) (sym (known.fixed some_part)) h.3)))),
          λ miss. absurd (miss (hit ∙ ap (λ (z : ℕ). z % 2 ^ 64) same)),
        )),
      )) r.home)
      (λ miss. (
        v,
        keeps,
        tt,
        changed s r id v v r.log r.served r.drawn r.marked r.changes r.sleepers _ s.homes at (ap (λ (ws : List ℕ). set ws 1 (get_or ws 1 0)) r.words) refl refl refl
            (λ t' n m e f. let same : n ≡ m = omega arith in subst (IsOneTicket r.served r.drawn t') same f)
            (λ p n m e f. let same : n ≡ m = omega arith in subst (IsOneEntry (length r.log) p) same f)
            known (λ j u _ _ k. k) (longest_stays s r id v v at refl) (home_stays s r id v v at refl),
        (λ t' is'. let same : t ≡ t' = same_waiting t t' (sym is ∙ is') in ((λ hit. absurd (miss (hit ∙ ap (λ (z : ℕ). z % 2 ^ 64) (sym same)))), λ _. refl)),
      ))

  pub compares : (slots id : ℕ) (me : M) → Allows Rule slots id me 0 (λ n. n) (compared (step slots 0 0 0 none) me)
  compares slots id me s r _ at _ = let v : V = me.0 in let known = r.each_view id v at in (
    v,
    keeps,
    tt,
    changed s r id v v r.log r.served r.drawn r.marked r.changes r.sleepers _ s.homes at (ap (λ (ws : List ℕ). set ws 0 (get_or ws 0 0)) r.words) refl refl refl
        (λ t' n m e f. let same : n ≡ m = omega arith in subst (IsOneTicket r.served r.drawn t') same f)
        (λ p n m e f. let same : n ≡ m = omega arith in subst (IsOneEntry (length r.log) p) same f)
        known (λ j u _ _ k. k) (longest_stays s r id v v at refl) (home_stays s r id v v at refl),
    (refl, known.heard, known.inside),
  )

  -- the two counts may change in any way
  pub counts_change : (f : ℕ → ℕ) (slots a id : ℕ) (me : M) → Allows Rule slots id me 2 f (stayed (step slots 2 a 0 none) me)
  counts_change f slots a id me s r _ at _ = let v : V = me.0 in let known = r.each_view id v at in (
    v,
    keeps,
    tt,
    changed s r id v v r.log r.served r.drawn r.marked (f r.changes) r.sleepers _ s.homes at (ap (λ (ws : List ℕ). set ws 2 (f (get_or ws 2 0))) r.words) refl refl refl
        (λ t' n m e f. let same : n ≡ m = omega arith in subst (IsOneTicket r.served r.drawn t') same f)
        (λ p n m e f. let same : n ≡ m = omega arith in subst (IsOneEntry (length r.log) p) same f)
        known (λ j u _ _ k. k) (longest_stays s r id v v at refl) (home_stays s r id v v at refl),
    refl,
  )

  pub counts_sleepers : (f : ℕ → ℕ) (slots a id : ℕ) (me : M) → Allows Rule slots id me 3 f (stayed (step slots 3 a 0 none) me)
  counts_sleepers f slots a id me s r _ at _ = let v : V = me.0 in let known = r.each_view id v at in (
    v,
    keeps,
    tt,
    changed s r id v v r.log r.served r.drawn r.marked r.changes (f r.sleepers) _ s.homes at (ap (λ (ws : List ℕ). set ws 3 (f (get_or ws 3 0))) r.words) refl refl refl
        (λ t' n m e f. let same : n ≡ m = omega arith in subst (IsOneTicket r.served r.drawn t') same f)
        (λ p n m e f. let same : n ≡ m = omega arith in subst (IsOneEntry (length r.log) p) same f)
        known (λ j u _ _ k. k) (longest_stays s r id v v at refl) (home_stays s r id v v at refl),
    refl,
  )

  -- no two seats hold the slot
  holders_most : (s : St) (r : Rule s) → total (λ (u : V). holding u.stage) s.views ≤ 1
  holders_most s r = ⊎_elim (λ h. let one = h.1 in omega arith) (λ h. let none_yet = h.2 in omega arith) r.home

  -- the seat id puts y back, and the next is served
  serves_next : (s : St) (r : Rule s) (id t : ℕ) (v : V) (y : Slot S (Snapshot E)) (log' : List E) (own' : List ℕ) (mk : ℕ × ℕ) → get_elem? s.views id ≡ some v → v.stage ≡ Holding t → 0 < v.parts
      → StartsWith log' v.seen → (v.marks ≡ 0 → mk ≡ v.mark) → ((p : ℕ) → length log' ≤ p → times p own' ≡ 0)
      → ((p n m : ℕ) → m + times p v.own ≡ n + times p own' → IsOneEntry (length v.seen) p n → IsOneEntry (length log') p m)
      → InSlot (Fits stands mark constant log' mk v.constant) y
      → Rule record {
        words = set s.words 1 ((get_or s.words 1 0 + 1) % 2 ^ 64);
        homes = set s.homes 0 (some y);
        views = set s.views id (record v { seen = log'; told = []; own = own'; mark = mk; stage = Idle });
      }
  serves_next s r id t v y log' own' mk at is some_part grows keeps_mark inside' entries fits =
      let w : V = record v { seen = log'; told = []; own = own'; mark = mk; stage = Idle } in let known = r.each_view id v at in
      let turn = known.turn t is in let now : t ≡ r.served = turn.0 in let seen_is : v.seen ≡ r.log = turn.1 in let mark_is : v.mark ≡ r.marked = turn.2 in let one_mark = r.one_marker in
      let q : queued v.stage ≡ 1 = ap queued is in let z : holding v.stage ≡ 1 = ap holding is in
      let e = total_set (λ (u : V). holding u.stage) s.views id v w at in let out = total_at (λ (u : V). holding u.stage) s.views id v at in let most = holders_most s r in
      let in_queue = total_at (λ (u : V). queued u.stage) s.views id v at in let line = r.in_line in let low : r.served < r.drawn = omega arith in
      let grows' : StartsWith log' r.log = subst (StartsWith log') seen_is grows in
      changed s r id v w log' (r.served + 1) r.drawn mk r.changes r.sleepers _ _ at
      (ap (λ (ws : List ℕ). set ws 1 ((get_or ws 1 0 + 1) % 2 ^ 64)) r.words ∙ ap (λ (n : ℕ). r.drawn % 2 ^ 64 ∷ n ∷ r.changes ∷ r.sleepers ∷ []) (ticket_word r.served)) refl refl (omega arith)
      (λ t' n m e f. let k : has_ticket t' v.stage ≡ one_if (eqb r.served t') = ap (has_ticket t') is ∙ ap (λ (a : ℕ). one_if (eqb a t')) now in served_more r.served r.drawn t' n m low (omega arith) f)
      (λ p n m e f. entries p n m e (subst (λ (l : List E). IsOneEntry (length l) p n) (sym seen_is) f))
      record {
        begins = starts_self log';
        heard = starts_empty log';
        inside = inside';
        marks = λ _. refl;
        fixed = known.fixed;
        gone = λ none_left. absurd (omega arith);
        turn = λ t' e. cc;
      }
      (λ j u ne there k. record {
        begins = starts_on log' r.log u.seen grows' k.begins;
        heard = k.heard;
        inside = k.inside;
        marks = λ m. let two = total_two (λ (u : V). u.marks) s.views j id u v ne there at in let none_here : v.marks ≡ 0 = omega arith in k.marks m ∙ sym (keeps_mark none_here ∙ mark_is);
        fixed = k.fixed;
        gone = k.gone;
        turn = λ t' e. let two = total_two (λ (u : V). holding u.stage) s.views j id u v ne there at in let theirs : holding u.stage ≡ 1 = ap holding e in absurd (omega arith);
      })
      (id, (w, put_here s.views id v w at, refl))
      (inr (
        y,
        ⊎_elim (λ h. ap (λ (hs : Homes). set hs 0 (some y)) h.0) (λ h. let none_yet = h.2 in absurd (omega arith)) r.home,
        omega arith,
        subst (λ (k : List ℕ). InSlot (Fits stands mark constant log' mk k) y) (known.fixed some_part) fits,
      ))

  serves_to : (s : St) (r : Rule s) (id t : ℕ) (v : V) (y : Slot S (Snapshot E)) → get_elem? s.views id ≡ some v → v.stage ≡ Holding t → 0 < v.parts → Right stands mark constant v y
      → Rule record { words = set s.words 1 ((get_or s.words 1 0 + 1) % 2 ^ 64); homes = set s.homes 0 (some y); views = set s.views id (leaves mark v y) }
  serves_to s r id t v Away at is some_part right = absurd right
  serves_to s r id t v (Same x) at is some_part right = let known = r.each_view id v at in
      serves_next s r id t v (Same x) v.seen v.own (mark x) at is some_part (starts_self v.seen) right.1 known.inside (λ p n m e f. let same : n ≡ m = omega arith in subst (IsOneEntry (length v.seen) p) same f)
      (right.0, refl, right.2)
  serves_to s r id t v (Added x e) at is some_part right = let known = r.each_view id v at in let n : ℕ = length v.seen in
      let longer : length (v.seen ++ e.value ∷ []) ≡ n + 1 = omega (arith, length-append v.seen (e.value ∷ [])) in
      serves_next s r id t v (Added x e) (v.seen ++ e.value ∷ []) (v.own ++ n ∷ []) (mark x) at is some_part (e.value ∷ [], refl) right.1
      (λ p le. let a = times_append p v.own (n ∷ []) in let b = known.inside p (omega arith) in let d = none_else n p (λ same. omega arith) in omega arith)
      (λ p a b eq f. let d = times_append p v.own (n ∷ []) in subst (λ (k : ℕ). IsOneEntry k p b) (sym longer) (entry_more n p a b (times p v.own) (omega arith) f))
      (right.0, refl, right.2)

  leaves_inside : (v : V) (y : Slot S (Snapshot E)) → IsInside v → IsInside (leaves mark v y)
  leaves_inside v Away h = h
  leaves_inside v (Same x) h = h
  leaves_inside v (Added x e) h = λ p le. let n : ℕ = length v.seen in let longer : length (v.seen ++ e.value ∷ []) ≡ n + 1 = omega (arith, length-append v.seen (e.value ∷ [])) in
      let a = times_append p v.own (n ∷ []) in let b = h p (omega arith) in let d = none_else n p (λ same. omega arith) in omega arith

  slot_or : Slot S (Snapshot E) → List (ℕ × Slot S (Snapshot E)) → Slot S (Snapshot E)
  slot_or y [] = y
  slot_or y (z ∷ zs) = z.1

  pub serves : (slots id t : ℕ) (v : V) (y : Slot S (Snapshot E)) → v.stage ≡ Holding t → 0 < v.parts → Right stands mark constant v y
      → Allows Rule slots id (v, (0, y) ∷ []) 1 (λ n. (n + 1) % 2 ^ 64) (served mark (step slots 1 1 0 none) (v, (0, y) ∷ []))
  unfolding slot_or
  serves slots id t v y is some_part right s r _ at _ = (
    leaves mark v y,
    gives,
    tt,
    serves_to s r id t v y at is some_part right,
    λ y' e. (ap (λ (z : Slot S (Snapshot E)). let m : M = (leaves mark v z, []) in m) (ap (slot_or y) e), leaves_inside v y' (r.each_view id v at).inside),
  )

  pub serves_at : (slots id : ℕ) (me : M) (v : V) (y : Slot S (Snapshot E)) → me ≡ (v, (0, y) ∷ []) → is_holding v.stage ≡ true → 0 < v.parts → Right stands mark constant v y
      → Allows Rule slots id me 1 (λ n. (n + 1) % 2 ^ 64) (served mark (step slots 1 1 0 none) me)
  serves_at slots id me v y e hold some_part right = let h = holder_of v.stage hold in
      subst (λ (m : M). Allows Rule slots id m 1 (λ n. (n + 1) % 2 ^ 64) (served mark (step slots 1 1 0 none) m)) (sym e) (serves slots id h.0 v y h.1 some_part right)

  pub splits : (id : ℕ) (v : V) → 1 < v.parts → Splits Rule id v (cut_left v) (cut_right v)
  splits id v many s r at = let left : V = cut_left v in let right : V = cut_right v in let known = r.each_view id v at in
      let same : (f : V → ℕ) → f left ≡ f v → f right ≡ 0 → total f s.views ≡ total f (set s.views id left ++ right ∷ []) = λ f l n. let e = total_set f s.views id v left at in let k = total_snoc f (set s.views id left) right in omega arith in record {
        log = r.log;
        served = r.served;
        drawn = r.drawn;
        marked = r.marked;
        fixed = r.fixed;
        changes = r.changes;
        sleepers = r.sleepers;
        words = r.words;
        few = r.few;
        all_parts = let e = total_set (λ (u : V). u.parts) s.views id v left at in let k = total_snoc (λ (u : V). u.parts) (set s.views id left) right in let a = r.all_parts in omega arith;
        in_line = subst (λ (n : ℕ). r.served + n ≡ r.drawn) (same (λ (u : V). queued u.stage) refl refl) r.in_line;
        each_ticket = λ t. subst (IsOneTicket r.served r.drawn t) (same (λ (u : V). has_ticket t u.stage) refl refl) (r.each_ticket t);
        each_entry = λ p. subst (IsOneEntry (length r.log) p) (same (λ (u : V). times p u.own) refl refl) (r.each_entry p);
        one_marker = sym (same (λ (u : V). u.marks) refl refl) ∙ r.one_marker;
        each_view = λ j u e. ⊎_elim (λ e. ⊎_elim (λ (t : (j ≡ id) × (left ≡ u)). subst (λ (z : V). Knows r.log r.served r.marked r.fixed z) t.1 record {
          begins = known.begins;
          heard = known.heard;
          inside = known.inside;
          marks = known.marks;
          fixed = λ l. known.fixed (omega arith);
          gone = λ none_left. absurd (omega arith);
          turn = known.turn;
        }) (λ (t : (j ≢ id) × (get_elem? s.views j ≡ some u)). r.each_view j u t.1) (at_set s.views id j left u e))
            (λ (is : right ≡ u). subst (λ (z : V). Knows r.log r.served r.marked r.fixed z) is record {
              begins = known.begins;
              heard = known.heard;
              inside = λ p le. refl;
              marks = λ l. absurd (omega arith);
              fixed = λ l. known.fixed (omega arith);
              gone = λ none_left. absurd (omega arith);
              turn = λ t e. cc;
            }) (at_snoc (set s.views id left) right u j e);
        longest = let l = longest_stays s r id v left at refl in (l.0, (l.1.0, at_longer (set s.views id left) (right ∷ []) l.0 l.1.0 l.1.1, l.1.2));
        home = subst (λ (n : ℕ). Home stands mark constant r.log r.marked r.fixed n s.homes) (same (λ (u : V). holding u.stage) refl refl) r.home;
      }

  joins_view : (log : List E) (now : ℕ) (mk : ℕ × ℕ) (k : List ℕ) (v w : V) → Knows log now mk k v → Knows log now mk k w → v.stage ≡ Idle → 0 < v.parts → Knows log now mk k (glued v w)
  joins_view log now mk k v w a b is some_part = let n : ℕ = length v.seen in let m : ℕ = length w.seen in record {
    begins = by_test (λ (x y : List E). StartsWith log x) n m w.seen v.seen (λ _. b.begins) (λ _. a.begins);
    heard = by_test (λ (x y : List E). StartsWith x y) n m w.seen v.seen (λ l. starts_both log v.seen w.seen a.begins b.begins (omega arith)) (λ l. starts_both log w.seen v.seen b.begins a.begins l);
    inside = λ p le. let most : (n ≤ length (glued v w).seen) × (m ≤ length (glued v w).seen) = by_test (λ (x y : List E). (n ≤ length x) × (m ≤ length x)) n m w.seen v.seen (λ l. (omega arith, omega arith)) (λ l. (omega arith, l)) in
        let c = a.inside p (omega arith) in let d = b.inside p (omega arith) in let e = times_append p v.own w.own in omega arith;
    marks = λ l. by_test (λ (x y : ℕ × ℕ). x ≡ mk) 0 w.marks w.mark v.mark (λ h. b.marks h) (λ h. a.marks (omega arith));
    fixed = λ l. a.fixed some_part;
    gone = λ none_left. absurd (omega arith);
    turn = λ t e. absurd (not_held v.stage t (ap holding is) e);
  }

  pub joins : (id : ℕ) (v : V) (other : ℕ) (w : V) → is_idle v.stage ≡ true → is_idle w.stage ≡ true → 0 < v.parts → Joins Rule id v other w (glued v w) spent
  joins id v other w idle idle' some_part s r at ne there = let both : V = glued v w in let mid : List V = set s.views id both in
      let is : v.stage ≡ Idle = idle_of v.stage idle in let is' : w.stage ≡ Idle = idle_of w.stage idle' in
      let there' : get_elem? s.views other ≡ some w = sym (set_else s.views id other both ne) ∙ there in
      let known = r.each_view id v at in let known' = r.each_view other w there' in
      let mine = joins_view r.log r.served r.marked r.fixed v w known known' is some_part in
      let same : (f : V → ℕ) → f both ≡ f v + f w → f spent ≡ 0 → total f s.views ≡ total f (set mid other spent) = λ f l n. let e = total_set f s.views id v both at in let k = total_set f mid other w spent there in omega arith in
      let here : get_elem? (set mid other spent) id ≡ some both = set_else mid other id spent (λ e. ne (sym e)) ∙ put_here s.views id v both at in record {
        log = r.log;
        served = r.served;
        drawn = r.drawn;
        marked = r.marked;
        fixed = r.fixed;
        changes = r.changes;
        sleepers = r.sleepers;
        words = r.words;
        few = r.few;
        all_parts = sym (same (λ (u : V). u.parts) refl refl) ∙ r.all_parts;
        in_line = subst (λ (n : ℕ). r.served + n ≡ r.drawn) (same (λ (u : V). queued u.stage) (let a : queued w.stage ≡ 0 = ap queued is' in omega arith) refl) r.in_line;
        each_ticket = λ t. subst (IsOneTicket r.served r.drawn t) (same (λ (u : V). has_ticket t u.stage) (let a : has_ticket t w.stage ≡ 0 = ap (has_ticket t) is' in omega arith) refl) (r.each_ticket t);
        each_entry = λ p. subst (IsOneEntry (length r.log) p) (same (λ (u : V). times p u.own) (times_append p v.own w.own) refl) (r.each_entry p);
        one_marker = sym (same (λ (u : V). u.marks) refl refl) ∙ r.one_marker;
        each_view = λ j u e. ⊎_elim (λ (t : (j ≡ other) × (spent ≡ u)). subst (λ (z : V). Knows r.log r.served r.marked r.fixed z) t.1 record {
          begins = starts_empty r.log;
          heard = starts_empty [];
          inside = λ p le. refl;
          marks = λ l. absurd (omega arith);
          fixed = λ l. absurd (omega arith);
          gone = λ _. (refl, refl, refl, refl);
          turn = λ t e. cc;
        }) (λ (t : (j ≢ other) × (get_elem? mid j ≡ some u)). ⊎_elim (λ (q : (j ≡ id) × (both ≡ u)). subst (λ (z : V). Knows r.log r.served r.marked r.fixed z) q.1 mine)
            (λ (q : (j ≢ id) × (get_elem? s.views j ≡ some u)). r.each_view j u q.1) (at_set s.views id j both u t.1)) (at_set mid other j spent u e);
        longest = let j : ℕ = r.longest.0 in let u : V = r.longest.1.0 in let at_j = r.longest.1.1 in let whole = r.longest.1.2 in
            let most : (length v.seen ≤ length both.seen) × (length w.seen ≤ length both.seen) = by_test (λ (x y : List E). (length v.seen ≤ length x) × (length w.seen ≤ length x)) (length v.seen) (length w.seen) w.seen v.seen (λ l. (omega arith, omega arith)) (λ l. (omega arith, l)) in
            dite (ℕ_discrete j id) (λ e. let u_is : u ≡ v = some-injective u v (sym at_j ∙ (ap (get_elem? s.views) e ∙ at)) in
            let len : length v.seen ≡ length r.log = ap (λ (z : V). length z.seen) (sym u_is) ∙ ap length whole in (id, (both, here, starts_whole r.log both.seen mine.begins (omega arith))))
            (λ apart. dite (ℕ_discrete j other) (λ e. let u_is : u ≡ w = some-injective u w (sym at_j ∙ (ap (get_elem? s.views) e ∙ there')) in
            let len : length w.seen ≡ length r.log = ap (λ (z : V). length z.seen) (sym u_is) ∙ ap length whole in (id, (both, here, starts_whole r.log both.seen mine.begins (omega arith))))
            (λ apart'. (j, (u, set_else mid other j spent apart' ∙ (set_else s.views id j both apart ∙ at_j), whole))));
        home = subst (λ (n : ℕ). Home stands mark constant r.log r.marked r.fixed n s.homes) (same (λ (u : V). holding u.stage) (let a : holding w.stage ≡ 0 = ap holding is' in omega arith) refl) r.home;
      }

  pub opens : (x : S) → 0 < parts → parts < 2 ^ 32 → stands x [] → Rule (opening (0 ∷ 0 ∷ 0 ∷ 0 ∷ []) (Same x ∷ []) (opened (mark x) (constant x) parts))
  opens x some_part few empty = let v : V = opened (mark x) (constant x) parts in record {
    log = [];
    served = 0;
    drawn = 0;
    marked = mark x;
    fixed = constant x;
    changes = 0;
    sleepers = 0;
    words = refl;
    few = few;
    all_parts = omega arith;
    in_line = refl;
    each_ticket = λ t. ((λ l. absurd (omega arith)), (λ l h. absurd (omega arith)), λ _. refl);
    each_entry = λ p. ((λ l. absurd (omega arith)), λ _. refl);
    one_marker = refl;
    each_view = λ j u e. subst (λ (z : V). Knows [] 0 (mark x) (constant x) z) (alone v u j e) record {
      begins = starts_empty [];
      heard = starts_empty [];
      inside = λ p le. refl;
      marks = λ _. refl;
      fixed = λ _. refl;
      gone = λ none_left. absurd (omega arith);
      turn = λ t e. cc;
    };
    longest = (0, (v, refl, refl));
    home = inr (Same x, refl, refl, (empty, refl, refl));
  }

  -- who has all parts has seen the whole history
  pub closes : (id : ℕ) (v : V) (ws : List ℕ) (xs : List (Slot S (Snapshot E))) → v.parts ≡ parts → 0 < v.parts → is_idle v.stage ≡ true → Final (Seen Rule id v) ws xs
      → ((y : Slot S (Snapshot E)) × ((get_elem? xs 0 ≡ some y) × InSlot (Fits stands mark constant v.seen v.mark v.constant) y)) × ((p : ℕ) → IsOneEntry (length v.seen) p (times p v.own)) × (v.marks ≡ 1)
  closes id v ws xs all some_part idle last = let s : St = last.0 in let r : Rule s = last.1.0 in let at = last.1.1 in let known = r.each_view id v at in let is : v.stage ≡ Idle = idle_of v.stage idle in
      let all' = r.all_parts in
      let others_gone : (j : ℕ) (u : V) → id ≢ j → get_elem? s.views j ≡ some u → (u.stage ≡ Idle) × (u.seen ≡ []) × (u.own ≡ []) × (u.marks ≡ 0) =
      λ j u ne there. let two = total_two (λ (z : V). z.parts) s.views id j v u ne at there in (r.each_view j u there).gone (omega arith) in
      let whole : v.seen ≡ r.log = let j : ℕ = r.longest.0 in let u : V = r.longest.1.0 in let there = r.longest.1.1 in dite (ℕ_discrete id j)
      (λ e. ap (λ (z : V). z.seen) (some-injective v u (sym at ∙ (ap (get_elem? s.views) e ∙ there))) ∙ r.longest.1.2)
      (λ ne. let none_seen : length r.log ≡ 0 = ap length (sym r.longest.1.2 ∙ (others_gone j u ne there).1) in starts_whole r.log v.seen known.begins (omega arith)) in
      let marked : v.mark ≡ r.marked = let one = r.one_marker in let h = total_some (λ (z : V). z.marks) s.views (omega arith) in dite (ℕ_discrete id h.0)
      (λ e. let same : v ≡ h.1.0 = some-injective v h.1.0 (sym at ∙ (ap (get_elem? s.views) e ∙ h.1.1)) in known.marks (subst (λ (z : V). 0 < z.marks) (sym same) h.1.2))
      (λ ne. let none_here = (others_gone h.0 h.1.0 ne h.1.1).3 in let some_here = h.1.2 in absurd (omega arith)) in (
        ⊎_elim (λ (o : (s.homes ≡ none ∷ []) × (total (λ (z : V). holding z.stage) s.views ≡ 1)). let one = o.1 in let h = total_some (λ (z : V). holding z.stage) s.views (omega arith) in let held = h.1.2 in dite (ℕ_discrete id h.0)
            (λ e. let same : v ≡ h.1.0 = some-injective v h.1.0 (sym at ∙ (ap (get_elem? s.views) e ∙ h.1.1)) in let z : holding h.1.0.stage ≡ 0 = ap (λ (z : V). holding z.stage) (sym same) ∙ ap holding is in absurd (omega arith))
            (λ ne. let z : holding h.1.0.stage ≡ 0 = ap holding (others_gone h.0 h.1.0 ne h.1.1).0 in absurd (omega arith)))
            (λ o. let y : Slot S (Snapshot E) = o.0 in let fixed = known.fixed some_part in (
              y,
              (
                last.4 0 y (ap (λ (hs : Homes). get_elem? hs 0) o.1),
                subst (λ (z : List E × (ℕ × ℕ) × List ℕ). InSlot (Fits stands mark constant z.0 z.1 z.2) y) (λ i. (sym whole i, sym marked i, sym fixed i)) o.3,
              ),
            )) r.home,
        λ p. subst (λ (z : ℕ × ℕ). IsOneEntry z.0 p z.1) (λ i. (ap length (sym whole) i, total_only (λ (u : V). times p u.own) s.views id v at (λ j u ne there. ap (times p) (others_gone j u ne there).2) i)) (r.each_entry p),
        sym (total_only (λ (u : V). u.marks) s.views id v at (λ j u ne there. (others_gone j u ne there).3)) ∙ r.one_marker,
      )

  pub opens_at : (x x' : S) (items : List (Slot S (Snapshot E))) → items ≡ Same x ∷ [] → x' ≡ x → 0 < parts → parts < 2 ^ 32 → stands x [] → Rule (opening (0 ∷ 0 ∷ 0 ∷ 0 ∷ []) items (opened (mark x') (constant x') parts))
  opens_at x x' items e same some_part few empty = subst (λ (z : List (Slot S (Snapshot E)) × S). Rule (opening (0 ∷ 0 ∷ 0 ∷ 0 ∷ []) z.0 (opened (mark z.1) (constant z.1) parts))) (λ i. (sym e i, sym same i)) (opens x some_part few empty)

  pub closes_with : (id : ℕ) (v : V) (ws : List ℕ) (xs : List (Slot S (Snapshot E))) (y : Slot S (Snapshot E)) → v.parts ≡ parts → 0 < v.parts → is_idle v.stage ≡ true → Final (Seen Rule id v) ws xs
      → get_elem? xs 0 ≡ some y → InSlot (Fits stands mark constant v.seen v.mark v.constant) y
  closes_with id v ws xs y all some_part idle last at = let h = (closes id v ws xs all some_part idle last).0 in subst (InSlot (Fits stands mark constant v.seen v.mark v.constant)) (some-injective h.0 y (sym h.1.0 ∙ at)) h.1.1

module _ {S N : Type 0} (P : S → Type 0) where
  pub in_slot_any : (y : Slot S N) → InSlot P y → InSlot (λ _. Unit {0}) y
  in_slot_any Away h = h
  in_slot_any (Same x) h = tt
  in_slot_any (Added x e) h = tt

  pub in_slot_is : (y : Slot S N) (z : S) → InSlot P y → InSlot (λ x. x ≡ z) y → P z
  in_slot_is Away z h e = absurd h
  in_slot_is (Same x) z h e = subst P e h
  in_slot_is (Added x n) z h e = subst P e h
