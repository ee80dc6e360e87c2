-- The execution of a sentence step by step: a word is read, a row acts, or it ends. The bound on the rows never decides.
use Rattle.std.proofs.Common.{◌≡◌, ◌≤◌, ◌<◌, ◌⊎◌, inl, inr, ℕ, zero, suc, Bool, true, false, if◌then◌else◌, nat_lt, length, List, [], ◌∷◌, Option, Some, None, Result, Ok, Err, arith, refl, ap, sym, ◌∙◌}
use Rattle.std.proofs.lemmas.Bool.Decides.{nat_tests}
use Rattle.jdata.specs.declared.fault.Fault.{Fault}
use Rattle.jdata.specs.declared.fault.Fault.TheVariants.{Syntax, TimeLimit}
use Rattle.juses.specs.Program.{◌>>=◌}
use Rattle.jterm.specs.declared.part.Part.{Part}
use Rattle.jterm.specs.declared.term.Term.{Term}
use Rattle.jeval.specs.Activity.{written}
use Rattle.jeval.specs.declared.queue.Queued.{Queued}
use Rattle.jeval.specs.declared.state.State.{State}
use Rattle.jparse.specs.declared.table.Act.{Act}
use Rattle.jparse.specs.declared.table.Act.TheVariants as act
use Rattle.jeval.specs.Action.{Action, Rest, gives, fails, going_on, ◌then◌}
use Rattle.jeval.specs.Execution.{Ending, Acts, acted, all_written, by_row, read_on, ended, moved_in, is_assignment, executed, executed_within}
use Rattle.jparse.specs.Parsing.{row_at, top_of, is_whole, act_or, act_of}
use Rattle.jeval.proofs.Turning.{Within, Fewer, bind_alike, keeps_moved_in, falls_acted, late_row}

by_row_alike : (o : Option ℕ) (f g : ℕ → Rest Ending) (x y : Rest Ending) → ((row : ℕ) → f row ≡ g row) → x ≡ y → by_row o f x ≡ by_row o g y
by_row_alike (Some row) f g x y h k = h row
by_row_alike None f g x y h k = k

-- rows that act alike wherever there are no more turns than now
abbrev ActAlike : Acts → Acts → ℕ → Type 0
ActAlike acts acts' n = (row : ℕ) (queue : List Queued) (parts : List Part) (t : State) → t.left ≤ n → acts row queue parts t ≡ acts' row queue parts t

on_alike : {A : Type 0} (f g : A → Action Ending) (n : ℕ) → ((a : A) (t : State) → t.left ≤ n → f a t ≡ g a t)
    → (e : Result A Fault × State) → Within n e → going_on f e ≡ going_on g e
on_alike f g n h (Ok a, t) fewer = h a t fewer
on_alike f g n h (Err e, t) fewer = refl

read_alike : (acts acts' : Acts) (n : ℕ) → ActAlike acts acts' n → (queue : List Queued) (parts : List Part) (assigned : Bool) (s : State) → s.left ≤ n
    → read_on acts queue parts assigned s ≡ read_on acts' queue parts assigned s
read_alike acts acts' n h [] parts assigned s fewer =
    by_row_alike (row_at parts) (λ row. acts row [] parts s) (λ row. acts' row [] parts s) (ended parts assigned s) (ended parts assigned s) (λ row. h row [] parts s fewer) refl
read_alike acts acts' n h (next ∷ queue) parts assigned s fewer =
    by_row_alike (row_at parts) (λ row. acts row (next ∷ queue) parts s) (λ row. acts' row (next ∷ queue) parts s)
    (moved_in next parts s >>= going_on (λ more. read_on acts queue more assigned)) (moved_in next parts s >>= going_on (λ more. read_on acts' queue more assigned))
    (λ row. h row (next ∷ queue) parts s fewer)
    (bind_alike (Within s.left) (moved_in next parts s) (going_on (λ more. read_on acts queue more assigned)) (going_on (λ more. read_on acts' queue more assigned)) (keeps_moved_in next parts s)
    (on_alike (λ more. read_on acts queue more assigned) (λ more. read_on acts' queue more assigned) s.left
    (λ more t less. read_alike acts acts' n h queue more assigned t (omega (arith, less, fewer)))))

fewer_alike : {A : Type 0} (f g : A → Action Ending) (n : ℕ) → ((a : A) (t : State) → t.left < n → f a t ≡ g a t)
    → (e : Result A Fault × State) → Fewer n e → going_on f e ≡ going_on g e
fewer_alike f g n h (Ok a, t) fewer = h a t fewer
fewer_alike f g n h (Err e, t) fewer = refl

-- how rows act with so many more at most
abbrev acts_within : ℕ → ℕ → Acts
acts_within levels rows row queue parts = acted levels row parts then (λ more. executed_within levels rows queue more (is_assignment row))

rows_alike : (levels row : ℕ) (parts : List Part) (f g : List Part → Action Ending) (t : State) → ((more : List Part) (u : State) → u.left < t.left → f more u ≡ g more u)
    → (acted levels row parts then f) t ≡ (acted levels row parts then g) t
unfolding ◌then◌
rows_alike levels row parts f g t h =
    bind_alike (Fewer t.left) (acted levels row parts t) (going_on f) (going_on g) (falls_acted levels row parts t) (fewer_alike f g t.left h)

-- any two bounds that the turns meet
pub within_alike : (levels m n : ℕ) (queue : List Queued) (parts : List Part) (assigned : Bool) (s : State) → s.left ≤ m → s.left ≤ n
    → executed_within levels m queue parts assigned s ≡ executed_within levels n queue parts assigned s
unfolding executed_within
within_alike levels zero zero queue parts assigned s a b = refl
within_alike levels zero (suc n) queue parts assigned s a b =
    read_alike (λ row queue parts. fails TimeLimit) (acts_within levels n) 0
    (λ row queue parts t none. sym (late_row levels row parts (λ more. executed_within levels n queue more (is_assignment row)) t (omega (arith, none)))) queue parts assigned s a
within_alike levels (suc m) zero queue parts assigned s a b =
    read_alike (acts_within levels m) (λ row queue parts. fails TimeLimit) 0
    (λ row queue parts t none. late_row levels row parts (λ more. executed_within levels m queue more (is_assignment row)) t (omega (arith, none))) queue parts assigned s b
within_alike levels (suc m) (suc n) queue parts assigned s a b =
    read_alike (acts_within levels m) (acts_within levels n) s.left
    (λ row queue parts t less. rows_alike levels row parts (λ more. executed_within levels m queue more (is_assignment row)) (λ more. executed_within levels n queue more (is_assignment row)) t
    (λ more u fewer. within_alike levels m n queue more (is_assignment row) u (omega (arith, fewer, less, a)) (omega (arith, fewer, less, b)))) queue parts assigned s (omega arith)

pub bound_never_decides : (levels rows : ℕ) (queue : List Queued) (parts : List Part) (assigned : Bool) (s : State) → s.left ≤ rows
    → executed_within levels rows queue parts assigned s ≡ executed levels queue parts assigned s
unfolding executed
bound_never_decides levels rows queue parts assigned s enough = within_alike levels rows s.left queue parts assigned s enough (omega arith)

-- a word is read where no row acts
reads_within : (levels n : ℕ) (next : Queued) (queue : List Queued) (parts : List Part) (assigned : Bool) (s : State) → row_at parts ≡ None
    → executed_within levels n (next ∷ queue) parts assigned s ≡ (moved_in next parts then (λ more. executed_within levels n queue more assigned)) s
unfolding executed_within ◌then◌
reads_within levels zero next queue parts assigned s none = rw none refl
reads_within levels (suc n) next queue parts assigned s none = rw none refl

moved_alike : (next : Queued) (parts : List Part) (f g : List Part → Action Ending) (s : State) → ((more : List Part) (t : State) → t.left ≤ s.left → f more t ≡ g more t)
    → (moved_in next parts then f) s ≡ (moved_in next parts then g) s
unfolding ◌then◌
moved_alike next parts f g s h = bind_alike (Within s.left) (moved_in next parts s) (going_on f) (going_on g) (keeps_moved_in next parts s) (on_alike f g s.left h)

pub executed_reads : (levels : ℕ) (next : Queued) (queue : List Queued) (parts : List Part) (assigned : Bool) (s : State) → row_at parts ≡ None
    → executed levels (next ∷ queue) parts assigned s ≡ (moved_in next parts then (λ more. executed levels queue more assigned)) s
executed_reads levels next queue parts assigned s none =
    sym (bound_never_decides levels s.left (next ∷ queue) parts assigned s (omega arith)) ∙ reads_within levels s.left next queue parts assigned s none
    ∙ moved_alike next parts (λ more. executed_within levels s.left queue more assigned) (λ more. executed levels queue more assigned) s (λ more t less. bound_never_decides levels s.left queue more assigned t less)

-- a row acts
acts_in : (levels n row : ℕ) (queue : List Queued) (parts : List Part) (assigned : Bool) (s : State) → row_at parts ≡ Some row
    → executed_within levels (suc n) queue parts assigned s ≡ acts_within levels n row queue parts s
unfolding executed_within
acts_in levels n row [] parts assigned s is = rw is refl
acts_in levels n row (next ∷ queue) parts assigned s is = rw is refl

pub executed_acts : (levels row : ℕ) (queue : List Queued) (parts : List Part) (assigned : Bool) (s : State) → row_at parts ≡ Some row
    → executed levels queue parts assigned s ≡ (acted levels row parts then (λ more. executed levels queue more (is_assignment row))) s
executed_acts levels row queue parts assigned s is =
    sym (bound_never_decides levels (suc s.left) queue parts assigned s (omega arith)) ∙ acts_in levels s.left row queue parts assigned s is
    ∙ rows_alike levels row parts (λ more. executed_within levels s.left queue more (is_assignment row)) (λ more. executed levels queue more (is_assignment row)) s
    (λ more u fewer. bound_never_decides levels s.left queue more (is_assignment row) u (omega (arith, fewer)))

-- it ends
ends_in : (levels n : ℕ) (parts : List Part) (assigned : Bool) (s : State) → row_at parts ≡ None → executed_within levels n [] parts assigned s ≡ ended parts assigned s
unfolding executed_within
ends_in levels zero parts assigned s none = rw none refl
ends_in levels (suc n) parts assigned s none = rw none refl

pub executed_ends : (levels : ℕ) (parts : List Part) (assigned : Bool) (s : State) → row_at parts ≡ None → executed levels [] parts assigned s ≡ ended parts assigned s
executed_ends levels parts assigned s none = sym (bound_never_decides levels s.left [] parts assigned s (omega arith)) ∙ ends_in levels s.left parts assigned s none

-- what the parsing step says of the row
no_row : (o : Option ℕ) (other : Act) → act.Shift ≡ act_or o other → o ≡ None
no_row (Some row) other h = cc
no_row None other h = refl

this_row : (o : Option ℕ) (more whole : Bool) (row : ℕ) → act.Row row ≡ act_or o (if more then act.Shift else if whole then act.Done else act.Syntax) → o ≡ Some row
this_row (Some other) more whole row h = cc
this_row None true whole row h = cc
this_row None false true row h = cc
this_row None false false row h = cc

done_when : (o : Option ℕ) (more whole : Bool) → act.Done ≡ act_or o (if more then act.Shift else if whole then act.Done else act.Syntax) → (o ≡ None) × (more ≡ false) × (whole ≡ true)
done_when (Some row) more whole h = cc
done_when None true whole h = cc
done_when None false true h = (refl, refl, refl)
done_when None false false h = cc

unmeant_when : (o : Option ℕ) (more whole : Bool) → act.Syntax ≡ act_or o (if more then act.Shift else if whole then act.Done else act.Syntax) → (o ≡ None) × (more ≡ false) × (whole ≡ false)
unmeant_when (Some row) more whole h = cc
unmeant_when None true whole h = cc
unmeant_when None false true h = cc
unmeant_when None false false h = (refl, refl, refl)

none_left : (queue : List Queued) (n : ℕ) → n ≡ length queue → nat_lt 0 n ≡ false → queue ≡ []
none_left [] n all h = refl
none_left (next ∷ queue) n all h = absurd (grind (arith, nat_tests))

pub reads_next : (parts : List Part) (n : ℕ) → act.Shift ≡ act_of parts n → row_at parts ≡ None
reads_next parts n h = no_row (row_at parts) (if nat_lt 0 n then act.Shift else if is_whole (top_of parts) then act.Done else act.Syntax) h

pub acts_next : (parts : List Part) (n row : ℕ) → act.Row row ≡ act_of parts n → row_at parts ≡ Some row
acts_next parts n row h = this_row (row_at parts) (nat_lt 0 n) (is_whole (top_of parts)) row h

ended_whole : (levels : ℕ) (queue : List Queued) (parts : List Part) (assigned whole : Bool) (s : State) → queue ≡ [] → row_at parts ≡ None → is_whole (top_of parts) ≡ whole
    → executed levels queue parts assigned s ≡ (if whole then gives (parts, assigned) else fails Syntax) s
ended_whole levels queue parts assigned whole s empty none is =
    ap (λ q. executed levels q parts assigned s) empty ∙ executed_ends levels parts assigned s none ∙ ap (λ b. (if b then gives (parts, assigned) else fails Syntax) s) is

pub is_done : (levels : ℕ) (queue : List Queued) (parts : List Part) (assigned : Bool) (n : ℕ) (s : State) → n ≡ length queue → act.Done ≡ act_of parts n
    → executed levels queue parts assigned s ≡ gives (parts, assigned) s
is_done levels queue parts assigned n s all h =
    let why = done_when (row_at parts) (nat_lt 0 n) (is_whole (top_of parts)) h in
    ended_whole levels queue parts assigned true s (none_left queue n all why.1) why.0 why.2

pub is_unmeant : (levels : ℕ) (queue : List Queued) (parts : List Part) (assigned : Bool) (n : ℕ) (s : State) → n ≡ length queue → act.Syntax ≡ act_of parts n
    → executed levels queue parts assigned s ≡ fails Syntax s
is_unmeant levels queue parts assigned n s all h =
    let why = unmeant_when (row_at parts) (nat_lt 0 n) (is_whole (top_of parts)) h in
    ended_whole levels queue parts assigned false s (none_left queue n all why.1) why.0 why.2

-- the names of a quoted target: no more of them or of values, and one more of both
written_without : (names : List (List ℕ)) (after : List Part) → all_written names [] after ≡ gives after
written_without [] after = refl
written_without (name ∷ names) after = refl

pub all_are_written : (names : List (List ℕ)) (values : List Term) (after : List Part) (s : State) → (names ≡ []) ⊎ (values ≡ []) → all_written names values after s ≡ gives after s
all_are_written names values after s (inl none) = ap (λ ns. all_written ns values after s) none
all_are_written names values after s (inr none) = ap (λ vs. all_written names vs after s) none ∙ ap (λ (p : Action (List Part)). p s) (written_without names after)

pub one_is_written : (names more : List (List ℕ)) (values others : List Term) (name : List ℕ) (value : Term) (after : List Part) (s : State) → names ≡ name ∷ more → values ≡ value ∷ others
    → all_written names values after s ≡ (written name value then (λ reply. all_written more others after)) s
one_is_written names more values others name value after s n v = (λ i. all_written (n i) (v i) after s)
