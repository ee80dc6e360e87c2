-- How turns are taken, and that no action gives one back.
use Rattle.std.proofs.Common.{◌≡◌, ◌≢◌, ◌≤◌, ◌<◌, ◌-◌, ◌+◌, ◌==◌, ℕ, ℤ, zero, suc, Bool, true, false, if◌then◌else◌, List, [], ◌∷◌, ◌++◌, Option, Some, None, Result, Ok, Err, arith, refl, ap, sym, ◌∙◌}
use Rattle.jdata.specs.declared.fault.Fault.{Fault}
use Rattle.jdata.specs.declared.fault.Fault.TheVariants.{TimeLimit, Stack, Syntax, Nonce}
use Rattle.jdata.specs.Noun.{int_atom}
use Rattle.jdata.specs.declared.noun.Noun.{Noun}
use Rattle.jdata.specs.declared.primitive.Primitive.{Primitive}
use Rattle.jterm.specs.declared.term.Locative.{Locative}
use Rattle.jterm.specs.declared.term.Term.{Term}
use Rattle.juses.specs.Program.{Program, Return, Ask, ◌>>=◌}
use Rattle.juses.specs.Wishes.{Wish}
use Rattle.juses.specs.declared.uses.Reply.{Reply}
use Rattle.jterm.specs.declared.part.Part.{Part}
use Rattle.jterm.specs.declared.part.Part.TheVariants as part
use Rattle.jeval.specs.declared.queue.Queued.{Queued}
use Rattle.jeval.specs.declared.queue.Queued.TheVariants.{Ready, Named}
use Rattle.jeval.specs.declared.rows.Deed.{Deed}
use Rattle.jeval.specs.declared.rows.Deed.TheVariants.{Apply, Make, Assign, Spread, Leave, Refuse}
use Rattle.jeval.specs.declared.state.State.{State}
use Rattle.jeval.specs.Action.{Action, asks, gives, fails, answers, going_on, hearing, is_time_limit, ◌then◌, ◌hears◌, with_turn, with_left, turn_of}
use Rattle.jeval.specs.Activity.{read, written}
use Rattle.jeval.specs.declared.applying.Way.{Way}
use Rattle.jeval.specs.declared.applying.Way.TheVariants as way
use Rattle.std.specs.List.{range_with_len}
use Rattle.jdata.specs.Noun.{product}
use Rattle.jframe.specs.Assembly.{assembled}
use Rattle.jplan.specs.Arguments.{frame, x_of_cell, y_of_cell, x_of_fills, y_of_fills}
use Rattle.jplan.specs.Several.{alone}
use Rattle.jplan.specs.Derivations.{Derivation}
use Rattle.jplan.specs.Modifiers.{derived}
use Rattle.jeval.specs.Applying.{applied, applied_with, asked, layer, layer_by, nested, ran, reference_in, referred, sought_in, verb_replied, way_of}
use Rattle.jeval.specs.Cells.{OnCell, at_ranks, cells_done, in_cells, limits, on_cell, on_cells, on_each, on_fills}
use Rattle.jeval.specs.Execution.{moved_in, moved_value, value_of, plain_reference, assigned, all_written, done, acted}
use Rattle.jeval.specs.Makings.{term_of, made_of}
use Rattle.jparse.specs.Parsing.{awaits_target}
use Rattle.jeval.specs.Rows.{deed_of, filled}
use Rattle.jeval.specs.Targets.{spread}
use Rattle.jeval.specs.Verbs.{primitive}

-- each answer that the program can end with is one of these
abbrev pub AllEnd : {A : Type 0} → (A → Type 0) → Program Wish Reply A → Type 0
AllEnd P (Return a) = P a
AllEnd P (Ask q k) = (r : Reply) → AllEnd P (k r)

pub all_end_bind : {A B : Type 0} (P : A → Type 0) (Q : B → Type 0) (p : Program Wish Reply A) (f : A → Program Wish Reply B)
    → AllEnd P p → ((a : A) → P a → AllEnd Q (f a)) → AllEnd Q (p >>= f)
all_end_bind P Q (Return a) f h k = k a h
all_end_bind P Q (Ask q c) f h k = λ r. all_end_bind P Q (c r) f (h r) k

-- what goes on alike from each of these answers is alike
pub bind_alike : {A B : Type 0} (P : A → Type 0) (p : Program Wish Reply A) (f g : A → Program Wish Reply B)
    → AllEnd P p → ((a : A) → P a → f a ≡ g a) → p >>= f ≡ p >>= g
bind_alike P (Return a) f g h k = k a h
bind_alike P (Ask q c) f g h k = ap (Ask q) (λ i r. bind_alike P (c r) f g (h r) k i)

-- an end with no more turns than before, and one with fewer where there is a value
abbrev pub Within : {A : Type 0} → ℕ → Result A Fault × State → Type 0
Within n e = e.1.left ≤ n

abbrev pub Fewer : {A : Type 0} → ℕ → Result A Fault × State → Type 0
Fewer n (Ok a, s) = s.left < n
Fewer n (Err e, s) = Unit {0}

abbrev pub Keeps : {A : Type 0} → Action A → Type 0
Keeps p = (s : State) → AllEnd (Within s.left) (p s)

all_within : {A : Type 0} (p : Program Wish Reply (Result A Fault × State)) (m n : ℕ) → m ≤ n → AllEnd (Within m) p → AllEnd (Within n) p
all_within (Return e) m n order h = omega (arith, order, h)
all_within (Ask q k) m n order h = λ r. all_within (k r) m n order (h r)

keeps_on : {A B : Type 0} (f : A → Action B) → ((a : A) → Keeps (f a)) → (n : ℕ) (e : Result A Fault × State) → Within n e → AllEnd (Within n) (going_on f e)
keeps_on f k n (Ok a, t) fewer = all_within (f a t) t.left n fewer (k a t)
keeps_on f k n (Err e, t) fewer = fewer

pub keeps_then : {A B : Type 0} (p : Action A) (f : A → Action B) → Keeps p → ((a : A) → Keeps (f a)) → Keeps (p then f)
unfolding ◌then◌
keeps_then p f h k s = all_end_bind (Within s.left) (Within s.left) (p s) (going_on f) (h s) (keeps_on f k s.left)

keeps_hearing : {A B : Type 0} (f : Result A Fault → Action B) → ((a : Result A Fault) → Keeps (f a)) → (n : ℕ) (e : Result A Fault × State) → Within n e → AllEnd (Within n) (hearing f e)
keeps_hearing f k n (Ok a, t) fewer = all_within (f (Ok a) t) t.left n fewer (k (Ok a) t)
keeps_hearing f k n (Err e, t) fewer = go (is_time_limit e)
  where
    go : (b : Bool) → AllEnd (Within n) (if b then fails e t else f (Err e) t)
    go true = fewer
    go false = all_within (f (Err e) t) t.left n fewer (k (Err e) t)

pub keeps_hears : {A B : Type 0} (p : Action A) (f : Result A Fault → Action B) → Keeps p → ((a : Result A Fault) → Keeps (f a)) → Keeps (p hears f)
unfolding ◌hears◌
keeps_hears p f h k s = all_end_bind (Within s.left) (Within s.left) (p s) (hearing f) (h s) (keeps_hearing f k s.left)

keeps_return : {A : Type 0} (o : Result A Fault) → Keeps (answers o)
keeps_return o s = omega arith

keeps_ask : (q : Wish) → Keeps (asks q)
keeps_ask q s = λ r. omega arith

keeps_read : (name : List ℕ) → Keeps (read name)
keeps_read name s = λ r. omega arith

keeps_written : (name : List ℕ) (value : Term) → Keeps (written name value)
keeps_written name value s = λ r. omega arith

-- an action with a turn ends with fewer turns than before, or takes none and fails
keeps_turn_of : {A : Type 0} (p : Action A) → Keeps p → (n : ℕ) (s : State) → s.left ≡ n → AllEnd (Within s.left) (turn_of n p s)
keeps_turn_of p k zero s is = omega arith
keeps_turn_of p k (suc n) s is = all_within (p (with_left n s)) n s.left (omega (arith, is)) (k (with_left n s))

pub keeps_turn : {A : Type 0} (p : Action A) → Keeps p → Keeps (with_turn p)
unfolding with_turn
keeps_turn p k s = keeps_turn_of p k s.left s refl

all_fewer : {A : Type 0} (p : Program Wish Reply (Result A Fault × State)) (m n : ℕ) → m < n → AllEnd (Within m) p → AllEnd (Fewer n) p
all_fewer (Return (Ok a, t)) m n order h = omega (arith, order, h)
all_fewer (Return (Err e, t)) m n order h = tt
all_fewer (Ask q k) m n order h = λ r. all_fewer (k r) m n order (h r)

falls_turn_of : {A : Type 0} (p : Action A) → Keeps p → (n : ℕ) (s : State) → s.left ≡ n → AllEnd (Fewer s.left) (turn_of n p s)
falls_turn_of p k zero s is = tt
falls_turn_of p k (suc n) s is = all_fewer (p (with_left n s)) n s.left (omega (arith, is)) (k (with_left n s))

pub falls_turn : {A : Type 0} (p : Action A) → Keeps p → (s : State) → AllEnd (Fewer s.left) (with_turn p s)
unfolding with_turn
falls_turn p k s = falls_turn_of p k s.left s refl

keeps_sought_in : (place : Option (List ℕ)) (name : List ℕ) → Keeps (sought_in place name)
keeps_sought_in None name = keeps_then (read name) (λ reply. answers (verb_replied reply)) (keeps_read name) (λ reply. keeps_return (verb_replied reply))
keeps_sought_in (Some place) name = keeps_return {A = Term} (Err Nonce)

keeps_asked : (repeats : Bool) (p : Action Noun) → Keeps p → Keeps (asked repeats p)
keeps_asked true p k = keeps_turn p k
keeps_asked false p k = k

keeps_ran : (meant : Term → Option Noun → Noun → Action Noun) → ((verb : Term) (x : Option Noun) (y : Noun) → Keeps (meant verb x y)) → (d : Derivation) → Keeps (ran meant d)
keeps_ran meant k (Return answer) = keeps_return answer
keeps_ran meant k (Ask a next) = keeps_hears (asked a.repeats (meant a.verb a.x a.y)) (λ answer. ran meant (next answer)) (keeps_asked a.repeats (meant a.verb a.x a.y) (k a.verb a.x a.y)) (λ answer. keeps_ran meant k (next answer))

keeps_layer_by : (meant : Term → Option Noun → Noun → Action Noun) → ((verb : Term) (x : Option Noun) (y : Noun) → Keeps (meant verb x y)) → (o : Option Locative) (t : Term) (x : Option Noun) (y : Noun) → Keeps (layer_by meant o t x y)
keeps_layer_by meant k (Some name) t x y = keeps_then (referred name) (λ verb. meant verb x y) (keeps_sought_in name.place name.name) (λ verb. k verb x y)
keeps_layer_by meant k None t x y = keeps_ran meant k (derived t x y)

-- the cells of a frame
keeps_cells_done : (cell : ℕ → Action Noun) → ((i : ℕ) → Keeps (cell i)) → (places : List ℕ) (results : List Noun) → Keeps (cells_done cell places results)
keeps_cells_done cell k [] results = keeps_return (Ok results)
keeps_cells_done cell k (i ∷ places) results = keeps_then (cell i) (λ v. cells_done cell places (results ++ v ∷ [])) (k i) (λ v. keeps_cells_done cell k places (results ++ v ∷ []))

keeps_in_cells : (one : OnCell) → ((x : Option Noun) (y : Noun) → Keeps (one x y)) → (u v : Option ℤ) (x : Option Noun) (y : Noun) → Keeps (in_cells one u v x y)
keeps_in_cells one k u v x y = keeps_then (answers (frame u v x y)) (on_cells one u v x y) (keeps_return (frame u v x y)) (λ whole. go whole (product whole == 0))
  where
    go : (whole : List ℕ) (b : Bool) → Keeps (if b then on_fills one u v x y whole else (on_each one u v x y whole then (λ results. answers (assembled whole results))))
    go whole true = keeps_hears (one (x_of_fills u x) (y_of_fills v y)) (λ answer. answers (alone whole answer)) (k (x_of_fills u x) (y_of_fills v y)) (λ answer. keeps_return (alone whole answer))
    go whole false = keeps_then (on_each one u v x y whole) (λ results. answers (assembled whole results))
        (keeps_cells_done (on_cell one u v x y whole) (λ i. k (x_of_cell u x whole i) (y_of_cell v y whole i)) (range_with_len 0 (product whole)) [])
        (λ results. keeps_return (assembled whole results))

keeps_at_ranks : (one : OnCell) → ((x : Option Noun) (y : Noun) → Keeps (one x y)) → (limits : Option ℤ × Option ℤ) (x : Option Noun) (y : Noun) → Keeps (at_ranks one limits x y)
keeps_at_ranks one k (None, None) x y = k x y
keeps_at_ranks one k (Some u, v) x y = keeps_in_cells one k (Some u) v x y
keeps_at_ranks one k (None, Some v) x y = keeps_in_cells one k None (Some v) x y

keeps_applied_with : (one : Term → Option Noun → Noun → Action Noun) → ((t : Term) (x : Option Noun) (y : Noun) → Keeps (one t x y)) → (w : Way) (t : Term) (x : Option Noun) (y : Noun) → Keeps (applied_with one w t x y)
keeps_applied_with one k (way.Primitive verb) t x y = keeps_return (primitive verb x y)
keeps_applied_with one k (way.Constant n) t x y = keeps_return (Ok (int_atom n))
keeps_applied_with one k (way.Refused fault) t x y = keeps_return {A = Noun} (Err fault)
keeps_applied_with one k way.Derived t x y = keeps_at_ranks (one t) (k t) (limits t x) x y

keeps_nested : (levels : ℕ) (t : Term) (x : Option Noun) (y : Noun) → Keeps (nested levels t x y)
unfolding nested
keeps_nested zero t x y = keeps_turn (fails {A = Noun} Stack) (keeps_return {A = Noun} (Err Stack))
keeps_nested (suc levels) t x y =
    keeps_turn (layer (λ verb. applied_with (nested levels) (way_of verb) verb) t x y)
    (keeps_layer_by (λ verb. applied_with (nested levels) (way_of verb) verb) (λ verb a b. keeps_applied_with (nested levels) (keeps_nested levels) (way_of verb) verb a b) (reference_in t) t x y)

pub keeps_applied : (levels : ℕ) (verb : Term) (x : Option Noun) (y : Noun) → Keeps (applied levels verb x y)
keeps_applied levels verb x y = keeps_applied_with (nested levels) (keeps_nested levels) (way_of verb) verb x y

keeps_assigned : (name : List ℕ) (o : Option Term) (value : Part) (rest : List Part) → Keeps (assigned name o value rest)
keeps_assigned name (Some stands) value rest = keeps_then (written name stands) (λ reply. gives (value ∷ rest)) (keeps_written name stands) (λ reply. keeps_return (Ok (value ∷ rest)))
keeps_assigned name None value rest = keeps_return {A = List Part} (Err Syntax)

keeps_all_written : (names : List (List ℕ)) (values : List Term) (after : List Part) → Keeps (all_written names values after)
keeps_all_written [] values after = keeps_return (Ok after)
keeps_all_written (name ∷ names) [] after = keeps_return (Ok after)
keeps_all_written (name ∷ names) (value ∷ values) after = keeps_then (written name value) (λ reply. all_written names values after) (keeps_written name value) (λ reply. keeps_all_written names values after)

pub keeps_done : (levels : ℕ) (deed : Deed) → Keeps (done levels deed)
keeps_done levels (Apply verb x y around) = keeps_then (applied levels verb x y) (λ value. gives (filled around (part.Noun value))) (keeps_applied levels verb x y) (λ value. keeps_return (Ok (filled around (part.Noun value))))
keeps_done levels (Make making around) = keeps_then (answers (made_of making)) (λ verb. gives (filled around (part.Verb verb true))) (keeps_return (made_of making)) (λ verb. keeps_return (Ok (filled around (part.Verb verb true))))
keeps_done levels (Assign name value rest) = keeps_assigned name (term_of value) value rest
keeps_done levels (Spread target value rest) = keeps_then (answers (spread target value)) (λ share. all_written share.0 share.1 (value ∷ rest)) (keeps_return (spread target value)) (λ share. keeps_all_written share.0 share.1 (value ∷ rest))
keeps_done levels (Leave value rest) = keeps_return (Ok (value ∷ rest))
keeps_done levels (Refuse fault) = keeps_return {A = List Part} (Err fault)

pub falls_acted : (levels row : ℕ) (parts : List Part) (s : State) → AllEnd (Fewer s.left) (acted levels row parts s)
unfolding acted
falls_acted levels row parts s = falls_turn (done levels (deed_of row parts)) (keeps_done levels (deed_of row parts)) s

keeps_name : (b : Bool) (name : List ℕ) (parts : List Part) → Keeps (if b then gives (part.Target (plain_reference name) ∷ parts) else moved_value name parts)
keeps_name true name parts = keeps_return (Ok (part.Target (plain_reference name) ∷ parts))
keeps_name false name parts = keeps_then (read name) (λ reply. gives (value_of name reply ∷ parts)) (keeps_read name) (λ reply. keeps_return (Ok (value_of name reply ∷ parts)))

pub keeps_moved_in : (next : Queued) (parts : List Part) → Keeps (moved_in next parts)
keeps_moved_in (Ready p) parts = keeps_return (Ok (p ∷ parts))
keeps_moved_in (Named name) parts = keeps_name (awaits_target parts) name parts

-- without a turn, and with one
pub late_turn : {A : Type 0} (p : Action A) (s : State) → s.left ≡ 0 → with_turn p s ≡ fails TimeLimit s
unfolding with_turn
late_turn p s h = ap (λ n. turn_of n p s) h

pub on_time : {A : Type 0} (p : Action A) (s t : State) → s ≡ with_left (t.left + 1) t → with_turn p s ≡ p t
unfolding with_turn
on_time p s t h =
    let more : t.left + 1 ≡ suc t.left = omega arith in
    ap (with_turn p) h ∙ ap (λ n. turn_of n p (with_left n t)) more

-- a row that acts when no turn is left
pub late_row : {B : Type 0} (levels row : ℕ) (parts : List Part) (f : List Part → Action B) (s : State) → s.left ≡ 0 → (acted levels row parts then f) s ≡ fails TimeLimit s
unfolding acted ◌then◌
late_row levels row parts f s h = ap (λ rest. rest >>= going_on f) (late_turn (done levels (deed_of row parts)) s h)

-- an application, by how the term is applied
pub applies_primitive : (levels : ℕ) (t : Term) (verb : Primitive) (x : Option Noun) (y : Noun) (s : State) → way_of t ≡ way.Primitive verb → applied levels t x y s ≡ answers (primitive verb x y) s
applies_primitive levels t verb x y s h = ap (λ w. applied_with (nested levels) w t x y s) h

pub applies_constant : (levels : ℕ) (t : Term) (n : ℤ) (x : Option Noun) (y : Noun) (s : State) → way_of t ≡ way.Constant n → applied levels t x y s ≡ gives (int_atom n) s
applies_constant levels t n x y s h = ap (λ w. applied_with (nested levels) w t x y s) h

pub applies_refused : (levels : ℕ) (t : Term) (why : Fault) (x : Option Noun) (y : Noun) (s : State) → way_of t ≡ way.Refused why → applied levels t x y s ≡ fails why s
applies_refused levels t why x y s h = ap (λ w. applied_with (nested levels) w t x y s) h

pub applies_derived : (levels : ℕ) (t : Term) (x : Option Noun) (y : Noun) (s : State) → way_of t ≡ way.Derived → applied levels t x y s ≡ at_ranks (nested levels t) (limits t x) x y s
applies_derived levels t x y s h = ap (λ w. applied_with (nested levels) w t x y s) h

-- with a turn and a level: without a turn, without a level, and with both
pub nested_is_late : (levels : ℕ) (t : Term) (x : Option Noun) (y : Noun) (s : State) → s.left ≡ 0 → nested levels t x y s ≡ fails TimeLimit s
unfolding nested
nested_is_late zero t x y s h = late_turn (fails Stack) s h
nested_is_late (suc levels) t x y s h = late_turn (layer (λ verb. applied_with (nested levels) (way_of verb) verb) t x y) s h

pub nested_is_deep : (levels : ℕ) (u : Term) (x : Option Noun) (y : Noun) (s t : State) → levels ≡ 0 → s ≡ with_left (t.left + 1) t → nested levels u x y s ≡ fails Stack t
unfolding nested
nested_is_deep zero u x y s t none h = on_time (fails Stack) s t h
nested_is_deep (suc levels) u x y s t none h = cc

pub nested_goes_down : (levels : ℕ) (u : Term) (x : Option Noun) (y : Noun) (s t : State) → levels ≢ 0 → s ≡ with_left (t.left + 1) t
    → nested levels u x y s ≡ layer (applied (levels - 1)) u x y t
unfolding nested
nested_goes_down zero u x y s t some h = absurd (some refl)
nested_goes_down (suc levels) u x y s t some h =
    let down : levels ≡ suc levels - 1 = omega arith in
    on_time (layer (λ verb. applied_with (nested levels) (way_of verb) verb) u x y) s t h ∙ ap (λ n. layer (applied n) u x y t) down

-- what is applied one level further down
pub goes_to_reference : (meant : Term → Option Noun → Noun → Action Noun) (t : Term) (name : Locative) (x : Option Noun) (y : Noun) (s : State) → Some name ≡ reference_in t
    → layer meant t x y s ≡ (referred name then (λ verb. meant verb x y)) s
goes_to_reference meant t name x y s h = sym (ap (λ o. layer_by meant o t x y s) h)

pub goes_to_derived : (meant : Term → Option Noun → Noun → Action Noun) (t : Term) (d : Derivation) (x : Option Noun) (y : Noun) (s : State) → None ≡ reference_in t → d ≡ derived t x y
    → layer meant t x y s ≡ ran meant d s
goes_to_derived meant t d x y s h is = sym (ap (λ e. ran meant e s) is ∙ ap (λ r. layer_by meant r t x y s) h)

-- a row, without a turn and with one
pub acted_late : (levels row : ℕ) (parts : List Part) (s : State) → s.left ≡ 0 → acted levels row parts s ≡ fails TimeLimit s
unfolding acted
acted_late levels row parts s h = late_turn (done levels (deed_of row parts)) s h

pub acted_on_time : (levels row : ℕ) (parts : List Part) (s t : State) → s ≡ with_left (t.left + 1) t → acted levels row parts s ≡ done levels (deed_of row parts) t
unfolding acted
acted_on_time levels row parts s t h = on_time (done levels (deed_of row parts)) s t h
