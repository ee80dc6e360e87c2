-- How the applications of a verb to several parts go on.
use Rattle.std.proofs.Common.{◌≡◌, ◌≢◌, ◌<◌, ◌+◌, ◌-◌, ℕ, ℤ, zero, suc, Option, List, [], ◌∷◌, ◌++◌, Result, Ok, Err, IfOk, refl, sym, ap, ◌∙◌, arith}
use Rattle.std.specs.List.{range_with_len}
use Rattle.jdata.specs.Answers.{Answers}
use Rattle.jdata.specs.Noun.{product}
use Rattle.jdata.specs.declared.fault.Fault.{Fault}
use Rattle.jdata.specs.declared.fault.NoMemory.{NoMemory}
use Rattle.jdata.specs.declared.fault.Trouble.{Trouble}
use Rattle.jdata.specs.declared.fault.Trouble.TheVariants as trouble
use Rattle.jdata.specs.declared.noun.Noun.{Noun}
use Rattle.jframe.specs.Assembly.{assembled}
use Rattle.jterm.specs.declared.term.Term.{Term}
use Rattle.juses.specs.Program.{Return, Ask}
use Rattle.jplan.specs.Derivations.{on, on_value}
use Rattle.jplan.specs.Plans.{Ends, rest, left_of}
use Rattle.jplan.specs.Arguments.{frame, x_in}
use Rattle.jplan.specs.Several.{Several, each, from_on, on_cells, several, several_cells, several_of, with_frame}
use Rattle.jplan.specs.declared.arguments.Arguments.{Arguments}
use Rattle.jplan.specs.declared.parts.Parts.TheVariants as parts
use Rattle.jplan.specs.declared.plan.Plan.{Plan}

-- what a plan is done with
pub with_ok : (P Q : Plan → Type 0) (r : Result Plan NoMemory) → ((p : Plan) → P p → Q p) → IfOk r P → IfOk r Q
with_ok P Q (Ok p) f h = f p h
with_ok P Q (Err e) f h = tt

pub ends_as : (meant : Result Noun Fault) (answer : Result Noun Trouble) (r : Result Plan NoMemory) → Answers meant answer → Ends answer r → IfOk r (λ p. rest p ≡ Return meant)
ends_as meant (Ok v) r is h = with_ok (λ p. rest p ≡ Return (Ok v)) (λ p. rest p ≡ Return meant) r (λ p e. e ∙ ap Return (sym is)) h.0
ends_as meant (Err (trouble.Fault f)) r is h = with_ok (λ p. rest p ≡ Return (Err f)) (λ p. rest p ≡ Return meant) r (λ p e. e ∙ ap Return (sym is)) h.0
ends_as meant (Err trouble.NoMemory) r is h = with_ok (λ p. ⊥) (λ p. rest p ≡ Return meant) r (λ p e. absurd e) h

pub nothing_left : (answer : Result Noun Trouble) (r : Result Plan NoMemory) → Ends answer r → IfOk r (λ p. left_of p ≡ 0)
nothing_left (Ok v) r h = h.1
nothing_left (Err (trouble.Fault f)) r h = h.1
nothing_left (Err trouble.NoMemory) r h = with_ok (λ p. ⊥) (λ p. left_of p ≡ 0) r (λ p e. absurd e) h

by_left : (u : Term) (s : Several) (i n : ℕ) (results : List Noun) → n ≢ 0 → each u s (range_with_len i n) results ≡ Ask (on u (s.part i).0 (s.part i).1) (on_value (λ v. each u s (range_with_len (i + 1) (n - 1)) (results ++ v ∷ [])))
by_left u s i zero results some = absurd (some refl)
by_left u s i (suc n) results some =
    let less : n ≡ suc n - 1 = omega arith in
    ap (λ m. Ask (on u (s.part i).0 (s.part i).1) (on_value (λ v. each u s (range_with_len (i + 1) m) (results ++ v ∷ [])))) less

pub all_done : (u : Term) (s : Several) (i : ℕ) (results : List Noun) → i ≡ product s.frame → Return (assembled s.frame results) ≡ from_on u s i results
all_done u s i results is =
    let none : 0 ≡ product s.frame - i = omega (arith, is) in
    ap (λ n. each u s (range_with_len i n) results) none

pub one_more : (u : Term) (s : Several) (i : ℕ) (results : List Noun) → i < product s.frame
    → Ask (on u (s.part i).0 (s.part i).1) (on_value (λ v. from_on u s (i + 1) (results ++ v ∷ []))) ≡ from_on u s i results
one_more u s i results below =
    let some : product s.frame - i ≢ 0 = λ none. omega (arith, below, none) in
    let less : product s.frame - i - 1 ≡ product s.frame - (i + 1) = omega arith in
    sym (by_left u s i (product s.frame - i) results some ∙ ap (λ m. Ask (on u (s.part i).0 (s.part i).1) (on_value (λ v. each u s (range_with_len (i + 1) m) (results ++ v ∷ [])))) less)

-- the frame of arguments that were parted at these ranks
pub frame_given : (a : Arguments) (l r : Option ℤ) (x : Option Noun) (y : Noun) → a.left ≡ l → a.right ≡ r → x_in a.x ≡ x → a.y.value ≡ y → frame l r x y ≡ Ok a.frame
frame_given a l r x y e f g h = sym (λ i. frame (e i) (f i) (g i) (h i)) ∙ a.parted.frame_is

pub cells_are : (u : Term) (a : Arguments) (l r : Option ℤ) (x : Option Noun) (y : Noun) → a.left ≡ l → a.right ≡ r → x_in a.x ≡ x → a.y.value ≡ y
    → several u (several_of (parts.Cells a)) ≡ several_cells u l r x y
cells_are u a l r x y e f g h =
    let is : several_of (parts.Cells a) ≡ on_cells l r x y a.frame = λ i. on_cells (e i) (f i) (g i) (h i) a.frame in
    ap (several u) is ∙ sym (ap (λ o. with_frame o (λ whole. several u (on_cells l r x y whole))) (frame_given a l r x y e f g h))
