-- What the acts give, by the levels of the operands.
use Rattle.std.proofs.Common.{◌≡◌, ℕ, ◌+◌, ◌<◌, ◌≤◌, max, ap, sym, ◌∙◌, refl, subst, arith, Bool, true, false, Option, Some, None, Ok, Err, IsTrue}
use Rattle.std.specs.Prelude.{nat_le, is_ok, ◌&&◌, Result}
use Rattle.std.proofs.lemmas.Bool.{lt-leb, le-leb}
use Rattle.jdata.specs.declared.fault.Fault.{Fault}
use Rattle.jdata.specs.declared.fault.Fault.TheVariants as fault
use Rattle.jterm.specs.Acts.{made, adverb_fault, conj_fault, fork_fault, hook_fault, adverb_of, conj_of, fork_of, hook_of}
use Rattle.jterm.specs.Levels.{levels, most_levels}
use Rattle.jterm.specs.Validity.{is_valid, IsValid}
use Rattle.jterm.specs.declared.term.Term.{Term}
use Rattle.jterm.specs.declared.term.Term.TheVariants as term
use Rattle.jterm.specs.declared.words.Adv.{Adv}
use Rattle.jterm.specs.declared.words.Con.{Con}
use Rattle.jterm.proofs.Deep.{levels_with1, levels_with2, levels_hook, levels_fork}
use Rattle.jterm.proofs.Valid.{valid_with1, valid_with2, valid_hook, valid_fork}

pub made_some : (o : Option Fault) (t : Term) (f : Fault) → o ≡ Some f → made o t ≡ Err f
made_some None t f h = cc
made_some (Some g) t f h = cc

pub made_deep : (o : Option Fault) (t : Term) → o ≡ None → most_levels < levels t → made o t ≡ Err fault.Limit
made_deep None t h deep = rw (lt-leb _ _ deep)
made_deep (Some g) t h deep = cc

pub made_ok : (o : Option Fault) (t : Term) → o ≡ None → levels t ≤ most_levels → made o t ≡ Ok t
made_ok None t h few = rw (le-leb _ _ few)
made_ok (Some g) t h few = cc

both : (a b : Bool) → a ≡ true → b ≡ true → a && b ≡ true
both true b h k = k
both false b h k = cc

is_made : {T : Type 0} (r : Result T Fault) (t : T) → r ≡ Ok t → is_ok r ≡ true
is_made (Ok s) t h = refl
is_made (Err f) t h = cc

-- nothing above 199 levels goes under one level more
above : (m : ℕ) → nat_le m 199 ≡ false → most_levels < m + 1
above m h = grind (arith, lt-leb, le-leb)

below : (m : ℕ) → nat_le m 199 ≡ true → m + 1 ≤ most_levels
below m h = grind (arith, lt-leb, le-leb)

pub adverb_refused : (w : Adv) (l : Term) (f : Fault) → adverb_fault w l ≡ Some f → adverb_of w l ≡ Err f
adverb_refused w l f h = made_some (adverb_fault w l) (term.With1 w l) f h

pub adverb_deep : (w : Adv) (l : Term) → adverb_fault w l ≡ None → nat_le (levels l) 199 ≡ false → adverb_of w l ≡ Err fault.Limit
adverb_deep w l h deep = made_deep (adverb_fault w l) (term.With1 w l) h (rw (levels_with1 w l) (above (levels l) deep))

pub adverb_given : (w : Adv) (l : Term) → adverb_fault w l ≡ None → nat_le (levels l) 199 ≡ true → adverb_of w l ≡ Ok (term.With1 w l)
adverb_given w l h few = made_ok (adverb_fault w l) (term.With1 w l) h (rw (levels_with1 w l) (below (levels l) few))

pub adverb_valid : (w : Adv) (l : Term) → adverb_of w l ≡ Ok (term.With1 w l) → is_valid l ≡ true → is_valid (term.With1 w l) ≡ true
adverb_valid w l h v = valid_with1 w l ∙ both _ _ (is_made _ _ h) v

above_two : (m n : ℕ) → nat_le m 199 && nat_le n 199 ≡ false → most_levels < max m n + 1
above_two m n h = grind (arith, lt-leb, le-leb)

below_two : (m n : ℕ) → nat_le m 199 && nat_le n 199 ≡ true → max m n + 1 ≤ most_levels
below_two m n h = grind (arith, lt-leb, le-leb)

pub conj_refused : (w : Con) (l r : Term) (f : Fault) → conj_fault w l r ≡ Some f → conj_of w l r ≡ Err f
conj_refused w l r f h = made_some (conj_fault w l r) (term.With2 w l r) f h

pub conj_deep : (w : Con) (l r : Term) → conj_fault w l r ≡ None → nat_le (levels l) 199 && nat_le (levels r) 199 ≡ false → conj_of w l r ≡ Err fault.Limit
conj_deep w l r h deep = made_deep (conj_fault w l r) (term.With2 w l r) h (rw (levels_with2 w l r) (above_two (levels l) (levels r) deep))

pub conj_given : (w : Con) (l r : Term) → conj_fault w l r ≡ None → nat_le (levels l) 199 && nat_le (levels r) 199 ≡ true → conj_of w l r ≡ Ok (term.With2 w l r)
conj_given w l r h few = made_ok (conj_fault w l r) (term.With2 w l r) h (rw (levels_with2 w l r) (below_two (levels l) (levels r) few))

pub conj_valid : (w : Con) (l r : Term) → conj_of w l r ≡ Ok (term.With2 w l r) → is_valid l ≡ true → is_valid r ≡ true → is_valid (term.With2 w l r) ≡ true
conj_valid w l r h v u = valid_with2 w l r ∙ both _ _ (is_made _ _ h) (both _ _ v u)

pub hook_refused : (l r : Term) (f : Fault) → hook_fault l r ≡ Some f → hook_of l r ≡ Err f
hook_refused l r f h = made_some (hook_fault l r) (term.Hook l r) f h

pub hook_deep : (l r : Term) → hook_fault l r ≡ None → nat_le (levels l) 199 && nat_le (levels r) 199 ≡ false → hook_of l r ≡ Err fault.Limit
hook_deep l r h deep = made_deep (hook_fault l r) (term.Hook l r) h (rw (levels_hook l r) (above_two (levels l) (levels r) deep))

pub hook_given : (l r : Term) → hook_fault l r ≡ None → nat_le (levels l) 199 && nat_le (levels r) 199 ≡ true → hook_of l r ≡ Ok (term.Hook l r)
hook_given l r h few = made_ok (hook_fault l r) (term.Hook l r) h (rw (levels_hook l r) (below_two (levels l) (levels r) few))

pub hook_valid : (l r : Term) → hook_of l r ≡ Ok (term.Hook l r) → is_valid l ≡ true → is_valid r ≡ true → is_valid (term.Hook l r) ≡ true
hook_valid l r h v u = valid_hook l r ∙ both _ _ (is_made _ _ h) (both _ _ v u)

pub fork_refused : (l m r : Term) (f : Fault) → fork_fault l m r ≡ Some f → fork_of l m r ≡ Err f
fork_refused l m r f h = made_some (fork_fault l m r) (term.Fork l m r) f h

above_first : (a b c : ℕ) → nat_le a 199 ≡ false → most_levels < max a (max b c) + 1
above_first a b c h = grind (arith, lt-leb, le-leb)

above_others : (a b c : ℕ) → nat_le b 199 && nat_le c 199 ≡ false → most_levels < max a (max b c) + 1
above_others a b c h = grind (arith, lt-leb, le-leb)

below_three : (a b c : ℕ) → nat_le a 199 ≡ true → nat_le b 199 && nat_le c 199 ≡ true → max a (max b c) + 1 ≤ most_levels
below_three a b c h k = grind (arith, lt-leb, le-leb)

pub fork_deep_left : (l m r : Term) → fork_fault l m r ≡ None → nat_le (levels l) 199 ≡ false → fork_of l m r ≡ Err fault.Limit
fork_deep_left l m r h deep = made_deep (fork_fault l m r) (term.Fork l m r) h (rw (levels_fork l m r) (above_first (levels l) (levels m) (levels r) deep))

pub fork_deep : (l m r : Term) → fork_fault l m r ≡ None → nat_le (levels m) 199 && nat_le (levels r) 199 ≡ false → fork_of l m r ≡ Err fault.Limit
fork_deep l m r h deep = made_deep (fork_fault l m r) (term.Fork l m r) h (rw (levels_fork l m r) (above_others (levels l) (levels m) (levels r) deep))

pub fork_given : (l m r : Term) → fork_fault l m r ≡ None → nat_le (levels l) 199 ≡ true → nat_le (levels m) 199 && nat_le (levels r) 199 ≡ true → fork_of l m r ≡ Ok (term.Fork l m r)
fork_given l m r h i j = made_ok (fork_fault l m r) (term.Fork l m r) h (rw (levels_fork l m r) (below_three (levels l) (levels m) (levels r) i j))

pub fork_valid : (l m r : Term) → fork_of l m r ≡ Ok (term.Fork l m r) → is_valid l ≡ true → is_valid m ≡ true → is_valid r ≡ true → is_valid (term.Fork l m r) ≡ true
fork_valid l m r h i j k = valid_fork l m r ∙ both _ _ (is_made _ _ h) (both _ _ i (both _ _ j k))

pub ruleset adverbs_are = (adverb_refused, adverb_deep, adverb_given, adverb_valid)

pub ruleset conjs_are = (conj_refused, conj_deep, conj_given, conj_valid)

pub ruleset hooks_are = (hook_refused, hook_deep, hook_given, hook_valid)

pub ruleset forks_are = (fork_refused, fork_deep_left, fork_deep, fork_given, fork_valid)
