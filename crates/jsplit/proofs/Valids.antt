-- A valid term has no more levels than a term may have.
use Rattle.std.proofs.Common.{◌≡◌, ◌≤◌, ℕ, sym, ◌∙◌, refl, subst, arith, Bool, true, false, Option, Some, None}
use Rattle.std.specs.Prelude.{◌&&◌, is_ok, nat_le}
use Rattle.std.proofs.lemmas.Bool.{lt-leb, le-leb}
use Rattle.jdata.specs.declared.fault.Fault.{Fault}
use Rattle.jterm.specs.Acts.{made, adverb_fault, conj_fault, hook_fault, fork_fault}
use Rattle.jterm.specs.Levels.{levels, most_levels}
use Rattle.jterm.specs.Validity.{IsValid}
use Rattle.jterm.specs.declared.term.Term.{Term, Term-F, roll-Term, out-Term, roll-out-Term}
use Rattle.jterm.specs.declared.term.Term.TheOpen as one
use Rattle.jterm.specs.declared.term.Term.TheVariants as term
use Rattle.jterm.proofs.Deep.{levels_noun, levels_ranks, levels_verb, levels_const, levels_adverb, levels_conj, levels_name}
use Rattle.jterm.proofs.Valid.{valid_with1, valid_with2, valid_hook, valid_fork}

first_of : (a b : Bool) → a && b ≡ true → a ≡ true
first_of true b h = refl
first_of false b h = cc

reaches : (n : ℕ) → nat_le n most_levels ≡ true → n ≤ most_levels
reaches n h = grind (arith, lt-leb, le-leb)

fits_by : (t : Term) (d : Bool) → nat_le (levels t) most_levels ≡ d → is_ok (made None t) ≡ true → levels t ≤ most_levels
fits_by t true e h = reaches (levels t) e
fits_by t false e h = let no : false ≡ true = rw e at h in cc

made_fits : (o : Option Fault) (t : Term) → is_ok (made o t) ≡ true → levels t ≤ most_levels
made_fits (Some f) t h = cc
made_fits None t h = fits_by t (nat_le (levels t) most_levels) refl h

abbrev Fitting : Term → Type 0
Fitting t = IsValid t → levels t ≤ most_levels

layer : (y : Term-F Term) → Fitting (roll-Term y)
layer (one.Noun v) = subst Fitting (sym (term.rolls-Noun v)) (λ h. omega (arith, levels_noun v))
layer (one.Ranks l) = subst Fitting (sym (term.rolls-Ranks l)) (λ h. omega (arith, levels_ranks l))
layer (one.Verb v) = subst Fitting (sym (term.rolls-Verb v)) (λ h. omega (arith, levels_verb v))
layer (one.Const n) = subst Fitting (sym (term.rolls-Const n)) (λ h. omega (arith, levels_const n))
layer (one.Adverb w) = subst Fitting (sym (term.rolls-Adverb w)) (λ h. omega (arith, levels_adverb w))
layer (one.Conj w) = subst Fitting (sym (term.rolls-Conj w)) (λ h. omega (arith, levels_conj w))
layer (one.Name l) = subst Fitting (sym (term.rolls-Name l)) (λ h. omega (arith, levels_name l))
layer (one.With1 w l) = subst Fitting (sym (term.rolls-With1 w l)) (λ h. made_fits (adverb_fault w l) (term.With1 w l) (first_of _ _ (sym (valid_with1 w l) ∙ h)))
layer (one.With2 w l r) = subst Fitting (sym (term.rolls-With2 w l r)) (λ h. made_fits (conj_fault w l r) (term.With2 w l r) (first_of _ _ (sym (valid_with2 w l r) ∙ h)))
layer (one.Hook l r) = subst Fitting (sym (term.rolls-Hook l r)) (λ h. made_fits (hook_fault l r) (term.Hook l r) (first_of _ _ (sym (valid_hook l r) ∙ h)))
layer (one.Fork l m r) = subst Fitting (sym (term.rolls-Fork l m r)) (λ h. made_fits (fork_fault l m r) (term.Fork l m r) (first_of _ _ (sym (valid_fork l m r) ∙ h)))

pub valid_fits : (t : Term) → IsValid t → levels t ≤ most_levels
valid_fits t = subst Fitting (roll-out-Term t) (layer (out-Term t))
