-- The levels of a term, one level at a time.
use Rattle.std.proofs.Common.{◌≡◌, ℕ, ◌+◌, ◌<◌, max, subst, ap, sym, ◌∙◌, List, Option, arith}
use Rattle.std.specs.Prelude.{ℤ}
use Rattle.jdata.specs.declared.noun.Noun.{Noun}
use Rattle.jdata.specs.declared.primitive.Primitive.{Primitive}
use Rattle.jterm.specs.Levels.{levels, level_step}
use Rattle.jterm.specs.declared.term.Locative.{Locative}
use Rattle.jterm.specs.declared.term.Term.{Term, Term-F, fold-roll-Term, out-Term, roll-out-Term}
use Rattle.jterm.specs.declared.term.Term.TheVariants as term
use Rattle.jterm.specs.declared.term.Term.TheOpen as one
use Rattle.jterm.specs.declared.words.Adv.{Adv}
use Rattle.jterm.specs.declared.words.Con.{Con}

pub levels_with1 : (w : Adv) (l : Term) → levels (term.With1 w l) ≡ levels l + 1
unfolding levels
levels_with1 w l = ap levels (sym (term.rolls-With1 w l)) ∙ fold-roll-Term ℕ level_step (one.With1 w l)

pub levels_with2 : (w : Con) (l r : Term) → levels (term.With2 w l r) ≡ max (levels l) (levels r) + 1
unfolding levels
levels_with2 w l r = ap levels (sym (term.rolls-With2 w l r)) ∙ fold-roll-Term ℕ level_step (one.With2 w l r)

pub levels_hook : (l r : Term) → levels (term.Hook l r) ≡ max (levels l) (levels r) + 1
unfolding levels
levels_hook l r = ap levels (sym (term.rolls-Hook l r)) ∙ fold-roll-Term ℕ level_step (one.Hook l r)

pub levels_fork : (l m r : Term) → levels (term.Fork l m r) ≡ max (levels l) (max (levels m) (levels r)) + 1
unfolding levels
levels_fork l m r = ap levels (sym (term.rolls-Fork l m r)) ∙ fold-roll-Term ℕ level_step (one.Fork l m r)

pub levels_noun : (v : Noun) → levels (term.Noun v) ≡ 1
unfolding levels
levels_noun v = ap levels (sym (term.rolls-Noun v)) ∙ fold-roll-Term ℕ level_step (one.Noun v)

pub levels_ranks : (l : List (Option ℤ)) → levels (term.Ranks l) ≡ 1
unfolding levels
levels_ranks l = ap levels (sym (term.rolls-Ranks l)) ∙ fold-roll-Term ℕ level_step (one.Ranks l)

pub levels_verb : (v : Primitive) → levels (term.Verb v) ≡ 1
unfolding levels
levels_verb v = ap levels (sym (term.rolls-Verb v)) ∙ fold-roll-Term ℕ level_step (one.Verb v)

pub levels_const : (n : ℤ) → levels (term.Const n) ≡ 1
unfolding levels
levels_const n = ap levels (sym (term.rolls-Const n)) ∙ fold-roll-Term ℕ level_step (one.Const n)

pub levels_adverb : (w : Adv) → levels (term.Adverb w) ≡ 1
unfolding levels
levels_adverb w = ap levels (sym (term.rolls-Adverb w)) ∙ fold-roll-Term ℕ level_step (one.Adverb w)

pub levels_conj : (w : Con) → levels (term.Conj w) ≡ 1
unfolding levels
levels_conj w = ap levels (sym (term.rolls-Conj w)) ∙ fold-roll-Term ℕ level_step (one.Conj w)

pub levels_name : (l : Locative) → levels (term.Name l) ≡ 1
unfolding levels
levels_name l = ap levels (sym (term.rolls-Name l)) ∙ fold-roll-Term ℕ level_step (one.Name l)

some_levels : (l : Term-F ℕ) → 0 < level_step l
some_levels (one.With1 w l) = omega arith
some_levels (one.With2 w l r) = omega arith
some_levels (one.Hook l r) = omega arith
some_levels (one.Fork l m r) = omega arith
some_levels other = omega arith

pub deep : (t : Term) → 0 < levels t
unfolding levels
deep t = let is = ap levels (sym (roll-out-Term t)) ∙ fold-roll-Term ℕ level_step (out-Term t) in subst (λ n. 0 < n) (sym is) (some_levels _)

pub ruleset levels_of = (deep, levels_with1, levels_with2, levels_hook, levels_fork, levels_noun, levels_ranks, levels_verb, levels_const, levels_adverb, levels_conj, levels_name)
