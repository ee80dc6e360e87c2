-- Which terms are valid, one level at a time.
use Rattle.std.proofs.Common.{◌≡◌, ap, sym, ◌∙◌, List, Option}
use Rattle.std.specs.Prelude.{ℤ, Bool, true, ◌&&◌, is_ok, is_none}
use Rattle.jdata.specs.declared.noun.Noun.{Noun}
use Rattle.jdata.specs.declared.primitive.Primitive.{Primitive}
use Rattle.std.specs.List.{list_any}
use Rattle.jterm.specs.Acts.{adverb_of, conj_of, hook_of, fork_of}
use Rattle.jterm.specs.Validity.{is_valid, valid_step, is_digit}
use Rattle.jterm.specs.declared.term.Locative.{Locative}
use Rattle.jterm.specs.declared.term.Term.{Term, para-roll-Term}
use Rattle.jterm.specs.declared.term.Term.TheVariants as term
use Rattle.jterm.specs.declared.term.Term.TheOpen as one
use Rattle.jterm.specs.declared.words.Adv.{Adv}
use Rattle.jterm.specs.declared.words.Con.{Con}

pub valid_noun : (v : Noun) → is_valid (term.Noun v) ≡ true
unfolding is_valid
valid_noun v = ap is_valid (sym (term.rolls-Noun v)) ∙ para-roll-Term Bool valid_step (one.Noun v)

pub valid_ranks : (l : List (Option ℤ)) → is_valid (term.Ranks l) ≡ list_any (λ r. is_none r) l
unfolding is_valid
valid_ranks l = ap is_valid (sym (term.rolls-Ranks l)) ∙ para-roll-Term Bool valid_step (one.Ranks l)

pub valid_verb : (v : Primitive) → is_valid (term.Verb v) ≡ true
unfolding is_valid
valid_verb v = ap is_valid (sym (term.rolls-Verb v)) ∙ para-roll-Term Bool valid_step (one.Verb v)

pub valid_const : (n : ℤ) → is_valid (term.Const n) ≡ is_digit n
unfolding is_valid
valid_const n = ap is_valid (sym (term.rolls-Const n)) ∙ para-roll-Term Bool valid_step (one.Const n)

pub valid_adverb : (w : Adv) → is_valid (term.Adverb w) ≡ true
unfolding is_valid
valid_adverb w = ap is_valid (sym (term.rolls-Adverb w)) ∙ para-roll-Term Bool valid_step (one.Adverb w)

pub valid_conj : (w : Con) → is_valid (term.Conj w) ≡ true
unfolding is_valid
valid_conj w = ap is_valid (sym (term.rolls-Conj w)) ∙ para-roll-Term Bool valid_step (one.Conj w)

pub valid_name : (l : Locative) → is_valid (term.Name l) ≡ true
unfolding is_valid
valid_name l = ap is_valid (sym (term.rolls-Name l)) ∙ para-roll-Term Bool valid_step (one.Name l)

pub valid_with1 : (w : Adv) (l : Term) → is_valid (term.With1 w l) ≡ (is_ok (adverb_of w l) && is_valid l)
unfolding is_valid
valid_with1 w l = ap is_valid (sym (term.rolls-With1 w l)) ∙ para-roll-Term Bool valid_step (one.With1 w l)

pub valid_with2 : (w : Con) (l r : Term) → is_valid (term.With2 w l r) ≡ (is_ok (conj_of w l r) && (is_valid l && is_valid r))
unfolding is_valid
valid_with2 w l r = ap is_valid (sym (term.rolls-With2 w l r)) ∙ para-roll-Term Bool valid_step (one.With2 w l r)

pub valid_hook : (l r : Term) → is_valid (term.Hook l r) ≡ (is_ok (hook_of l r) && (is_valid l && is_valid r))
unfolding is_valid
valid_hook l r = ap is_valid (sym (term.rolls-Hook l r)) ∙ para-roll-Term Bool valid_step (one.Hook l r)

pub valid_fork : (l m r : Term) → is_valid (term.Fork l m r) ≡ (is_ok (fork_of l m r) && (is_valid l && (is_valid m && is_valid r)))
unfolding is_valid
valid_fork l m r = ap is_valid (sym (term.rolls-Fork l m r)) ∙ para-roll-Term Bool valid_step (one.Fork l m r)

pub ruleset valid_is = (valid_noun, valid_ranks, valid_verb, valid_const, valid_adverb, valid_conj, valid_name, valid_with1, valid_with2, valid_hook, valid_fork)
