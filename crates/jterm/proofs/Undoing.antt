-- Which terms have an obverse, one level at a time.
use Rattle.std.proofs.Common.{◌≡◌, ap, sym, ◌∙◌, List, Option}
use Rattle.std.specs.Prelude.{ℤ, Bool, false}
use Rattle.jdata.specs.declared.noun.Noun.{Noun}
use Rattle.jdata.specs.declared.primitive.Primitive.{Primitive}
use Rattle.jterm.specs.Obverses.{has_obverse, obverse_step, is_undone, is_undone_with2}
use Rattle.jterm.specs.declared.term.Locative.{Locative}
use Rattle.jterm.specs.declared.term.Term.{Term, para-roll-Term}
use Rattle.jterm.specs.declared.term.Term.TheVariants as term
use Rattle.jterm.specs.declared.term.Term.TheOpen as one
use Rattle.jterm.specs.declared.words.Adv.{Adv}
use Rattle.jterm.specs.declared.words.Con.{Con}

pub obverse_noun : (v : Noun) → has_obverse (term.Noun v) ≡ false
unfolding has_obverse
obverse_noun v = ap has_obverse (sym (term.rolls-Noun v)) ∙ para-roll-Term Bool obverse_step (one.Noun v)

pub obverse_ranks : (l : List (Option ℤ)) → has_obverse (term.Ranks l) ≡ false
unfolding has_obverse
obverse_ranks l = ap has_obverse (sym (term.rolls-Ranks l)) ∙ para-roll-Term Bool obverse_step (one.Ranks l)

pub obverse_verb : (v : Primitive) → has_obverse (term.Verb v) ≡ is_undone v
unfolding has_obverse
obverse_verb v = ap has_obverse (sym (term.rolls-Verb v)) ∙ para-roll-Term Bool obverse_step (one.Verb v)

pub obverse_const : (n : ℤ) → has_obverse (term.Const n) ≡ false
unfolding has_obverse
obverse_const n = ap has_obverse (sym (term.rolls-Const n)) ∙ para-roll-Term Bool obverse_step (one.Const n)

pub obverse_adverb : (w : Adv) → has_obverse (term.Adverb w) ≡ false
unfolding has_obverse
obverse_adverb w = ap has_obverse (sym (term.rolls-Adverb w)) ∙ para-roll-Term Bool obverse_step (one.Adverb w)

pub obverse_conj : (w : Con) → has_obverse (term.Conj w) ≡ false
unfolding has_obverse
obverse_conj w = ap has_obverse (sym (term.rolls-Conj w)) ∙ para-roll-Term Bool obverse_step (one.Conj w)

pub obverse_name : (l : Locative) → has_obverse (term.Name l) ≡ false
unfolding has_obverse
obverse_name l = ap has_obverse (sym (term.rolls-Name l)) ∙ para-roll-Term Bool obverse_step (one.Name l)

pub obverse_with1 : (w : Adv) (l : Term) → has_obverse (term.With1 w l) ≡ false
unfolding has_obverse
obverse_with1 w l = ap has_obverse (sym (term.rolls-With1 w l)) ∙ para-roll-Term Bool obverse_step (one.With1 w l)

pub obverse_with2 : (w : Con) (l r : Term) → has_obverse (term.With2 w l r) ≡ is_undone_with2 w (l, has_obverse l) (r, has_obverse r)
unfolding has_obverse
obverse_with2 w l r = ap has_obverse (sym (term.rolls-With2 w l r)) ∙ para-roll-Term Bool obverse_step (one.With2 w l r)

pub obverse_hook : (l r : Term) → has_obverse (term.Hook l r) ≡ false
unfolding has_obverse
obverse_hook l r = ap has_obverse (sym (term.rolls-Hook l r)) ∙ para-roll-Term Bool obverse_step (one.Hook l r)

pub obverse_fork : (l m r : Term) → has_obverse (term.Fork l m r) ≡ false
unfolding has_obverse
obverse_fork l m r = ap has_obverse (sym (term.rolls-Fork l m r)) ∙ para-roll-Term Bool obverse_step (one.Fork l m r)

pub ruleset has_obverse_of = (obverse_noun, obverse_ranks, obverse_verb, obverse_const, obverse_adverb, obverse_conj, obverse_name, obverse_with1, obverse_with2, obverse_hook, obverse_fork)
