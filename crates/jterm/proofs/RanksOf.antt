-- The ranks of a term, one level at a time.
use Rattle.std.proofs.Common.{◌≡◌, ap, sym, ◌∙◌, List, Option}
use Rattle.std.specs.Prelude.{ℤ}
use Rattle.jdata.specs.declared.noun.Noun.{Noun}
use Rattle.jdata.specs.declared.primitive.Primitive.{Primitive}
use Rattle.jterm.specs.Ranks.{ranks_of, rank_step, unbounded, primitive_ranks, with1_ranks, with2_ranks}
use Rattle.jterm.specs.declared.ranking.VerbRanks.{VerbRanks}
use Rattle.jterm.specs.declared.term.Locative.{Locative}
use Rattle.jterm.specs.declared.term.Term.{Term, para-roll-Term}
use Rattle.jterm.specs.declared.term.Term.TheVariants as term
use Rattle.jterm.specs.declared.term.Term.TheOpen as one
use Rattle.jterm.specs.declared.words.Adv.{Adv}
use Rattle.jterm.specs.declared.words.Con.{Con}

pub ranks_noun : (v : Noun) → ranks_of (term.Noun v) ≡ unbounded
unfolding ranks_of
ranks_noun v = ap ranks_of (sym (term.rolls-Noun v)) ∙ para-roll-Term VerbRanks rank_step (one.Noun v)

pub ranks_ranks : (l : List (Option ℤ)) → ranks_of (term.Ranks l) ≡ unbounded
unfolding ranks_of
ranks_ranks l = ap ranks_of (sym (term.rolls-Ranks l)) ∙ para-roll-Term VerbRanks rank_step (one.Ranks l)

pub ranks_verb : (v : Primitive) → ranks_of (term.Verb v) ≡ primitive_ranks v
unfolding ranks_of
ranks_verb v = ap ranks_of (sym (term.rolls-Verb v)) ∙ para-roll-Term VerbRanks rank_step (one.Verb v)

pub ranks_const : (n : ℤ) → ranks_of (term.Const n) ≡ unbounded
unfolding ranks_of
ranks_const n = ap ranks_of (sym (term.rolls-Const n)) ∙ para-roll-Term VerbRanks rank_step (one.Const n)

pub ranks_adverb : (w : Adv) → ranks_of (term.Adverb w) ≡ unbounded
unfolding ranks_of
ranks_adverb w = ap ranks_of (sym (term.rolls-Adverb w)) ∙ para-roll-Term VerbRanks rank_step (one.Adverb w)

pub ranks_conj : (w : Con) → ranks_of (term.Conj w) ≡ unbounded
unfolding ranks_of
ranks_conj w = ap ranks_of (sym (term.rolls-Conj w)) ∙ para-roll-Term VerbRanks rank_step (one.Conj w)

pub ranks_name : (l : Locative) → ranks_of (term.Name l) ≡ unbounded
unfolding ranks_of
ranks_name l = ap ranks_of (sym (term.rolls-Name l)) ∙ para-roll-Term VerbRanks rank_step (one.Name l)

pub ranks_with1 : (w : Adv) (l : Term) → ranks_of (term.With1 w l) ≡ with1_ranks w (ranks_of l)
unfolding ranks_of
ranks_with1 w l = ap ranks_of (sym (term.rolls-With1 w l)) ∙ para-roll-Term VerbRanks rank_step (one.With1 w l)

pub ranks_with2 : (w : Con) (l r : Term) → ranks_of (term.With2 w l r) ≡ with2_ranks w (l, ranks_of l) (r, ranks_of r)
unfolding ranks_of
ranks_with2 w l r = ap ranks_of (sym (term.rolls-With2 w l r)) ∙ para-roll-Term VerbRanks rank_step (one.With2 w l r)

pub ranks_hook : (l r : Term) → ranks_of (term.Hook l r) ≡ unbounded
unfolding ranks_of
ranks_hook l r = ap ranks_of (sym (term.rolls-Hook l r)) ∙ para-roll-Term VerbRanks rank_step (one.Hook l r)

pub ranks_fork : (l m r : Term) → ranks_of (term.Fork l m r) ≡ unbounded
unfolding ranks_of
ranks_fork l m r = ap ranks_of (sym (term.rolls-Fork l m r)) ∙ para-roll-Term VerbRanks rank_step (one.Fork l m r)

pub ruleset ranks_are = (ranks_noun, ranks_ranks, ranks_verb, ranks_const, ranks_adverb, ranks_conj, ranks_name, ranks_with1, ranks_with2, ranks_hook, ranks_fork)
