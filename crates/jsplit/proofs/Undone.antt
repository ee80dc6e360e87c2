-- Obverses, one level at a time.
use Rattle.std.proofs.Common.{◌≡◌, ◌⊎◌, inl, inr, ap, sym, ◌∙◌, List, Option}
use Rattle.std.specs.Prelude.{ℤ, Result, Err}
use Rattle.jdata.specs.declared.fault.Fault.{Fault}
use Rattle.jdata.specs.declared.fault.Fault.TheVariants as fault
use Rattle.jdata.specs.declared.noun.Noun.{Noun}
use Rattle.jdata.specs.declared.primitive.Primitive.{Primitive}
use Rattle.jterm.specs.declared.term.Locative.{Locative}
use Rattle.jterm.specs.declared.term.Term.{Term, para-roll-Term}
use Rattle.jterm.specs.declared.term.Term.TheVariants as term
use Rattle.jterm.specs.declared.term.Term.TheOpen as one
use Rattle.jterm.specs.declared.words.Adv.{Adv}
use Rattle.jterm.specs.declared.words.Con.{Con}
use Rattle.jterm.specs.declared.words.Con.TheVariants as con
use Rattle.jsplit.specs.Undoing.{obverse, obverse_step, undone_by, verb_or_fault, with2_undone, undone_in_turn, unbonded}

abbrev Undone : Type 0
Undone = Result Term Fault

pub undone_noun : (v : Noun) → obverse (term.Noun v) ≡ Err fault.Domain
unfolding obverse
undone_noun v = ap obverse (sym (term.rolls-Noun v)) ∙ para-roll-Term Undone obverse_step (one.Noun v)

pub undone_ranks : (l : List (Option ℤ)) → obverse (term.Ranks l) ≡ Err fault.Domain
unfolding obverse
undone_ranks l = ap obverse (sym (term.rolls-Ranks l)) ∙ para-roll-Term Undone obverse_step (one.Ranks l)

pub undone_verb : (v : Primitive) → obverse (term.Verb v) ≡ verb_or_fault (undone_by v)
unfolding obverse
undone_verb v = ap obverse (sym (term.rolls-Verb v)) ∙ para-roll-Term Undone obverse_step (one.Verb v)

pub undone_const : (n : ℤ) → obverse (term.Const n) ≡ Err fault.Domain
unfolding obverse
undone_const n = ap obverse (sym (term.rolls-Const n)) ∙ para-roll-Term Undone obverse_step (one.Const n)

pub undone_adverb : (w : Adv) → obverse (term.Adverb w) ≡ Err fault.Domain
unfolding obverse
undone_adverb w = ap obverse (sym (term.rolls-Adverb w)) ∙ para-roll-Term Undone obverse_step (one.Adverb w)

pub undone_conj : (w : Con) → obverse (term.Conj w) ≡ Err fault.Domain
unfolding obverse
undone_conj w = ap obverse (sym (term.rolls-Conj w)) ∙ para-roll-Term Undone obverse_step (one.Conj w)

pub undone_name : (l : Locative) → obverse (term.Name l) ≡ Err fault.Domain
unfolding obverse
undone_name l = ap obverse (sym (term.rolls-Name l)) ∙ para-roll-Term Undone obverse_step (one.Name l)

pub undone_with1 : (w : Adv) (l : Term) → obverse (term.With1 w l) ≡ Err fault.Domain
unfolding obverse
undone_with1 w l = ap obverse (sym (term.rolls-With1 w l)) ∙ para-roll-Term Undone obverse_step (one.With1 w l)

pub undone_with2 : (w : Con) (l r : Term) → obverse (term.With2 w l r) ≡ with2_undone w (l, obverse l) (r, obverse r)
unfolding obverse
undone_with2 w l r = ap obverse (sym (term.rolls-With2 w l r)) ∙ para-roll-Term Undone obverse_step (one.With2 w l r)

pub undone_hook : (l r : Term) → obverse (term.Hook l r) ≡ Err fault.Domain
unfolding obverse
undone_hook l r = ap obverse (sym (term.rolls-Hook l r)) ∙ para-roll-Term Undone obverse_step (one.Hook l r)

pub undone_fork : (l m r : Term) → obverse (term.Fork l m r) ≡ Err fault.Domain
unfolding obverse
undone_fork l m r = ap obverse (sym (term.rolls-Fork l m r)) ∙ para-roll-Term Undone obverse_step (one.Fork l m r)

pub ruleset undone_is =
    (undone_noun, undone_ranks, undone_verb, undone_const, undone_adverb, undone_conj, undone_name, undone_with1, undone_with2, undone_hook, undone_fork)

-- two verbs that are undone in turn
abbrev pub JoinsVerbs : Con → Type 0
JoinsVerbs w = (w ≡ con.At) ⊎ ((w ≡ con.AtColon) ⊎ (w ≡ con.AmpersandColon))

pub in_turn_is : (t l r : Term) (w : Con) → t ≡ term.With2 w l r → JoinsVerbs w → obverse t ≡ undone_in_turn (obverse l) (obverse r)
in_turn_is t l r w is (inl h) = ap obverse is ∙ undone_with2 w l r ∙ (λ i. with2_undone (h i) (l, obverse l) (r, obverse r))
in_turn_is t l r w is (inr (inl h)) = ap obverse is ∙ undone_with2 w l r ∙ (λ i. with2_undone (h i) (l, obverse l) (r, obverse r))
in_turn_is t l r w is (inr (inr h)) = ap obverse is ∙ undone_with2 w l r ∙ (λ i. with2_undone (h i) (l, obverse l) (r, obverse r))

pub bond_is : (t l r : Term) (w : Con) → t ≡ term.With2 w l r → w ≡ con.Ampersand → obverse t ≡ unbonded l r (undone_in_turn (obverse l) (obverse r))
bond_is t l r w is h = ap obverse is ∙ undone_with2 w l r ∙ (λ i. with2_undone (h i) (l, obverse l) (r, obverse r))
