-- A verb bonded with a noun is a term.
use Rattle.std.specs.Prelude.{◌≡◌, ◌&&◌, nat_le, Option, Result, Ok, Err, IfOk}
use Rattle.std.proofs.Common.{ap, sym, ◌∙◌, refl, subst}
use Rattle.jdata.specs.Answers.{Answers}
use Rattle.jdata.specs.declared.fault.Fault.{Fault}
use Rattle.jdata.specs.declared.fault.Trouble.{Trouble}
use Rattle.jdata.specs.declared.noun.Noun.{Noun}
use Rattle.jdata.specs.declared.primitive.Primitive.{Primitive}
use Rattle.jterm.specs.Acts.{conj_of}
use Rattle.jterm.specs.Validity.{IsValid}
use Rattle.jterm.specs.declared.term.Term.{Term}
use Rattle.jterm.specs.declared.term.Term.TheVariants as term
use Rattle.jterm.specs.declared.words.Con.TheVariants as con
use Rattle.jterm.proofs.Deep.{levels_noun, levels_verb}
use Rattle.jterm.proofs.Making.{conj_given}
use Rattle.jterm.proofs.Valid.{valid_noun, valid_verb}
use Rattle.jsplit.specs.Undoing.{bond_or, left_undone_by, right_undone_by, unbonded}
use Rattle.jsplit.specs.declared.bond.Bond.{Bond}

pub left_bond : (m : Noun) (v : Primitive) → conj_of con.Ampersand (term.Noun m) (term.Verb v) ≡ Ok (term.With2 con.Ampersand (term.Noun m) (term.Verb v))
left_bond m v = conj_given con.Ampersand (term.Noun m) (term.Verb v) refl (λ i. nat_le (levels_noun m i) 199 && nat_le (levels_verb v i) 199)

pub right_bond : (v : Primitive) (m : Noun) → conj_of con.Ampersand (term.Verb v) (term.Noun m) ≡ Ok (term.With2 con.Ampersand (term.Verb v) (term.Noun m))
right_bond v m = conj_given con.Ampersand (term.Verb v) (term.Noun m) refl (λ i. nat_le (levels_verb v i) 199 && nat_le (levels_noun m i) 199)

-- what the conjunction answers is the verb bonded with the noun, a valid term
pub left_answers : (m n : Noun) (v : Primitive) (r : Result Term Trouble) → n ≡ m → Answers (conj_of con.Ampersand (term.Noun n) (term.Verb v)) r →
    Answers (Ok (term.With2 con.Ampersand (term.Noun m) (term.Verb v))) r
left_answers m n v r same h = subst (λ a. Answers a r) (left_bond m v) (subst (λ k. Answers (conj_of con.Ampersand (term.Noun k) (term.Verb v)) r) same h)

pub right_answers : (m n : Noun) (v : Primitive) (r : Result Term Trouble) → n ≡ m → Answers (conj_of con.Ampersand (term.Verb v) (term.Noun n)) r →
    Answers (Ok (term.With2 con.Ampersand (term.Verb v) (term.Noun m))) r
right_answers m n v r same h = subst (λ a. Answers a r) (right_bond v m) (subst (λ k. Answers (conj_of con.Ampersand (term.Verb v) (term.Noun k)) r) same h)

pub valid_left : (n : Noun) (v : Primitive) (r : Result Term Trouble) → IfOk r (λ t. IsValid (term.Noun n) → IsValid (term.Verb v) → IsValid t) → IfOk r IsValid
valid_left n v (Ok t) h = h (valid_noun n) (valid_verb v)
valid_left n v (Err why) h = tt

pub valid_right : (n : Noun) (v : Primitive) (r : Result Term Trouble) → IfOk r (λ t. IsValid (term.Verb v) → IsValid (term.Noun n) → IsValid t) → IfOk r IsValid
valid_right n v (Ok t) h = h (valid_verb v) (valid_noun n)
valid_right n v (Err why) h = tt

-- a noun on one side, and its verb on the other
pub left_unbonded : (l r : Term) (m : Noun) (v : Primitive) (b : Option Bond) (o : Result Term Fault) (a : Result Term Trouble) → l ≡ term.Noun m → r ≡ term.Verb v → b ≡ left_undone_by v →
    Answers (bond_or b m o) a → Answers (unbonded l r o) a
left_unbonded l r m v b o a left right is h =
    let same : bond_or b m o ≡ unbonded l r o = ap (λ x. bond_or x m o) is ∙ (λ i. unbonded (sym left i) (sym right i) o) in
    subst (λ q. Answers q a) same h

pub right_unbonded : (l r : Term) (m : Noun) (v : Primitive) (b : Option Bond) (o : Result Term Fault) (a : Result Term Trouble) → l ≡ term.Verb v → r ≡ term.Noun m → b ≡ right_undone_by v →
    Answers (bond_or b m o) a → Answers (unbonded l r o) a
right_unbonded l r m v b o a left right is h =
    let same : bond_or b m o ≡ unbonded l r o = ap (λ x. bond_or x m o) is ∙ (λ i. unbonded (sym left i) (sym right i) o) in
    subst (λ q. Answers q a) same h
