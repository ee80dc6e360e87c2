-- A verb that is undone has an obverse, which is a verb as deep as it; no other term within its limits has one.
use Rattle.std.proofs.Common.{◌≡◌, ℕ, ◌+◌, ◌≤◌, max, ap, sym, ◌∙◌, refl, subst, arith, Bool, true, false, Option, Some, None}
use Rattle.std.specs.Prelude.{Result, Ok, Err, IfOk, ◌&&◌, ◌||◌, nat_le, is_some}
use Rattle.std.proofs.lemmas.Bool.{lt-leb, le-leb}
use Rattle.jdata.specs.Answers.{Answers}
use Rattle.jdata.specs.declared.fault.Fault.{Fault}
use Rattle.jdata.specs.declared.fault.Trouble.{Trouble}
use Rattle.jdata.specs.declared.fault.Fault.TheVariants as fault
use Rattle.jdata.specs.declared.noun.Noun.{Noun}
use Rattle.jdata.specs.declared.primitive.Primitive.{Primitive}
use Rattle.jdata.specs.declared.primitive.Primitive.TheVariants as verb
use Rattle.jterm.specs.Acts.{conj_of, conj_fault, obverse_fault}
use Rattle.jterm.specs.Levels.{levels, most_levels}
use Rattle.jterm.specs.Obverses.{has_obverse, is_undone, is_undone_bonded_left, is_undone_bonded_right, is_undone_bond}
use Rattle.jterm.specs.Speeches.{speech_of}
use Rattle.jterm.specs.declared.speech.Speech.TheVariants as speech
use Rattle.jterm.specs.declared.term.Term.{Term, Term-F, map-Term, roll-Term, ind-Term}
use Rattle.jterm.specs.declared.term.Term.TheVariants as term
use Rattle.jterm.specs.declared.term.Term.TheOpen as one
use Rattle.jterm.specs.declared.words.Con.{Con}
use Rattle.jterm.specs.declared.words.Con.TheVariants as con
use Rattle.jterm.proofs.Deep.{levels_noun, levels_verb, levels_with2}
use Rattle.jterm.proofs.Making.{conj_given, conj_deep}
use Rattle.jterm.proofs.Undoing as kept
use Rattle.jsplit.specs.Undoing.{obverse, undone_by, verb_or_fault, left_undone_by, right_undone_by, bonded, bond_or, unbonded, undone_in_turn, with2_undone, refusal}
use Rattle.jsplit.specs.declared.bond.Bond.{Bond}
use Rattle.jsplit.specs.declared.bond.Bond.TheVariants as bond
use Rattle.jsplit.proofs.Undone as undone

-- what comes of undoing a term
abbrev pub Fate : Term → Result Term Fault → Type 0
Fate t (Ok s) = (speech_of s ≡ speech.Verb) × (levels s ≡ levels t) × (has_obverse t ≡ true)
Fate t (Err f) = levels t ≤ most_levels → (f ≡ fault.Domain) × (has_obverse t ≡ false)

none : (t : Term) (r : Result Term Fault) → r ≡ Err fault.Domain → has_obverse t ≡ false → Fate t r
none t r is not = subst (Fate t) (sym is) (λ few. (refl, not))

verb_agrees : (v : Primitive) → is_undone v ≡ is_some (undone_by v)
unfolding is_undone undone_by
verb_agrees verb.Less = refl
verb_agrees verb.Greater = refl
verb_agrees verb.PlusColon = refl
verb_agrees verb.MinusColon = refl
verb_agrees verb.LessColon = refl
verb_agrees verb.GreaterColon = refl
verb_agrees verb.TimesColon = refl
verb_agrees verb.DivideColon = refl
verb_agrees verb.HashDot = refl
verb_agrees verb.HashColon = refl
verb_agrees verb.Minus = refl
verb_agrees verb.Divide = refl
verb_agrees verb.MinusDot = refl
verb_agrees verb.BarDot = refl
verb_agrees verb.BarColon = refl
verb_agrees verb.LeftBracket = refl
verb_agrees verb.RightBracket = refl
verb_agrees other = refl

verb_fate : (v : Primitive) (o : Option Primitive) → has_obverse (term.Verb v) ≡ is_some o → Fate (term.Verb v) (verb_or_fault o)
verb_fate v (Some w) h = (refl, levels_verb w ∙ sym (levels_verb v), h)
verb_fate v None h = λ few. (refl, h)

-- two obverses in turn
both_verbs : (s t : Term) → speech_of s ≡ speech.Verb → speech_of t ≡ speech.Verb → conj_fault con.AtColon t s ≡ None
both_verbs s t h k = rw (k, h)

short : (m n : ℕ) → max m n + 1 ≤ most_levels → nat_le n 199 && nat_le m 199 ≡ false → ⊥
short m n few deep = grind (arith, lt-leb, le-leb)

pair_fate : (T s t : Term) → speech_of s ≡ speech.Verb → speech_of t ≡ speech.Verb → levels T ≡ max (levels s) (levels t) + 1 →
    has_obverse T ≡ true → (b : Bool) → nat_le (levels t) 199 && nat_le (levels s) 199 ≡ b → Fate T (conj_of con.AtColon t s)
pair_fate T s t h k deep has true fits =
    let made = conj_given con.AtColon t s (both_verbs s t h k) fits in
    let level : levels (term.With2 con.AtColon t s) ≡ levels T = levels_with2 con.AtColon t s ∙ omega (arith, deep) in
    subst (Fate T) (sym made) (refl, level, has)
pair_fate T s t h k deep has false fits =
    let made = conj_deep con.AtColon t s (both_verbs s t h k) fits in
    subst (Fate T) (sym made) (λ few. absurd (short (levels s) (levels t) (subst (λ n. n ≤ most_levels) deep few) fits))

turn_fate : (T l r : Term) (u v : Result Term Fault) → Fate l u → Fate r v → levels T ≡ max (levels l) (levels r) + 1 →
    has_obverse T ≡ (has_obverse l && has_obverse r) → Fate T (undone_in_turn u v)
turn_fate T l r (Ok s) (Ok t) h k deep has =
    let level : levels T ≡ max (levels s) (levels t) + 1 = omega (arith, deep, h.1, k.1) in
    pair_fate T s t h.0 k.0 level (has ∙ rw (h.2, k.2)) (nat_le (levels t) 199 && nat_le (levels s) 199) refl
turn_fate T l r (Ok s) (Err f) h k deep has = λ few.
    let is = k (omega (arith, deep, few)) in
    (is.0, has ∙ rw (h.2, is.1))
turn_fate T l r (Err f) v h k deep has = λ few.
    let is = h (omega (arith, deep, few)) in
    (is.0, has ∙ rw is.1)

-- a noun bonded with a verb
left_agrees : (v : Primitive) → is_undone_bonded_left v ≡ is_some (left_undone_by v)
left_agrees verb.Plus = refl
left_agrees verb.Minus = refl
left_agrees verb.Times = refl
left_agrees other = refl

right_agrees : (v : Primitive) → is_undone_bonded_right v ≡ is_some (right_undone_by v)
right_agrees verb.Plus = refl
right_agrees verb.Minus = refl
right_agrees verb.Times = refl
right_agrees verb.Divide = refl
right_agrees other = refl

bonded_verb : (b : Bond) (m : Noun) → speech_of (bonded b m) ≡ speech.Verb
bonded_verb (bond.Left v) m = refl
bonded_verb (bond.Right v) m = refl

bonded_levels : (b : Bond) (m : Noun) → levels (bonded b m) ≡ 2
bonded_levels (bond.Left v) m = rw (levels_with2 con.Ampersand (term.Noun m) (term.Verb v), levels_noun m, levels_verb v)
bonded_levels (bond.Right v) m = rw (levels_with2 con.Ampersand (term.Verb v) (term.Noun m), levels_verb v, levels_noun m)

bond_fate : (T : Term) (o : Option Bond) (m : Noun) (other : Result Term Fault) → levels T ≡ 2 → (b : Bool) → has_obverse T ≡ (is_some o || b) →
    (has_obverse T ≡ b → Fate T other) → Fate T (bond_or o m other)
bond_fate T (Some b) m other deep c has else = (bonded_verb b m, bonded_levels b m ∙ sym deep, has)
bond_fate T None m other deep c has else = else has

amp_fate : (T l r : Term) (other : Result Term Fault) (c : Bool) → levels T ≡ max (levels l) (levels r) + 1 →
    has_obverse T ≡ (is_undone_bond l r || c) → (has_obverse T ≡ c → Fate T other) → Fate T (unbonded l r other)
amp_fate T (term.Noun m) (term.Verb v) other c deep has else =
    bond_fate T (left_undone_by v) m other (deep ∙ rw (levels_noun m, levels_verb v)) c (has ∙ ap (λ b. b || c) (left_agrees v)) else
amp_fate T (term.Verb u) (term.Noun m) other c deep has else =
    bond_fate T (right_undone_by u) m other (deep ∙ rw (levels_verb u, levels_noun m)) c (has ∙ ap (λ b. b || c) (right_agrees u)) else
amp_fate T l r other c deep has else = else has

with2_fate : (w : Con) (l r : Term) (u v : Result Term Fault) → Fate l u → Fate r v → Fate (term.With2 w l r) (with2_undone w (l, u) (r, v))
with2_fate con.At l r u v h k = turn_fate (term.With2 con.At l r) l r u v h k (levels_with2 con.At l r) (kept.obverse_with2 con.At l r)
with2_fate con.AtColon l r u v h k = turn_fate (term.With2 con.AtColon l r) l r u v h k (levels_with2 con.AtColon l r) (kept.obverse_with2 con.AtColon l r)
with2_fate con.AmpersandColon l r u v h k =
    turn_fate (term.With2 con.AmpersandColon l r) l r u v h k (levels_with2 con.AmpersandColon l r) (kept.obverse_with2 con.AmpersandColon l r)
with2_fate con.Ampersand l r u v h k =
    let T = term.With2 con.Ampersand l r in
    let deep = levels_with2 con.Ampersand l r in
    amp_fate T l r (undone_in_turn u v) (has_obverse l && has_obverse r) deep (kept.obverse_with2 con.Ampersand l r)
    (λ has. turn_fate T l r u v h k deep has)
with2_fate other l r u v h k = λ few. (refl, kept.obverse_with2 other l r)

abbrev pub Law : Term → Type 0
Law t = Fate t (obverse t)

abbrev Held : Type 0
Held = (t : Term) × Law t

layer : (y : Term-F Held) → Law (roll-Term (map-Term Held Term (λ h. h.0) y))
layer (one.Noun v) = subst Law (sym (term.rolls-Noun v)) (none (term.Noun v) (obverse (term.Noun v)) (undone.undone_noun v) (kept.obverse_noun v))
layer (one.Ranks l) = subst Law (sym (term.rolls-Ranks l)) (none (term.Ranks l) (obverse (term.Ranks l)) (undone.undone_ranks l) (kept.obverse_ranks l))
layer (one.Verb v) = subst Law (sym (term.rolls-Verb v))
    (subst (Fate (term.Verb v)) (sym (undone.undone_verb v)) (verb_fate v (undone_by v) (kept.obverse_verb v ∙ verb_agrees v)))
layer (one.Const n) = subst Law (sym (term.rolls-Const n)) (none (term.Const n) (obverse (term.Const n)) (undone.undone_const n) (kept.obverse_const n))
layer (one.Adverb w) = subst Law (sym (term.rolls-Adverb w)) (none (term.Adverb w) (obverse (term.Adverb w)) (undone.undone_adverb w) (kept.obverse_adverb w))
layer (one.Conj w) = subst Law (sym (term.rolls-Conj w)) (none (term.Conj w) (obverse (term.Conj w)) (undone.undone_conj w) (kept.obverse_conj w))
layer (one.Name l) = subst Law (sym (term.rolls-Name l)) (none (term.Name l) (obverse (term.Name l)) (undone.undone_name l) (kept.obverse_name l))
layer (one.With1 w l) =
    subst Law (sym (term.rolls-With1 w l.0)) (none (term.With1 w l.0) (obverse (term.With1 w l.0)) (undone.undone_with1 w l.0) (kept.obverse_with1 w l.0))
layer (one.With2 w l r) = subst Law (sym (term.rolls-With2 w l.0 r.0))
    (subst (Fate (term.With2 w l.0 r.0)) (sym (undone.undone_with2 w l.0 r.0)) (with2_fate w l.0 r.0 (obverse l.0) (obverse r.0) l.1 r.1))
layer (one.Hook l r) =
    subst Law (sym (term.rolls-Hook l.0 r.0)) (none (term.Hook l.0 r.0) (obverse (term.Hook l.0 r.0)) (undone.undone_hook l.0 r.0) (kept.obverse_hook l.0 r.0))
layer (one.Fork l m r) =
    subst Law (sym (term.rolls-Fork l.0 m.0 r.0))
    (none (term.Fork l.0 m.0 r.0) (obverse (term.Fork l.0 m.0 r.0)) (undone.undone_fork l.0 m.0 r.0) (kept.obverse_fork l.0 m.0 r.0))

pub fate : (t : Term) → Law t
fate = ind-Term Law (λ x y is. subst (λ z. Law (roll-Term z)) is (layer y))

exact : (t : Term) (r : Result Term Fault) → Fate t r → levels t ≤ most_levels → refusal r ≡ obverse_fault (has_obverse t)
exact t (Ok s) h few = rw h.2
exact t (Err f) h few = let is = h few in rw (is.0, is.1)

-- within the levels of a term it is refused exactly where a verb isn't undone
pub refused_exactly : (t : Term) → levels t ≤ most_levels → refusal (obverse t) ≡ obverse_fault (has_obverse t)
refused_exactly t few = exact t (obverse t) (fate t) few

as_deep : (t s : Term) (r : Result Term Fault) → Fate t r → r ≡ Ok s → levels s ≡ levels t
as_deep t s (Ok a) h is = let same : a ≡ s = cc in subst (λ x. levels x ≡ levels t) same h.1
as_deep t s (Err f) h is = cc

pub obverse_levels : (t s : Term) → obverse t ≡ Ok s → levels s ≡ levels t
obverse_levels t s is = as_deep t s (obverse t) (fate t) is

a_verb : (t s : Term) (r : Result Term Fault) → Fate t r → r ≡ Ok s → speech_of s ≡ speech.Verb
a_verb t s (Ok a) h is = let same : a ≡ s = cc in subst (λ x. speech_of x ≡ speech.Verb) same h.0
a_verb t s (Err f) h is = cc

pub obverse_speech : (t s : Term) → obverse t ≡ Ok s → speech_of s ≡ speech.Verb
obverse_speech t s is = a_verb t s (obverse t) (fate t) is

-- the same of what the call answers
pub levels_kept : (t : Term) (r : Result Term Trouble) → Answers (obverse t) r → IfOk r (λ s. levels s ≡ levels t)
levels_kept t (Ok s) is = obverse_levels t s is
levels_kept t (Err why) is = tt

pub gives_verb : (t : Term) (r : Result Term Trouble) → Answers (obverse t) r → IfOk r (λ s. speech_of s ≡ speech.Verb)
gives_verb t (Ok s) is = obverse_speech t s is
gives_verb t (Err why) is = tt
