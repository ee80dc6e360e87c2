-- Each text has one outcome, where from each place one word or fault is found.
use Rattle.std.proofs.Common.{◌≡◌, ℕ, zero, suc, ◌+◌, ◌-◌, ◌<◌, ◌≤◌, ◌⊎◌, inl, inr, Bool, true, false, List, [], ◌∷◌, ◌++◌, length, get_or, take, drop, refl, sym, ap, add-zero, ◌∙◌, subst, rules, arith, Ok, Err, Result}
use Rattle.std.proofs.lemmas.List.{append-nil, length-drop, drop_more, drop_all, drop-drop}
use Rattle.std.proofs.lemmas.Bool.{cases_lt, cases_Bool}
use Rattle.jwords.specs.declared.word.Word.{Word}
use Rattle.jwords.specs.Alphabet.{is_blank}
use Rattle.jwords.specs.Formed.{with_word, goes_on, cut_from}
use Rattle.jwords.specs.Cuts.{IsCut, nothing, blank, word, IsFault, IsOutcome, StandsAt}

-- from each place the function finds the one thing that the rules find, and a word takes some bytes
pub record FindsOne (F : Type 0) (finds : ℕ → List ℕ → Result Word F → Type 0) (find : ℕ → List ℕ → Result Word F) : Type 0 where
  pub one : (at : ℕ) (rest : List ℕ) (r s : Result Word F) → finds at rest r → finds at rest s → r ≡ s
  pub gives : (at : ℕ) (rest : List ℕ) → 0 < length rest → finds at rest (find at rest)
  pub extent : (at : ℕ) (rest : List ℕ) (w : Word) → 0 < length rest → finds at rest (Ok w) → (at < w.end) × (w.end ≤ at + length rest)

abbrev pub prepend_all : {F : Type 0} → List Word → Result (List Word) F → Result (List Word) F
prepend_all [] o = o
prepend_all (w ∷ ws) o = with_word w (prepend_all ws o)

-- the outcome of the text from a place on
pub data From (F : Type 0) (finds : ℕ → List ℕ → Result Word F → Type 0) (text : List ℕ) : ℕ → Result (List Word) F → Type 0 where
  done : (at : ℕ) → at ≡ length text → From F finds text at (Ok [])
  over_blank : (at : ℕ) (o : Result (List Word) F) → at < length text → is_blank (get_or text at 0) ≡ true → From F finds text (at + 1) o → From F finds text at o
  over_word : (at : ℕ) (o p : Result (List Word) F) (w : Word) → StandsAt text at → finds at (drop at text) (Ok w) → From F finds text w.end o → p ≡ with_word w o → From F finds text at p
  faulty : (at : ℕ) (f : F) → StandsAt text at → finds at (drop at text) (Err f) → From F finds text at (Err f)

pub from_one : (F : Type 0) (finds : ℕ → List ℕ → Result Word F → Type 0) (find : ℕ → List ℕ → Result Word F) (h : FindsOne F finds find) (text : List ℕ) (at : ℕ) (o p : Result (List Word) F) → From F finds text at o → From F finds text at p → o ≡ p
from_one F finds find h text at o p (done _ e) (done _ f) = refl
from_one F finds find h text at o p (done _ e) (over_blank _ _ l b r) = absurd (omega (arith, e, l))
from_one F finds find h text at o p (done _ e) (over_word _ q _ w s k r g) = absurd (omega (arith, e, s.within))
from_one F finds find h text at o p (done _ e) (faulty _ f s k) = absurd (omega (arith, e, s.within))
from_one F finds find h text at o p (over_blank _ _ l b r) (done _ e) = absurd (omega (arith, e, l))
from_one F finds find h text at o p (over_blank _ _ l b r) (over_blank _ _ m c q) = from_one F finds find h text (at + 1) o p r q
from_one F finds find h text at o p (over_blank _ _ l b r) (over_word _ q _ w s k t g) = absurd (cc (b, s.no_blank))
from_one F finds find h text at o p (over_blank _ _ l b r) (faulty _ f s k) = absurd (cc (b, s.no_blank))
from_one F finds find h text at o p (over_word _ q _ w s k r g) (done _ e) = absurd (omega (arith, e, s.within))
from_one F finds find h text at o p (over_word _ q _ w s k r g) (over_blank _ _ l b t) = absurd (cc (b, s.no_blank))
from_one F finds find h text at o p (over_word _ q _ w s k r g) (over_word _ u _ v t m x y) =
    let e : w ≡ v = cc (h.one at (drop at text) (Ok w) (Ok v) k m) in
    let same : q ≡ u = from_one F finds find h text w.end q u r (subst (λ (z : Word). From F finds text z.end u) (sym e) x) in
    g ∙ ap (λ z. with_word z q) e ∙ ap (with_word v) same ∙ sym y
from_one F finds find h text at o p (over_word _ q _ w s k r g) (faulty _ f t m) = absurd (cc (h.one at (drop at text) (Ok w) (Err f) k m))
from_one F finds find h text at o p (faulty _ f s k) (done _ e) = absurd (omega (arith, e, s.within))
from_one F finds find h text at o p (faulty _ f s k) (over_blank _ _ l b t) = absurd (cc (b, s.no_blank))
from_one F finds find h text at o p (faulty _ f s k) (over_word _ q _ w t m r g) = absurd (cc (h.one at (drop at text) (Ok w) (Err f) m k))
from_one F finds find h text at o p (faulty _ f s k) (faulty _ g t m) = let e : f ≡ g = cc (h.one at (drop at text) (Err f) (Err g) k m) in ap Err e

prepend_push : (F : Type 0) (ws : List Word) (w : Word) (o : Result (List Word) F) → prepend_all (ws ++ (w ∷ [])) o ≡ prepend_all ws (with_word w o)
prepend_push F [] w o = refl
prepend_push F (v ∷ ws) w o = ap (with_word v) (prepend_push F ws w o)

prepend_words : (F : Type 0) (ws : List Word) → prepend_all {F = F} ws (Ok []) ≡ Ok ws
prepend_words F [] = refl
prepend_words F (w ∷ ws) = ap (with_word w) (prepend_words F ws)

prepend_fault : (F : Type 0) (ws : List Word) (f : F) → prepend_all ws (Err f) ≡ Err f
prepend_fault F [] f = refl
prepend_fault F (w ∷ ws) f = ap (with_word w) (prepend_fault F ws f)

-- what is cut before a place goes on with the outcome from there
from_cut : (F : Type 0) (finds : ℕ → List ℕ → Result Word F → Type 0) (text : List ℕ) (at : ℕ) (words : List Word) (o : Result (List Word) F) → IsCut finds text at words → From F finds text at o → From F finds text 0 (prepend_all words o)
from_cut F finds text at words o nothing r = r
from_cut F finds text at words o (blank before _ c l b) r = from_cut F finds text before words o c (over_blank before o l b r)
from_cut F finds text at words o (word before ws next c s k) r =
    subst (From F finds text 0) (sym (prepend_push F ws next o))
    (from_cut F finds text before ws (with_word next o) c (over_word before o (with_word next o) next s k r refl))

from_outcome : (F : Type 0) (finds : ℕ → List ℕ → Result Word F → Type 0) (text : List ℕ) (o : Result (List Word) F) → IsOutcome finds text o → From F finds text 0 o
from_outcome F finds text (Ok words) c = subst (From F finds text 0) (prepend_words F words) (from_cut F finds text (length text) words (Ok []) c (done (length text) refl))
from_outcome F finds text (Err f) c =
    subst (From F finds text 0) (prepend_fault F c.words f) (from_cut F finds text c.at c.words (Err f) c.before (faulty c.at f c.stands c.found))

-- bytes of a word that was found are passed over
cut_over : (F : Type 0) (find : ℕ → List ℕ → Result Word F) (rest : List ℕ) (at k : ℕ) → k ≤ length rest → cut_from find rest at k ≡ cut_from find (drop k rest) (at + k) 0
unfolding cut_from
cut_over F find [] at zero l = refl
cut_over F find [] at (suc k) l = refl
cut_over F find (c ∷ cs) at zero l = ap (λ n. cut_from find (c ∷ cs) n 0) (sym (add-zero at))
cut_over F find (c ∷ cs) at (suc k) l =
    let e : at + 1 + k ≡ at + suc k = omega arith in
    cut_over F find cs (at + 1) k (omega (arith, l)) ∙ ap (λ n. cut_from find (drop k cs) n 0) e

-- one step of the cut: a blank, a word or a fault
cut_blank : (F : Type 0) (find : ℕ → List ℕ → Result Word F) (text : List ℕ) (at : ℕ) → at < length text → is_blank (get_or text at 0) ≡ true →
    cut_from find (drop at text) at 0 ≡ cut_from find (drop (at + 1) text) (at + 1) 0
unfolding cut_from
cut_blank F find text at l b = ap (λ xs. cut_from find xs at 0) (drop_more text at 0 l) ∙ rw b refl

cut_other : (F : Type 0) (find : ℕ → List ℕ → Result Word F) (text : List ℕ) (at : ℕ) → at < length text → is_blank (get_or text at 0) ≡ false →
    cut_from find (drop at text) at 0 ≡ goes_on (find at (drop at text)) (λ w. cut_from find (drop (at + 1) text) (at + 1) (w.end - at - 1))
unfolding cut_from
cut_other F find text at l b =
    ap (λ xs. cut_from find xs at 0) (drop_more text at 0 l) ∙ rw b refl
    ∙ ap (λ xs. goes_on (find at xs) (λ w. cut_from find (drop (at + 1) text) (at + 1) (w.end - at - 1))) (sym (drop_more text at 0 l))

cut_behind : (F : Type 0) (find : ℕ → List ℕ → Result Word F) (text : List ℕ) (at end : ℕ) → at < end → end ≤ length text →
    cut_from find (drop (at + 1) text) (at + 1) (end - at - 1) ≡ cut_from find (drop end text) end 0
cut_behind F find text at end on short =
    let d = length-drop (at + 1) text in
    let e : at + 1 + (end - at - 1) ≡ end = omega (arith, on) in
    cut_over F find (drop (at + 1) text) (at + 1) (end - at - 1) (omega (arith, d, on, short))
    ∙ ap (λ xs. cut_from find xs (at + 1 + (end - at - 1)) 0) (drop-drop (end - at - 1) (at + 1) text ∙ ap (λ n. drop n text) e)
    ∙ ap (λ n. cut_from find (drop end text) n 0) e

cut_end : (F : Type 0) (find : ℕ → List ℕ → Result Word F) (text : List ℕ) (at : ℕ) → length text ≤ at → cut_from find (drop at text) at 0 ≡ Ok []
unfolding cut_from
cut_end F find text at l = ap (λ xs. cut_from find xs at 0) (drop_all at text l)

at_end : (F : Type 0) (finds : ℕ → List ℕ → Result Word F → Type 0) (find : ℕ → List ℕ → Result Word F) (text : List ℕ) (at : ℕ) (words : List Word) → IsCut finds text at words → at ≡ length text →
    IsOutcome finds text (prepend_all words (cut_from find (drop at text) at 0))
at_end F finds find text at words c e =
    let o : prepend_all words (cut_from find (drop at text) at 0) ≡ Ok words = ap (prepend_all words) (cut_end F find text at (omega (arith, e))) ∙ prepend_words F words in
    subst (IsOutcome finds text) (sym o) (subst (λ (n : ℕ). IsCut finds text n words) e c)

outcome_at : (F : Type 0) (finds : ℕ → List ℕ → Result Word F → Type 0) (find : ℕ → List ℕ → Result Word F) (h : FindsOne F finds find) (text : List ℕ) (at : ℕ) (words : List Word) →
    IsCut finds text at words → StandsAt text at → 0 < length (drop at text) → (r : Result Word F) → finds at (drop at text) r →
    ((w : Word) → at < w.end → w.end ≤ length text → IsCut finds text w.end (words ++ (w ∷ [])) → IsOutcome finds text (prepend_all (words ++ (w ∷ [])) (cut_from find (drop w.end text) w.end 0))) →
    IsOutcome finds text (prepend_all words (goes_on r (λ w. cut_from find (drop (at + 1) text) (at + 1) (w.end - at - 1))))
outcome_at F finds find h text at words c s left (Ok w) k go =
    let x : (at < w.end) × (w.end ≤ at + length (drop at text)) = h.extent at (drop at text) w left k in
    let d = length-drop at text in
    let short : w.end ≤ length text = omega (arith, x, d, s.within) in
    let e : prepend_all words (with_word w (cut_from find (drop (at + 1) text) (at + 1) (w.end - at - 1))) ≡ prepend_all (words ++ (w ∷ [])) (cut_from find (drop w.end text) w.end 0) =
    ap (λ o. prepend_all words (with_word w o)) (cut_behind F find text at w.end x.0 short) ∙ sym (prepend_push F words w (cut_from find (drop w.end text) w.end 0)) in
    subst (IsOutcome finds text) (sym e) (go w x.0 short (word at words w c s k))
outcome_at F finds find h text at words c s left (Err f) k go =
    subst (IsOutcome finds text) (sym (prepend_fault F words f)) (record { at = at; words = words; before = c; stands = s; found = k })

-- what the function gives from a place on is an outcome, behind what is cut before the place
outcome_from : (F : Type 0) (finds : ℕ → List ℕ → Result Word F → Type 0) (find : ℕ → List ℕ → Result Word F) (h : FindsOne F finds find) (text : List ℕ) (fuel at : ℕ) (words : List Word) →
    IsCut finds text at words → at ≤ length text → length text ≤ at + fuel → IsOutcome finds text (prepend_all words (cut_from find (drop at text) at 0))
outcome_from F finds find h text zero at words c l e = at_end F finds find text at words c (omega (arith, l, e))
outcome_from F finds find h text (suc fuel) at words c l e = elim (cases_lt at (length text)) [
  | inr past ↦ at_end F finds find text at words c (omega (arith, l, past))
  | inl within ↦ elim (cases_Bool (is_blank (get_or text at 0))) [
    | inl b ↦ subst (λ (o : Result (List Word) F). IsOutcome finds text (prepend_all words o)) (sym (cut_blank F find text at within b))
        (outcome_from F finds find h text fuel (at + 1) words (blank at words c within b) (omega (arith, within)) (omega (arith, e)))
    | inr b ↦
        let left : 0 < length (drop at text) = (let d = length-drop at text in omega (arith, d, within)) in
        subst (λ (o : Result (List Word) F). IsOutcome finds text (prepend_all words o)) (sym (cut_other F find text at within b))
        (outcome_at F finds find h text at words c (record { within = within; no_blank = b }) left (find at (drop at text)) (h.gives at (drop at text) left)
        (λ w on short cut. outcome_from F finds find h text fuel w.end (words ++ (w ∷ [])) cut short (omega (arith, on, e))))
  ]
]

pub one_outcome : (F : Type 0) (finds : ℕ → List ℕ → Result Word F → Type 0) (find : ℕ → List ℕ → Result Word F) (h : FindsOne F finds find) (text : List ℕ) →
    IsOutcome finds text (cut_from find text 0 0) × ((other : Result (List Word) F) → IsOutcome finds text other → other ≡ cut_from find text 0 0)
one_outcome F finds find h text =
    let r : IsOutcome finds text (cut_from find text 0 0) = outcome_from F finds find h text (length text) 0 [] nothing (omega arith) (omega arith) in
    (r, λ other p. from_one F finds find h text 0 other (cut_from find text 0 0) (from_outcome F finds text other p) (from_outcome F finds text (cut_from find text 0 0) r))
