-- Lemmas on quoted texts: bytes read one by one, and that there is one closing quote.
use Rattle.std.proofs.Common.{◌≡◌, ◌≢◌, ℕ, zero, suc, ◌+◌, ◌<◌, ◌≤◌, Bool, true, false, not, List, [], ◌∷◌, ◌++◌, length, get_or, take, drop, refl, sym, ap, ◌∙◌, subst, rules, arith, length-append, length-take-le, add-zero, ◌-◌, ◌⊎◌, inl, inr}
use Rattle.std.proofs.lemmas.List.{append_assoc, append-nil, take_more, take_all, take-append-drop, get_or-drop, take_rest}
use Rattle.std.proofs.lemmas.Bool.{cases_eq}
use Rattle.jwords.specs.Alphabet.{quote, first}
use Rattle.jwords.specs.Texts.{IsInside, nothing, plain, doubled, IsQuoted}

pub inside_append : (xs ys : List ℕ) → IsInside xs → IsInside ys → IsInside (xs ++ ys)
inside_append xs ys nothing b = b
inside_append xs ys (plain c cs differs a) b = plain c (cs ++ ys) differs (inside_append cs ys a b)
inside_append xs ys (doubled cs a) b = doubled (cs ++ ys) (inside_append cs ys a b)

-- what was read behind the opening quote: bytes between quotes, perhaps with a quote behind them
abbrev pub Scanned : Bool → List ℕ → Type 0
Scanned false seen = IsInside seen
Scanned true seen = (front : List ℕ) × IsInside front × (seen ≡ front ++ (quote ∷ []))

pub scanned_quote : (closing : Bool) (seen : List ℕ) (c : ℕ) → c ≡ quote → Scanned closing seen → Scanned (not closing) (seen ++ (c ∷ []))
scanned_quote false seen c e s = (seen, s, ap (λ b. seen ++ (b ∷ [])) e)
scanned_quote true seen c e s =
    let w : seen ++ (c ∷ []) ≡ s.0 ++ (quote ∷ quote ∷ []) =
    ap (λ xs. xs ++ (c ∷ [])) s.2 ∙ append_assoc s.0 (quote ∷ []) (c ∷ []) ∙ ap (λ b. s.0 ++ (quote ∷ b ∷ [])) e in
    subst IsInside (sym w) (inside_append s.0 (quote ∷ quote ∷ []) s.1 (doubled [] nothing))

pub scanned_plain : (closing : Bool) (seen : List ℕ) (c : ℕ) → closing ≡ false → c ≢ quote → Scanned closing seen → Scanned closing (seen ++ (c ∷ []))
scanned_plain false seen c e differs s = inside_append seen (c ∷ []) s (plain c [] differs nothing)
scanned_plain true seen c e differs s = absurd (cc e)

-- a quote that stands alone closes the text
pub scanned_closes : (closing : Bool) (seen rest whole : List ℕ) → closing ≡ true → seen ++ rest ≡ whole → first rest ≢ quote → Scanned closing seen → IsQuoted (quote ∷ whole) (length seen + 1)
scanned_closes false seen rest whole e w alone s = absurd (cc e)
scanned_closes true seen rest whole e w alone s = record {
  inside = s.0;
  after = rest;
  parts = ap (λ xs. quote ∷ xs) (sym w ∙ ap (λ xs. xs ++ rest) s.2 ∙ append_assoc s.0 (quote ∷ []) rest);
  between = s.1;
  closed = alone;
  whole = let h = length-append s.0 (quote ∷ []) in omega (arith, ap length s.2, h);
}

-- bytes that all stand between quotes close no text
pub inside_is_open : (front after all : List ℕ) → all ≡ front ++ (quote ∷ after) → IsInside front → first after ≢ quote → IsInside all → ⊥
inside_is_open front after all e nothing alone nothing = cc e
inside_is_open front after all e nothing alone (plain c cs differs a) = differs (cc e)
inside_is_open front after all e nothing alone (doubled cs a) = let w : after ≡ quote ∷ cs = cc e in alone (ap first w)
inside_is_open front after all e (plain c cs differs a) alone nothing = cc e
inside_is_open front after all e (plain c cs differs a) alone (plain d ds other b) = let w : ds ≡ cs ++ (quote ∷ after) = cc e in inside_is_open cs after ds w a alone b
inside_is_open front after all e (plain c cs differs a) alone (doubled ds b) = differs (cc e)
inside_is_open front after all e (doubled cs a) alone nothing = cc e
inside_is_open front after all e (doubled cs a) alone (plain d ds other b) = other (cc e)
inside_is_open front after all e (doubled cs a) alone (doubled ds b) = let w : ds ≡ cs ++ (quote ∷ after) = cc e in inside_is_open cs after ds w a alone b

-- and the text is closed at one place
one_front : (front after other rest : List ℕ) → front ++ (quote ∷ after) ≡ other ++ (quote ∷ rest) → IsInside front → first after ≢ quote → IsInside other → first rest ≢ quote → length front ≡ length other
one_front front after other rest e nothing alone nothing lone = refl
one_front front after other rest e nothing alone (plain c cs differs a) lone = absurd (differs (cc e))
one_front front after other rest e nothing alone (doubled cs a) lone = let w : after ≡ quote ∷ (cs ++ (quote ∷ rest)) = cc e in absurd (alone (ap first w))
one_front front after other rest e (plain c cs differs a) alone nothing lone = absurd (differs (cc e))
one_front front after other rest e (plain c cs differs a) alone (plain d ds other_differs b) lone = let w : cs ++ (quote ∷ after) ≡ ds ++ (quote ∷ rest) = cc e in ap suc (one_front cs after ds rest w a alone b lone)
one_front front after other rest e (plain c cs differs a) alone (doubled ds b) lone = absurd (differs (cc e))
one_front front after other rest e (doubled cs a) alone nothing lone = let w : rest ≡ quote ∷ (cs ++ (quote ∷ after)) = cc e in absurd (lone (ap first w))
one_front front after other rest e (doubled cs a) alone (plain d ds other_differs b) lone = absurd (other_differs (cc e))
one_front front after other rest e (doubled cs a) alone (doubled ds b) lone = let w : cs ++ (quote ∷ after) ≡ ds ++ (quote ∷ rest) = cc e in ap (λ n. suc (suc n)) (one_front cs after ds rest w a alone b lone)

pub one_closing : (bytes : List ℕ) (m n : ℕ) → IsQuoted bytes m → IsQuoted bytes n → m ≡ n
one_closing bytes m n p q =
    let e : p.inside ++ (quote ∷ p.after) ≡ q.inside ++ (quote ∷ q.after) = cc (p.parts, q.parts) in
    let s : length p.inside ≡ length q.inside = one_front p.inside p.after q.inside q.after e p.between p.closed q.between q.closed in
    omega (arith, s, p.whole, q.whole)

-- one byte more of the bytes
pub scanned_more_quote : (closing : Bool) (bytes : List ℕ) (i : ℕ) → i < length bytes → get_or bytes i 0 ≡ quote → Scanned closing (take i bytes) → Scanned (not closing) (take (i + 1) bytes)
scanned_more_quote closing bytes i l e s =
    subst (Scanned (not closing)) (sym (take_more bytes i 0 l)) (scanned_quote closing (take i bytes) (get_or bytes i 0) e s)

pub scanned_more_plain : (closing : Bool) (bytes : List ℕ) (i : ℕ) → i < length bytes → closing ≡ false → get_or bytes i 0 ≢ quote → Scanned closing (take i bytes) → Scanned closing (take (i + 1) bytes)
scanned_more_plain closing bytes i l e differs s =
    subst (Scanned closing) (sym (take_more bytes i 0 l)) (scanned_plain closing (take i bytes) (get_or bytes i 0) e differs s)

-- a byte that is no quote behind a quote, or the end, closes
pub scanned_closes_at : (closing : Bool) (bytes : List ℕ) (i : ℕ) → i ≤ length bytes → closing ≡ true → get_or bytes i 0 ≢ quote → Scanned closing (take i bytes) → IsQuoted (quote ∷ bytes) (i + 1)
scanned_closes_at closing bytes i l e alone s =
    let n : length (take i bytes) ≡ i = length-take-le i bytes l in
    let f : first (drop i bytes) ≡ get_or bytes i 0 = get_or-drop i bytes 0 0 ∙ ap (λ n. get_or bytes n 0) (add-zero i) in
    subst (λ (n : ℕ). IsQuoted (quote ∷ bytes) (n + 1)) n
    (scanned_closes closing (take i bytes) (drop i bytes) bytes e (take-append-drop i bytes) (λ q. alone (sym f ∙ q)) s)

pub scanned_is_open : (closing : Bool) (bytes : List ℕ) (i : ℕ) → length bytes ≤ i → closing ≡ false → Scanned closing (take i bytes) → (size : ℕ) → IsQuoted (quote ∷ bytes) size → ⊥
scanned_is_open true bytes i l e s size q = cc e
scanned_is_open false bytes i l e s size q =
    let all : IsInside bytes = subst IsInside (take_all i bytes l) s in
    let same : bytes ≡ q.inside ++ (quote ∷ q.after) = cc (q.parts) in
    inside_is_open q.inside q.after bytes same q.between q.closed all

-- bytes that begin with a quote
pub from_second : (bytes : List ℕ) → 0 < length bytes → get_or bytes 0 0 ≡ quote → bytes ≡ quote ∷ take (length bytes - 1) (drop 1 bytes)
from_second [] l e = absurd (omega arith)
from_second (c ∷ cs) l e = ap (λ b. b ∷ cs) e ∙ ap (λ xs. quote ∷ xs) (sym (take_rest (c ∷ cs) 1))

pub quoted_size : (bytes : List ℕ) (n : ℕ) → IsQuoted bytes n → (0 < n) × (n ≤ length bytes)
quoted_size bytes n q =
    let l = length-append q.inside (quote ∷ q.after) in
    let e : length bytes ≡ suc (length (q.inside ++ (quote ∷ q.after))) = ap length q.parts in
    ((omega (arith, q.whole)), (omega (arith, q.whole, l, e)))

pub from_quote : (bytes : List ℕ) → 0 < length bytes → first bytes ≡ quote → bytes ≡ quote ∷ drop 1 bytes
from_quote [] l e = absurd (omega arith)
from_quote (c ∷ cs) l e = ap (λ b. b ∷ cs) e
