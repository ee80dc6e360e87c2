-- The tests of word formation say what the rules say: quoted texts, names, listed words and numbers.
use Rattle.std.proofs.Common.{◌≡◌, ◌≢◌, ℕ, zero, suc, ◌+◌, ◌-◌, ◌<◌, ◌≤◌, ◌^◌, ◌⊎◌, inl, inr, Bool, true, false, not, cond, ◌&&◌, ◌||◌, Option, Some, None, List, [], ◌∷◌, ◌++◌, length, get_or, take, drop, refl, sym, ap, ◌∙◌, subst, rules, arith, nat_eq, nat_lt, eqb, add-one}
use Rattle.std.specs.Prelude.{codes, MatchOption, IfSome, IfNone, is_some, option_map, option_and_then, ℤ, pos, negsuc}
use Rattle.std.specs.List.{list_any, list_all, prefix_len}
use Rattle.std.specs.Str.{bytes_eq}
use Rattle.std.specs.Bool.{Decides}
use Rattle.std.specs.Char.{digit_value}
use Rattle.std.specs.Str.Parse.{AllDigits, IsNumeral}
use Rattle.std.proofs.lemmas.List.{append_assoc, append-nil, same_from_push, length-drop, length-take, take_more, take_all, get_or-take, take_at, get_or_at, length_push, take-append-drop, drop_at}
use Rattle.std.proofs.lemmas.List.Sums.{prefix_len-le-length}
use Rattle.std.proofs.lemmas.Bool.{cases_eq, cases_lt, cases_Bool, eqb-true, eqb-false, eq-eqb, ltb-true, lt-ltb, and_parts, and_from, or_cases, not-true, ne_eqb}
use Rattle.std.proofs.lemmas.Slice.Eq.{bytes_eq-Decides}
use mir.Syntax.{w64}
use mir.Val.{SFits}
use lib.Signed.{mag}
use Rattle.jnumber.specs.declared.reading.Read.{Read}
use Rattle.jnumber.specs.declared.reading.Read.TheVariants as reading
use Rattle.jnumber.specs.Spelling.{Spells, digits_in, number_in}
use Rattle.jnumber.specs.Reading.{IsReading}
use Rattle.jnumber.proofs.Readings.{has_reading, one_reading}
use Rattle.jwords.specs.declared.naming.Place.{Place}
use Rattle.jwords.specs.declared.naming.Place.TheVariants.{Start, Inside, Underscore}
use Rattle.jwords.specs.Alphabet.{quote, underscore, point, colon, first, is_number_start, is_number_byte}
use Rattle.jwords.specs.Numbers.{is_number, is_decimal}
use Rattle.jdata.specs.Fits.{is_within_64_bits}
use Rattle.jwords.specs.Names.{IsPlain, IsJoined, one, more, IsDirect, IsName}
use Rattle.jwords.specs.Places.{place_after, started}
use Rattle.jwords.specs.Listed.{IsInflectedWord, IsNamedLoop, is_one_of, is_listed, control_words, is_among}
use Rattle.jwords.specs.Texts.{IsInside, IsQuoted}
use Rattle.jwords.specs.Runs.{run_length, after_run, BeginsRun, BeginsNumber, IsNoNumber, IsList, last}
use Rattle.jwords.specs.Formed.{closing_size, names_in, is_one, is_plain_name, last_byte, without_last, is_direct_front, is_direct_name, is_named_word, ends_loop, is_loop_word, is_listed_inflected, begins_run, is_number_run, begins_number, list_length}
use Rattle.jwords.proofs.QuotedTexts.{Scanned, scanned_quote, scanned_plain, scanned_closes, inside_is_open}
use Rattle.jwords.proofs.NameParts.{Meaning, Onward, meaning_step, meaning_onward, meaning_of_nothing, alone_meaning, plain_told, no_direct, direct_of_base, base_from_direct, named_direct, direct_named, no_plain_nil}
use Rattle.jwords.proofs.NumberLists.{run_is_some}

or_left : (a b : Bool) → a ≡ true → (a || b) ≡ true
or_left true b e = refl
or_left false b e = absurd (cc e)

or_right : (a b : Bool) → b ≡ true → (a || b) ≡ true
or_right true b e = refl
or_right false b e = e

-- ---- names
count_told : (p q : Place) (c : ℕ) (cs : List ℕ) → place_after p c ≡ Some q → (n : Option ℕ) → MatchOption n ((k : ℕ) → Meaning q cs k → ⊥) (λ k. Meaning q cs k) →
    MatchOption (option_map (λ count. started p + count) n) ((k : ℕ) → Meaning p (c ∷ cs) k → ⊥) (λ k. Meaning p (c ∷ cs) k)
count_told p q c cs e None never = λ k m.
    let o = meaning_onward p c cs k m in
    let same_place : o.next ≡ q = cc (o.leads, e) in
    never o.count (subst (λ (p : Place). Meaning p cs o.count) same_place o.rest)
count_told p q c cs e (Some n) m = meaning_step p q c cs n e m

place_told : (p : Place) (c : ℕ) (cs : List ℕ) (r : Option Place) → place_after p c ≡ r → ((q : Place) → MatchOption (names_in cs q) ((k : ℕ) → Meaning q cs k → ⊥) (λ k. Meaning q cs k)) →
    MatchOption (option_and_then (λ next. option_map (λ count. started p + count) (names_in cs next)) r) ((k : ℕ) → Meaning p (c ∷ cs) k → ⊥) (λ k. Meaning p (c ∷ cs) k)
place_told p c cs None e told = λ k m. let o = meaning_onward p c cs k m in cc (o.leads, e)
place_told p c cs (Some q) e told = count_told p q c cs e (names_in cs q) (told q)

pub names_told : (bytes : List ℕ) (p : Place) → MatchOption (names_in bytes p) ((k : ℕ) → Meaning p bytes k → ⊥) (λ k. Meaning p bytes k)
unfolding names_in
names_told [] Start = λ k m. cc ((meaning_of_nothing Start k m).0)
names_told [] Inside = alone_meaning
names_told [] Underscore = λ k m. cc ((meaning_of_nothing Underscore k m).0)
names_told (c ∷ cs) p = place_told p c cs (place_after p c) refl (names_told cs)

if_some : (P : Type 0) (Q : ℕ → Type 0) (r : Option ℕ) → MatchOption r P Q → IfSome r Q × IfNone r P
if_some P Q None m = (tt, m)
if_some P Q (Some k) m = (m, tt)

one_means : (r : Option ℕ) → (is_one r ≡ true → r ≡ Some 1) × (r ≡ Some 1 → is_one r ≡ true)
one_means None = (λ e. absurd (cc e), λ e. absurd (cc e))
one_means (Some k) = (λ e. ap Some (eqb-true k 1 e), λ e. let h : k ≡ 1 = cc e in eq-eqb k 1 h)

pub plain_decides : (name : List ℕ) → Decides (is_plain_name name) (IsPlain name)
unfolding is_plain_name
plain_decides name =
    let m = if_some ((k : ℕ) → IsJoined k name → ⊥) (λ k. IsJoined k name) (names_in name Start) (names_told name Start) in
    let t = plain_told (names_in name Start) name m.0 m.1 in
    let o = one_means (names_in name Start) in
    (λ e. t.0 (o.0 e), λ p. o.1 (t.1 p))

pub joined_decides : (name : List ℕ) → Decides (is_some (names_in name Start)) ((k : ℕ) × IsJoined k name)
joined_decides name = by_count (names_in name Start) (names_told name Start)
  where
    by_count : (r : Option ℕ) → MatchOption r ((k : ℕ) → IsJoined k name → ⊥) (λ k. IsJoined k name) → Decides (is_some r) ((k : ℕ) × IsJoined k name)
    by_count None never = (λ e. absurd (cc e), λ j. absurd (never j.0 j.1))
    by_count (Some k) j = (λ e. (k, j), λ i. refl)

-- the last byte
pub last_parts : (bytes : List ℕ) (z : ℕ) → 0 < z → last_byte bytes ≡ z → bytes ≡ without_last bytes ++ (z ∷ [])
last_parts [] z some e = absurd (omega (arith, e))
last_parts (c ∷ cs) z some e =
    let n : length (c ∷ cs) - 1 ≡ length cs = omega arith in
    let m : length (c ∷ cs) ≡ length cs + 1 = omega arith in
    let t : take (length cs + 1) (c ∷ cs) ≡ take (length cs) (c ∷ cs) ++ (get_or (c ∷ cs) (length cs) 0 ∷ []) = take_more (c ∷ cs) (length cs) 0 (omega arith) in
    let all : take (length cs + 1) (c ∷ cs) ≡ c ∷ cs = take_all (length cs + 1) (c ∷ cs) (omega arith) in
    let f : take (length cs) (c ∷ cs) ≡ without_last (c ∷ cs) = ap (λ k. take k (c ∷ cs)) (sym n) in
    let g : get_or (c ∷ cs) (length cs) 0 ≡ z = ap (λ k. get_or (c ∷ cs) k 0) (sym n) ∙ e in
    sym all ∙ t ∙ ap (λ xs. xs ++ (get_or (c ∷ cs) (length cs) 0 ∷ [])) f ∙ ap (λ y. without_last (c ∷ cs) ++ (y ∷ [])) g

pub last_of : (bytes front : List ℕ) (z : ℕ) → bytes ≡ front ++ (z ∷ []) → (last_byte bytes ≡ z) × (without_last bytes ≡ front)
last_of bytes front z e =
    let n : length bytes - 1 ≡ length front = (let l = length_push front z in omega (arith, ap length e, l)) in (
      ap (λ k. get_or bytes k 0) n ∙ ap (λ xs. get_or xs (length front) 0) e ∙ get_or_at front z [] 0 (length front) refl,
      ap (λ k. take k bytes) n ∙ ap (λ xs. take (length front) xs) e ∙ take_at front (z ∷ []) (length front) refl,
    )

-- ---- direct locatives
front_decides : (whole front : List ℕ) → whole ≡ front ++ (underscore ∷ []) → Decides (is_direct_front front) (IsDirect whole)
unfolding is_direct_front
front_decides whole front e = by_last (nat_eq (last_byte front) underscore) refl
  where
    by_last : (b : Bool) → nat_eq (last_byte front) underscore ≡ b → Decides (cond b (is_plain_name (without_last front)) (is_among front underscore && is_plain_name front)) (IsDirect whole)
    by_last true u =
        let f : front ≡ without_last front ++ (underscore ∷ []) = last_parts front underscore (omega arith) (eqb-true (last_byte front) underscore u) in
        let w : whole ≡ without_last front ++ (underscore ∷ underscore ∷ []) = e ∙ ap (λ xs. xs ++ (underscore ∷ [])) f ∙ append_assoc (without_last front) (underscore ∷ []) (underscore ∷ []) in
        let p = plain_decides (without_last front) in
        (λ h. direct_of_base whole (without_last front) w (p.0 h), λ d. p.1 (base_from_direct whole (without_last front) w d))
    by_last false u =
        let single : (other : List ℕ) → whole ≢ other ++ (underscore ∷ underscore ∷ []) = λ other f.
        let g : front ≡ other ++ (underscore ∷ []) =
        (same_from_push front (other ++ (underscore ∷ [])) underscore underscore (sym e ∙ f ∙ sym (append_assoc other (underscore ∷ []) (underscore ∷ [])))).0 in
        eqb-false (last_byte front) underscore u ((last_of front other underscore g).0) in
        let p = plain_decides front in (
          λ h. let b = and_parts (is_among front underscore) (is_plain_name front) h in named_direct whole front e b.0 (p.0 b.1),
          λ d. let b = direct_named whole front e single d in and_from (is_among front underscore) (is_plain_name front) b.0 (p.1 b.1),
        )

pub direct_decides : (name : List ℕ) → Decides (is_direct_name name) (IsDirect name)
unfolding is_direct_name
direct_decides name = by_last (nat_eq (last_byte name) underscore) refl
  where
    by_last : (b : Bool) → nat_eq (last_byte name) underscore ≡ b → Decides (b && is_direct_front (without_last name)) (IsDirect name)
    by_last true u = front_decides name (without_last name) (last_parts name underscore (omega arith) (eqb-true (last_byte name) underscore u))
    by_last false u = (λ h. absurd (cc h), λ d. absurd (no_direct name (λ other e. eqb-false (last_byte name) underscore u ((last_of name other underscore e).0)) d))

pub name_decides : (name : List ℕ) → Decides (is_named_word name) (IsName name)
unfolding is_named_word
name_decides name =
    let j = joined_decides name in
    let d = direct_decides name in (
      λ h. elim (or_cases (is_some (names_in name Start)) (is_direct_name name) h) [ inl e ↦ inl (j.0 e) | inr e ↦ inr (d.0 e) ],
      λ n. elim n [
        | inl i ↦ or_left (is_some (names_in name Start)) (is_direct_name name) (j.1 i)
        | inr i ↦ or_right (is_some (names_in name Start)) (is_direct_name name) (d.1 i)
      ],
    )

-- ---- loops with a name
start_decides : (word : List ℕ) → Decides (bytes_eq (take 4 word) (codes "for_")) (word ≡ codes "for_" ++ drop 4 word)
start_decides word =
    let d = bytes_eq-Decides (take 4 word) (codes "for_") in
    (λ h. sym (take-append-drop 4 word) ∙ ap (λ xs. xs ++ drop 4 word) (d.0 h), λ e. d.1 (ap (take 4) e ∙ take_at (codes "for_") (drop 4 word) 4 refl))

end_decides : (bytes : List ℕ) → Decides (ends_loop bytes) ((name : List ℕ) × (bytes ≡ name ++ (point ∷ [])) × IsPlain name)
unfolding ends_loop
end_decides bytes =
    let p = plain_decides (without_last bytes) in (
      λ h. let b = and_parts (nat_eq (last_byte bytes) point) (is_plain_name (without_last bytes)) h in
          (without_last bytes, last_parts bytes point (omega arith) (eqb-true (last_byte bytes) point b.0), p.0 b.1),
      λ n. let l = last_of bytes n.0 point n.1 in
          and_from (nat_eq (last_byte bytes) point) (is_plain_name (without_last bytes)) (eq-eqb (last_byte bytes) point l.0) (p.1 (subst IsPlain (sym l.1) n.2)),
    )

pub loop_decides : (word : List ℕ) → Decides (is_loop_word word) (IsNamedLoop word)
unfolding is_loop_word
loop_decides word =
    let s = start_decides word in
    let t = end_decides (drop 4 word) in (
      λ h. let b = and_parts (bytes_eq (take 4 word) (codes "for_")) (ends_loop (drop 4 word)) h in
          let n = t.0 b.1 in
          record { name = n.0; parts = s.0 b.0 ∙ ap (λ xs. codes "for_" ++ xs) n.1; plain = n.2 },
      λ l. let e : drop 4 word ≡ l.name ++ (point ∷ []) = ap (drop 4) l.parts ∙ drop_at (codes "for_") (l.name ++ (point ∷ [])) 4 refl in
          and_from (bytes_eq (take 4 word) (codes "for_")) (ends_loop (drop 4 word))
          (s.1 (l.parts ∙ ap (λ xs. codes "for_" ++ xs) (sym e))) (t.1 (l.name, e, l.plain)),
    )

pub inflected_decides : (word : List ℕ) → Decides (is_listed_inflected word) (IsInflectedWord word)
unfolding is_listed_inflected
inflected_decides word =
    let l = loop_decides word in (
      λ h. elim (or_cases (is_listed word) (is_one_of control_words word || is_loop_word word) h) [
        | inl e ↦ inl e
        | inr f ↦ elim (or_cases (is_one_of control_words word) (is_loop_word word) f) [ inl e ↦ inr (inl e) | inr e ↦ inr (inr (l.0 e)) ]
      ],
      λ w. elim w [
        | inl e ↦ or_left (is_listed word) (is_one_of control_words word || is_loop_word word) e
        | inr f ↦ or_right (is_listed word) (is_one_of control_words word || is_loop_word word) (elim f [
          | inl e ↦ or_left (is_one_of control_words word) (is_loop_word word) e
          | inr e ↦ or_right (is_one_of control_words word) (is_loop_word word) (l.1 e)
        ])
      ],
    )

-- ---- numbers
digits_decide : (ds : List ℕ) → Decides (list_all is_decimal ds) (AllDigits 10 ds)
digits_decide [] = (λ e. tt, λ a. refl)
digits_decide (c ∷ cs) =
    let d = digits_decide cs in (
      λ h. let b = and_parts (is_decimal c) (list_all is_decimal cs) h in (ltb-true (digit_value c) 10 b.0, d.0 b.1),
      λ a. and_from (is_decimal c) (list_all is_decimal cs) (lt-ltb (digit_value c) 10 a.0) (d.1 a.1),
    )

fits_decides : (z : ℤ) → Decides (is_within_64_bits z) (SFits w64 z)
unfolding is_within_64_bits
fits_decides (pos n) = (λ e. record { sfits = ltb-true n (2 ^ 63) e }, λ f. lt-ltb n (2 ^ 63) f.sfits)
fits_decides (negsuc n) = (λ e. record { sfits = ltb-true n (2 ^ 63) e }, λ f. lt-ltb n (2 ^ 63) f.sfits)

spells_decides : (run : List ℕ) → Decides (is_number run) (Spells run (number_in run))
spells_decides run =
    let d = digits_decide (digits_in run) in
    let f = fits_decides (number_in run) in (
      λ h.
          let b = and_parts (nat_lt 0 (length (digits_in run)) && list_all is_decimal (digits_in run)) (is_within_64_bits (number_in run)) h in
          let c = and_parts (nat_lt 0 (length (digits_in run))) (list_all is_decimal (digits_in run)) b.0 in
          record { digits = (ltb-true 0 (length (digits_in run)) c.0, d.0 c.1); value = refl; in_range = f.0 b.1 },
      λ s. and_from (nat_lt 0 (length (digits_in run)) && list_all is_decimal (digits_in run)) (is_within_64_bits (number_in run))
          (and_from (nat_lt 0 (length (digits_in run))) (list_all is_decimal (digits_in run)) (lt-ltb 0 (length (digits_in run)) s.digits.0) (d.1 s.digits.1)) (f.1 s.in_range),
    )

pub number_decides : (run : List ℕ) → Decides (is_number_run run) (IsReading run reading.Not → ⊥)
unfolding is_number_run
number_decides run =
    let w = bytes_eq-Decides run (codes "_") in
    let s = spells_decides run in (
      λ h none. elim (or_cases (bytes_eq run (codes "_")) (is_number run) h) [ inl e ↦ none.0 (w.0 e) | inr e ↦ none.1 (number_in run) (s.0 e) ],
      λ some. by_reading (has_reading run) some w s,
    )
  where
    by_reading : (r : Read) × IsReading run r → (IsReading run reading.Not → ⊥) → Decides (bytes_eq run (codes "_")) (run ≡ codes "_") → Decides (is_number run) (Spells run (number_in run)) → (bytes_eq run (codes "_") || is_number run) ≡ true
    by_reading (reading.Number z, i) some w s =
        or_right (bytes_eq run (codes "_")) (is_number run) (s.1 (record { digits = i.digits; value = refl; in_range = subst (SFits w64) i.value i.in_range }))
    by_reading (reading.Wide, i) some w s = or_left (bytes_eq run (codes "_")) (is_number run) (w.1 i)
    by_reading (reading.Not, i) some w s = absurd (some i)

-- a run that the test refuses is no number
pub no_number_from : (run : List ℕ) → is_number_run run ≡ false → IsReading run reading.Not
no_number_from run e = by_reading (has_reading run)
  where
    by_reading : (r : Read) × IsReading run r → IsReading run reading.Not
    by_reading (reading.Number z, i) = absurd (cc (e, (number_decides run).1 (λ none. none.1 z i)))
    by_reading (reading.Wide, i) = absurd (cc (e, (number_decides run).1 (λ none. none.0 i)))
    by_reading (reading.Not, i) = i

pub run_decides : (bytes : List ℕ) → Decides (begins_run bytes) (BeginsRun bytes)
unfolding begins_run
run_decides bytes = (
  λ h. let b = and_parts (is_number_start (first bytes)) (not (nat_eq (get_or bytes (run_length bytes) 0) colon)) h in
      record { starts = b.0; ends = eqb-false (get_or bytes (run_length bytes) 0) colon (not-true (nat_eq (get_or bytes (run_length bytes) 0) colon) b.1) },
  λ r. and_from (is_number_start (first bytes)) (not (nat_eq (get_or bytes (run_length bytes) 0) colon)) r.starts
      (ap not (ne_eqb (get_or bytes (run_length bytes) 0) colon r.ends)),
)

pub begins_decides : (bytes : List ℕ) → Decides (begins_number bytes) (BeginsNumber bytes)
unfolding begins_number
begins_decides bytes =
    let r = run_decides bytes in
    let n = number_decides (take (run_length bytes) bytes) in (
      λ h. let b = and_parts (begins_run bytes) (is_number_run (take (run_length bytes) bytes)) h in record { run = r.0 b.0; number = n.0 b.1 },
      λ b. and_from (begins_run bytes) (is_number_run (take (run_length bytes) bytes)) (r.1 b.run) (n.1 b.number),
    )

-- a list of runs, where at most so many bytes are left
pub list_is : (test : List ℕ → Bool) (begins : List ℕ → Type 0) → ((bytes : List ℕ) → Decides (test bytes) (begins bytes)) → ((bytes : List ℕ) → begins bytes → BeginsRun bytes) →
    (most : ℕ) (bytes : List ℕ) → length bytes ≤ most → begins bytes → IsList begins bytes (list_length test most bytes)
unfolding list_length
list_is test begins decides runs zero bytes l b =
    let r = run_is_some bytes (runs bytes b) in
    let m = prefix_len-le-length is_number_byte bytes in
    absurd (omega (arith, r, m, l))
list_is test begins decides runs (suc most) bytes l b = by_test (test (drop (after_run bytes) bytes)) refl
    (λ c. let r = run_is_some bytes (runs bytes b) in
    let d = length-drop (after_run bytes) bytes in
    list_is test begins decides runs most (drop (after_run bytes) bytes) (omega (arith, r, d, l)) c)
  where
    by_test : (t : Bool) → test (drop (after_run bytes) bytes) ≡ t → (begins (drop (after_run bytes) bytes) → IsList begins (drop (after_run bytes) bytes) (list_length test most (drop (after_run bytes) bytes))) →
        IsList begins bytes (cond t (after_run bytes + list_length test most (drop (after_run bytes) bytes)) (run_length bytes))
    by_test true e go = IsList.more bytes (list_length test most (drop (after_run bytes) bytes)) b (go ((decides (drop (after_run bytes) bytes)).0 e))
    by_test false e go = last bytes b (λ c. absurd (cc (e, (decides (drop (after_run bytes) bytes)).1 c)))

-- ---- quoted texts
-- what the size of a closing says of the bytes behind an opening quote, of which some were seen
abbrev pub Closes : List ℕ → List ℕ → Option ℕ → Type 0
Closes seen rest found =
    MatchOption found ((size : ℕ) → IsQuoted (quote ∷ (seen ++ rest)) size → ⊥) (λ size. IsQuoted (quote ∷ (seen ++ rest)) (length seen + size + 1))

closing_step : (c : ℕ) (cs seen : List ℕ) (n : Option ℕ) → Closes (seen ++ (c ∷ [])) cs n → Closes seen (c ∷ cs) (option_map suc n)
closing_step c cs seen None never = λ size q. never size (subst (λ (xs : List ℕ). IsQuoted (quote ∷ xs) size) (sym (append_assoc seen (c ∷ []) cs)) q)
closing_step c cs seen (Some k) q =
    let n : length (seen ++ (c ∷ [])) + k + 1 ≡ length seen + suc k + 1 = (let l = length_push seen c in omega (arith, l)) in
    subst (λ (size : ℕ). IsQuoted (quote ∷ (seen ++ (c ∷ cs))) size) n
    (subst (λ (xs : List ℕ). IsQuoted (quote ∷ xs) (length (seen ++ (c ∷ [])) + k + 1)) (append_assoc seen (c ∷ []) cs) q)

closing_here : (seen rest : List ℕ) → first rest ≢ quote → Scanned true seen → Closes seen rest (Some 0)
closing_here seen rest alone s =
    let n : length seen + 1 ≡ length seen + 0 + 1 = omega arith in
    subst (λ (size : ℕ). IsQuoted (quote ∷ (seen ++ rest)) size) n (scanned_closes true seen rest (seen ++ rest) refl refl alone s)

pub closing_told : (rest seen : List ℕ) (closing : Bool) → Scanned closing seen → Closes seen rest (closing_size closing rest)
unfolding closing_size
closing_told [] seen true s = closing_here seen [] (λ e. absurd (omega (arith, e))) s
closing_told [] seen false s = λ size q.
    let same : seen ++ [] ≡ q.inside ++ (quote ∷ q.after) = cc (q.parts) in
    inside_is_open q.inside q.after (seen ++ []) same q.between q.closed (subst IsInside (sym (append-nil seen)) s)
closing_told (c ∷ cs) seen true s = by_quote (nat_eq c quote) refl (closing_told cs (seen ++ (c ∷ [])) false)
  where
    by_quote : (b : Bool) → nat_eq c quote ≡ b → (Scanned false (seen ++ (c ∷ [])) → Closes (seen ++ (c ∷ [])) cs (closing_size false cs)) →
        Closes seen (c ∷ cs) (cond b (option_map suc (closing_size false cs)) (Some 0))
    by_quote true e go = closing_step c cs seen (closing_size false cs) (go (scanned_quote true seen c (eqb-true c quote e) s))
    by_quote false e go = closing_here seen (c ∷ cs) (eqb-false c quote e) s
closing_told (c ∷ cs) seen false s = by_quote (nat_eq c quote) refl (closing_told cs (seen ++ (c ∷ [])))
  where
    by_quote : (b : Bool) → nat_eq c quote ≡ b → ((b : Bool) → Scanned b (seen ++ (c ∷ [])) → Closes (seen ++ (c ∷ [])) cs (closing_size b cs)) →
        Closes seen (c ∷ cs) (option_map suc (closing_size b cs))
    by_quote true e go = closing_step c cs seen (closing_size true cs) (go true (scanned_quote false seen c (eqb-true c quote e) s))
    by_quote false e go = closing_step c cs seen (closing_size false cs) (go false (scanned_plain false seen c refl (eqb-false c quote e) s))
