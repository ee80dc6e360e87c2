-- Lemmas on names: names that two underscores join are read place by place, and where a direct locative ends.
use Rattle.std.proofs.Common.{◌≡◌, ◌≢◌, ℕ, zero, suc, ◌+◌, ◌-◌, ◌<◌, ◌≤◌, ◌⊎◌, inl, inr, Bool, true, false, cond, eqb, nat_eq, ◌||◌, Option, Some, None, List, [], ◌∷◌, ◌++◌, length, get_or, drop, refl, sym, ap, ◌∙◌, subst, rules, arith, length-append, add-one, zero-add, add-zero, add_assoc}
use Rattle.std.specs.Prelude.{All, IfSome, IfNone}
use Rattle.std.proofs.lemmas.List.{drop_more, drop_all, append_assoc, append-nil, get_or_append_left, get_or-append_right, same_from_push, append_cancel_left, get_or_past, get_or_at, get_or-append-add}
use Rattle.std.specs.List.{list_any}
use Rattle.std.proofs.lemmas.Bool.{or_cases, cases_eq, cases_lt, cases_Bool, eq-eqb, ne_eqb, eqb-true}
use Rattle.std.proofs.lemmas.Bool.Decides.{nat_tests}
use Rattle.jwords.specs.declared.naming.Place.{Place}
use Rattle.jwords.specs.declared.naming.Place.TheVariants.{Start, Inside, Underscore}
use Rattle.jwords.specs.Alphabet.{underscore, is_letter, is_digit, is_alphanumeric, is_name_byte, first}
use Rattle.jwords.specs.Names.{IsPlain, IsJoined, one, more, IsDirect, IsName}
use Rattle.jwords.specs.Places.{place_after, started}

-- classes of bytes
pub letter_is_alphanumeric : (c : ℕ) → is_letter c ≡ true → is_alphanumeric c ≡ true
unfolding is_alphanumeric
letter_is_alphanumeric c e = rw e refl

pub alphanumeric_is_name : (c : ℕ) → is_alphanumeric c ≡ true → is_name_byte c ≡ true
unfolding is_name_byte
alphanumeric_is_name c e = rw e refl

pub underscore_is_name : is_name_byte underscore ≡ true
unfolding is_name_byte is_alphanumeric is_letter is_digit
underscore_is_name = refl

pub underscore_is_no_letter : is_letter underscore ≡ false
unfolding is_letter
underscore_is_no_letter = refl

pub underscore_is_not_alphanumeric : is_alphanumeric underscore ≡ false
unfolding is_alphanumeric is_letter is_digit
underscore_is_not_alphanumeric = refl

pub name_byte_cases : (c : ℕ) → is_name_byte c ≡ true → (is_alphanumeric c ≡ true) ⊎ (c ≡ underscore)
unfolding is_name_byte
name_byte_cases c e = elim (cases_Bool (is_alphanumeric c)) [
  | inl so ↦ inl so
  | inr not_so ↦ inr (eqb-true c 95 (rw not_so at e))
]

pub alphanumeric_differs : (c : ℕ) → is_alphanumeric c ≡ true → c ≡ underscore → ⊥
alphanumeric_differs c e u =
    let h : is_alphanumeric underscore ≡ true = subst (λ (b : ℕ). is_alphanumeric b ≡ true) u e in
    absurd (cc (underscore_is_not_alphanumeric, h))

-- the rest of a plain name, behind a letter or a digit
pub record IsTail (bytes : List ℕ) : Type 0 where
  pub bytes_of_names : All (λ byte. is_name_byte byte ≡ true) bytes
  pub parted : (i : ℕ) → get_or bytes i 0 ≡ underscore → is_alphanumeric (get_or bytes (suc i) 0) ≡ true

pub all_cons : (P : ℕ → Type 0) (c : ℕ) (cs : List ℕ) → P c → All P cs → All P (c ∷ cs)
all_cons P c cs h a zero d l = h
all_cons P c cs h a (suc k) d l = a k d (omega arith)

pub all_rest : (P : ℕ → Type 0) (c : ℕ) (cs : List ℕ) → All P (c ∷ cs) → All P cs
all_rest P c cs a k d l = a (suc k) d (omega arith)

pub all_first : (P : ℕ → Type 0) (c : ℕ) (cs : List ℕ) → All P (c ∷ cs) → P c
all_first P c cs a = a 0 c (omega arith)

pub tail_nil : IsTail []
tail_nil = record {
  bytes_of_names = λ k d l. absurd (omega arith);
  parted = λ i e. absurd (omega (arith, e));
}

pub tail_cons : (c : ℕ) (cs : List ℕ) → is_alphanumeric c ≡ true → IsTail cs → IsTail (c ∷ cs)
tail_cons c cs h t = record {
  bytes_of_names = all_cons (λ byte. is_name_byte byte ≡ true) c cs (alphanumeric_is_name c h) t.bytes_of_names;
  parted = parts;
}
  where
    parts : (i : ℕ) → get_or (c ∷ cs) i 0 ≡ underscore → is_alphanumeric (get_or cs i 0) ≡ true
    parts zero e = absurd (alphanumeric_differs c h e)
    parts (suc i) e = t.parted i e

pub tail_rest : (c : ℕ) (cs : List ℕ) → IsTail (c ∷ cs) → IsTail cs
tail_rest c cs t = record {
  bytes_of_names = all_rest (λ byte. is_name_byte byte ≡ true) c cs t.bytes_of_names;
  parted = λ i e. t.parted (suc i) e;
}

pub tail_next : (cs : List ℕ) → IsTail (underscore ∷ cs) → is_alphanumeric (first cs) ≡ true
tail_next cs t = t.parted 0 refl

pub tail_underscore : (c : ℕ) (cs : List ℕ) → is_alphanumeric c ≡ true → IsTail (c ∷ cs) → IsTail (underscore ∷ c ∷ cs)
tail_underscore c cs h t = record {
  bytes_of_names = all_cons (λ byte. is_name_byte byte ≡ true) underscore (c ∷ cs) underscore_is_name t.bytes_of_names;
  parted = parts;
}
  where
    parts : (i : ℕ) → get_or (underscore ∷ c ∷ cs) i 0 ≡ underscore → is_alphanumeric (get_or (c ∷ cs) i 0) ≡ true
    parts zero e = h
    parts (suc i) e = t.parted i e

pub plain_from_tail : (c : ℕ) (cs : List ℕ) → is_letter c ≡ true → IsTail cs → IsPlain (c ∷ cs)
plain_from_tail c cs h t =
    let u = tail_cons c cs (letter_is_alphanumeric c h) t in
    record { starts = h; bytes = u.bytes_of_names; parted = λ i e. subst (λ (n : ℕ). is_alphanumeric (get_or (c ∷ cs) n 0) ≡ true) (sym (add-one i)) (u.parted i e) }

pub tail_from_plain : (c : ℕ) (cs : List ℕ) → IsPlain (c ∷ cs) → (is_letter c ≡ true) × IsTail cs
tail_from_plain c cs p = (p.starts, tail_rest c cs (record { bytes_of_names = p.bytes; parted = λ i e. subst (λ (n : ℕ). is_alphanumeric (get_or (c ∷ cs) n 0) ≡ true) (add-one i) (p.parted i e) }))

pub no_plain_nil : IsPlain [] → ⊥
unfolding is_letter
no_plain_nil p = cc (p.starts)

-- bytes behind a letter or a digit: the rest of a name alone, or that and more names
pub data Ends : List ℕ → ℕ → Type 0 where
  alone : (bytes : List ℕ) → IsTail bytes → Ends bytes 0
  joined : (whole tail others : List ℕ) (count : ℕ) → whole ≡ tail ++ (underscore ∷ underscore ∷ others) → IsTail tail → IsJoined count others → Ends whole count

pub ends_cons : (c : ℕ) (cs : List ℕ) (k : ℕ) → is_alphanumeric c ≡ true → Ends cs k → Ends (c ∷ cs) k
ends_cons c cs k h (alone bytes t) = alone (c ∷ bytes) (tail_cons c bytes h t)
ends_cons c cs k h (joined whole tail others count e t j) = joined (c ∷ whole) (c ∷ tail) others count (ap (λ xs. c ∷ xs) e) (tail_cons c tail h t) j

pub ends_underscore : (c : ℕ) (cs : List ℕ) (k : ℕ) → is_alphanumeric c ≡ true → Ends cs k → Ends (underscore ∷ c ∷ cs) k
ends_underscore c cs k h (alone bytes t) = alone (underscore ∷ c ∷ bytes) (tail_underscore c bytes h (tail_cons c bytes h t))
ends_underscore c cs k h (joined whole tail others count e t j) =
    joined (underscore ∷ c ∷ whole) (underscore ∷ c ∷ tail) others count (ap (λ xs. underscore ∷ c ∷ xs) e) (tail_underscore c tail h (tail_cons c tail h t)) j

pub joined_from_ends : (c : ℕ) (cs : List ℕ) (k : ℕ) → is_letter c ≡ true → Ends cs k → IsJoined (suc k) (c ∷ cs)
joined_from_ends c cs k h (alone bytes t) = one (c ∷ bytes) (plain_from_tail c bytes h t)
joined_from_ends c cs k h (joined whole tail others count e t j) = more count (c ∷ whole) (c ∷ tail) others (plain_from_tail c tail h t) j (ap (λ xs. c ∷ xs) e)

-- what reading from a place on says of the bytes
abbrev pub Meaning : Place → List ℕ → ℕ → Type 0
Meaning Start bytes k = IsJoined k bytes
Meaning Inside bytes k = Ends bytes k
Meaning Underscore bytes k = Ends (underscore ∷ bytes) k

-- one step back
start_step : (q : Place) (c : ℕ) (cs : List ℕ) (k : ℕ) (b : Bool) → is_letter c ≡ b → cond b (Some Inside) None ≡ Some q → Meaning q cs k → IsJoined (1 + k) (c ∷ cs)
start_step Inside c cs k true h e m = let n : suc k ≡ 1 + k = omega arith in subst (λ (n : ℕ). IsJoined n (c ∷ cs)) n (joined_from_ends c cs k h m)
start_step Start c cs k true h e m = absurd (cc)
start_step Underscore c cs k true h e m = absurd (cc)
start_step q c cs k false h e m = absurd (cc)

inside_step : (q : Place) (c : ℕ) (cs : List ℕ) (k : ℕ) (b d : Bool) → is_alphanumeric c ≡ b → eqb c underscore ≡ d → cond b (Some Inside) (cond d (Some Underscore) None) ≡ Some q → Meaning q cs k → Ends (c ∷ cs) k
inside_step Inside c cs k true d h u e m = ends_cons c cs k h m
inside_step Start c cs k true d h u e m = absurd (cc)
inside_step Underscore c cs k true d h u e m = absurd (cc)
inside_step Underscore c cs k false true h u e m = subst (λ (b : ℕ). Ends (b ∷ cs) k) (sym (eqb-true c underscore u)) m
inside_step Start c cs k false true h u e m = absurd (cc)
inside_step Inside c cs k false true h u e m = absurd (cc)
inside_step q c cs k false false h u e m = absurd (cc)

underscore_step : (q : Place) (c : ℕ) (cs : List ℕ) (k : ℕ) (b d : Bool) → is_alphanumeric c ≡ b → eqb c underscore ≡ d → cond b (Some Inside) (cond d (Some Start) None) ≡ Some q → Meaning q cs k → Ends (underscore ∷ c ∷ cs) k
underscore_step Inside c cs k true d h u e m = ends_underscore c cs k h m
underscore_step Start c cs k true d h u e m = absurd (cc)
underscore_step Underscore c cs k true d h u e m = absurd (cc)
underscore_step Start c cs k false true h u e m = subst (λ (b : ℕ). Ends (underscore ∷ b ∷ cs) k) (sym (eqb-true c underscore u)) (joined (underscore ∷ underscore ∷ cs) [] cs k refl tail_nil m)
underscore_step Underscore c cs k false true h u e m = absurd (cc)
underscore_step Inside c cs k false true h u e m = absurd (cc)
underscore_step q c cs k false false h u e m = absurd (cc)

pub meaning_step : (p q : Place) (c : ℕ) (cs : List ℕ) (k : ℕ) → place_after p c ≡ Some q → Meaning q cs k → Meaning p (c ∷ cs) (started p + k)
meaning_step Start q c cs k e m = start_step q c cs k (is_letter c) refl e m
meaning_step Inside q c cs k e m = subst (λ (n : ℕ). Ends (c ∷ cs) n) (sym (zero-add k)) (inside_step q c cs k (is_alphanumeric c) (eqb c underscore) refl refl e m)
meaning_step Underscore q c cs k e m = subst (λ (n : ℕ). Ends (underscore ∷ c ∷ cs) n) (sym (zero-add k)) (underscore_step q c cs k (is_alphanumeric c) (eqb c underscore) refl refl e m)

-- one step on: a place after the byte, and what is left there
pub record Onward (p : Place) (c : ℕ) (cs : List ℕ) (k : ℕ) : Type 0 where
  pub next : Place
  pub count : ℕ
  pub leads : place_after p c ≡ Some next
  pub rest : Meaning next cs count
  pub same : k ≡ started p + count

pub to_letter : (c : ℕ) → is_letter c ≡ true → place_after Start c ≡ Some Inside
to_letter c h = rw h refl

pub to_inside : (c : ℕ) → is_alphanumeric c ≡ true → place_after Inside c ≡ Some Inside
to_inside c h = rw h refl

pub back_to_inside : (c : ℕ) → is_alphanumeric c ≡ true → place_after Underscore c ≡ Some Inside
back_to_inside c h = rw h refl

pub to_underscore : (c : ℕ) → c ≡ underscore → place_after Inside c ≡ Some Underscore
to_underscore c e = rw e (rw underscore_is_not_alphanumeric refl)

pub to_start : (c : ℕ) → c ≡ underscore → place_after Underscore c ≡ Some Start
to_start c e = rw e (rw underscore_is_not_alphanumeric refl)

start_onward : (c : ℕ) (cs : List ℕ) (k : ℕ) → IsJoined k (c ∷ cs) → Onward Start c cs k
start_onward c cs k (one whole p) =
    let t = tail_from_plain c cs p in
    record { next = Inside; count = 0; leads = to_letter c t.0; rest = alone cs t.1; same = refl }
start_onward c cs k (more count whole [] others p j e) = absurd (no_plain_nil p)
start_onward c cs k (more count whole (d ∷ ds) others p j e) =
    let t = tail_from_plain d ds p in
    let h : c ≡ d = cc in
    let r : cs ≡ ds ++ (underscore ∷ underscore ∷ others) = cc in
    record {
      next = Inside;
      count = count;
      leads = to_letter c (subst (λ (b : ℕ). is_letter b ≡ true) (sym h) t.0);
      rest = joined cs ds others count r t.1 j;
      same = omega arith;
    }

-- the first of these bytes is of a name
pub ends_first : (c : ℕ) (cs : List ℕ) (k : ℕ) → Ends (c ∷ cs) k → is_name_byte c ≡ true
ends_first c cs k (alone bytes t) = all_first (λ byte. is_name_byte byte ≡ true) c cs t.bytes_of_names
ends_first c cs k (joined whole [] others count e t j) = let h : underscore ≡ c = cc in subst (λ (b : ℕ). is_name_byte b ≡ true) h underscore_is_name
ends_first c cs k (joined whole (d ∷ ds) others count e t j) =
    let h : d ≡ c = cc in subst (λ (b : ℕ). is_name_byte b ≡ true) h (all_first (λ byte. is_name_byte byte ≡ true) d ds t.bytes_of_names)

pub ends_rest : (c : ℕ) (cs : List ℕ) (k : ℕ) → is_alphanumeric c ≡ true → Ends (c ∷ cs) k → Ends cs k
ends_rest c cs k h (alone bytes t) = alone cs (tail_rest c cs t)
ends_rest c cs k h (joined whole [] others count e t j) = let u : c ≡ underscore = cc in absurd (alphanumeric_differs c h u)
ends_rest c cs k h (joined whole (d ∷ ds) others count e t j) =
    let r : cs ≡ ds ++ (underscore ∷ underscore ∷ others) = cc in
    joined cs ds others count r (tail_rest d ds t) j

inside_onward : (c : ℕ) (cs : List ℕ) (k : ℕ) → Ends (c ∷ cs) k → Onward Inside c cs k
inside_onward c cs k m = elim (name_byte_cases c (ends_first c cs k m)) [
  | inl h ↦ record { next = Inside; count = k; leads = to_inside c h; rest = ends_rest c cs k h m; same = sym (zero-add k) }
  | inr u ↦ record { next = Underscore; count = k; leads = to_underscore c u; rest = subst (λ (b : ℕ). Ends (b ∷ cs) k) u m; same = sym (zero-add k) }
]

pub zero_is_not_alphanumeric : is_alphanumeric 0 ≡ true → ⊥
unfolding is_alphanumeric is_letter is_digit
zero_is_not_alphanumeric e = cc

-- behind one underscore
pub ends_behind : (c : ℕ) (cs : List ℕ) (k : ℕ) → Ends (underscore ∷ c ∷ cs) k → ((is_alphanumeric c ≡ true) × Ends (c ∷ cs) k) ⊎ ((c ≡ underscore) × IsJoined k cs)
ends_behind c cs k (alone bytes t) = inl (tail_next (c ∷ cs) t, alone (c ∷ cs) (tail_rest underscore (c ∷ cs) t))
ends_behind c cs k (joined whole [] others count e t j) =
    let u : c ≡ underscore = cc in
    let r : others ≡ cs = cc in
    inr (u, subst (λ (xs : List ℕ). IsJoined count xs) r j)
ends_behind c cs k (joined whole (d ∷ []) others count e t j) =
    let u : d ≡ underscore = cc in
    let n : is_alphanumeric 0 ≡ true = t.parted 0 u in
    absurd (zero_is_not_alphanumeric n)
ends_behind c cs k (joined whole (d ∷ f ∷ ds) others count e t j) =
    let u : d ≡ underscore = cc in
    let n : is_alphanumeric f ≡ true = t.parted 0 u in
    let v : f ≡ c = cc in
    let r : c ∷ cs ≡ (f ∷ ds) ++ (underscore ∷ underscore ∷ others) = cc in
    inl (subst (λ (b : ℕ). is_alphanumeric b ≡ true) v n, joined (c ∷ cs) (f ∷ ds) others count r (tail_rest d (f ∷ ds) t) j)

underscore_onward : (c : ℕ) (cs : List ℕ) (k : ℕ) → Ends (underscore ∷ c ∷ cs) k → Onward Underscore c cs k
underscore_onward c cs k m = elim (ends_behind c cs k m) [
  | inl h ↦ record { next = Inside; count = k; leads = back_to_inside c h.0; rest = ends_rest c cs k h.0 h.1; same = sym (zero-add k) }
  | inr u ↦ record { next = Start; count = k; leads = to_start c u.0; rest = u.1; same = sym (zero-add k) }
]

pub meaning_onward : (p : Place) (c : ℕ) (cs : List ℕ) (k : ℕ) → Meaning p (c ∷ cs) k → Onward p c cs k
meaning_onward Start c cs k m = start_onward c cs k m
meaning_onward Inside c cs k m = inside_onward c cs k m
meaning_onward Underscore c cs k m = underscore_onward c cs k m

-- where no bytes are left, the place is inside a name
joined_of_nothing : (k : ℕ) → IsJoined k [] → ⊥
joined_of_nothing k (one whole p) = no_plain_nil p
joined_of_nothing k (more count whole [] others p j e) = no_plain_nil p
joined_of_nothing k (more count whole (d ∷ ds) others p j e) = cc

no_underscore_last : (k : ℕ) → Ends (underscore ∷ []) k → ⊥
no_underscore_last k (alone bytes t) = zero_is_not_alphanumeric (t.parted 0 refl)
no_underscore_last k (joined whole [] others count e t j) = cc
no_underscore_last k (joined whole (d ∷ []) others count e t j) = cc
no_underscore_last k (joined whole (d ∷ f ∷ ds) others count e t j) = cc

ends_of_nothing : (k : ℕ) → Ends [] k → k ≡ 0
ends_of_nothing k (alone bytes t) = refl
ends_of_nothing k (joined whole [] others count e t j) = absurd (cc)
ends_of_nothing k (joined whole (d ∷ ds) others count e t j) = absurd (cc)

pub alone_meaning : Meaning Inside [] 0
alone_meaning = alone [] tail_nil

pub meaning_of_nothing : (p : Place) (k : ℕ) → Meaning p [] k → (p ≡ Inside) × (k ≡ 0)
meaning_of_nothing Start k m = absurd (joined_of_nothing k m)
meaning_of_nothing Inside k m = (refl, ends_of_nothing k m)
meaning_of_nothing Underscore k m = absurd (no_underscore_last k m)

-- n names were found before the rest, and the whole is joined names just as the rest is what may follow
pub record Progress (p : Place) (n : ℕ) (rest whole : List ℕ) : Type 0 where
  pub sound : (k : ℕ) → Meaning p rest k → IsJoined (n + k) whole
  pub complete : (k : ℕ) → IsJoined k whole → (j : ℕ) × Meaning p rest j × (k ≡ n + j)

pub progress_start : (whole : List ℕ) → Progress Start 0 whole whole
progress_start whole = record {
  sound = λ k j. subst (λ (n : ℕ). IsJoined n whole) (sym (zero-add k)) j;
  complete = λ k j. (k, j, sym (zero-add k));
}

progress_step : (p q : Place) (n : ℕ) (c : ℕ) (cs whole : List ℕ) → Progress p n (c ∷ cs) whole → place_after p c ≡ Some q → Progress q (n + started p) cs whole
progress_step p q n c cs whole h e = record {
  sound = λ k m. subst (λ (n : ℕ). IsJoined n whole) (sym (add_assoc n (started p) k)) (h.sound (started p + k) (meaning_step p q c cs k e m));
  complete = λ k j.
      let r : (j : ℕ) × Meaning p (c ∷ cs) j × (k ≡ n + j) = h.complete k j in
      let o : Onward p c cs r.0 = meaning_onward p c cs r.0 r.1 in
      let same_place : o.next ≡ q = cc (o.leads, e) in
      (o.count, subst (λ (p : Place). Meaning p cs o.count) same_place o.rest, r.2 ∙ ap (λ j. n + j) o.same ∙ sym (add_assoc n (started p) o.count));
}

pub progress_more : (p q : Place) (n m : ℕ) (bytes whole : List ℕ) (i : ℕ) → i < length bytes → Progress p n (drop i bytes) whole → place_after p (get_or bytes i 0) ≡ Some q → m ≡ n + started p → Progress q m (drop (i + 1) bytes) whole
progress_more p q n m bytes whole i l h e s =
    rw s (progress_step p q n (get_or bytes i 0) (drop (i + 1) bytes) whole (rw (drop_more bytes i 0 l) at h) e)

-- no names where a byte leads nowhere
pub progress_stuck : (p : Place) (n : ℕ) (bytes whole : List ℕ) (i : ℕ) → i < length bytes → Progress p n (drop i bytes) whole → place_after p (get_or bytes i 0) ≡ None → (k : ℕ) → IsJoined k whole → ⊥
progress_stuck p n bytes whole i l h e k j =
    let g = rw (drop_more bytes i 0 l) at h in
    let r : (j : ℕ) × Meaning p (get_or bytes i 0 ∷ drop (i + 1) bytes) j × (k ≡ n + j) = g.complete k j in
    let o : Onward p (get_or bytes i 0) (drop (i + 1) bytes) r.0 = meaning_onward p (get_or bytes i 0) (drop (i + 1) bytes) r.0 r.1 in
    cc (o.leads, e)

-- at the end
pub progress_end : (p : Place) (n : ℕ) (bytes whole : List ℕ) (i : ℕ) → length bytes ≤ i → Progress p n (drop i bytes) whole → p ≡ Inside → IsJoined n whole
progress_end p n bytes whole i l h e =
    let g = rw (drop_all i bytes l) at h in
    subst (λ (n : ℕ). IsJoined n whole) (add-zero n) (g.sound 0 (subst (λ (q : Place). Meaning q [] 0) (sym e) (alone [] tail_nil)))

pub progress_unfinished : (p : Place) (n : ℕ) (bytes whole : List ℕ) (i : ℕ) → length bytes ≤ i → Progress p n (drop i bytes) whole → p ≢ Inside → (k : ℕ) → IsJoined k whole → ⊥
progress_unfinished p n bytes whole i l h differs k j =
    let g = rw (drop_all i bytes l) at h in
    let r : (j : ℕ) × Meaning p [] j × (k ≡ n + j) = g.complete k j in
    differs ((meaning_of_nothing p r.0 r.1).0)

joined_is_some : (k : ℕ) (whole : List ℕ) → IsJoined k whole → k ≡ 0 → ⊥
joined_is_some k whole (one name p) e = cc
joined_is_some k whole (more count all name others p j w) e = cc

alone_is_plain : (k : ℕ) (whole : List ℕ) → IsJoined k whole → k ≡ 1 → IsPlain whole
alone_is_plain k whole (one name p) e = p
alone_is_plain k whole (more count all name others p j w) e = absurd (joined_is_some count others j (omega (arith, e)))

-- the bytes tell how many names there are
meaning_count : (bytes : List ℕ) (p : Place) (j k : ℕ) → Meaning p bytes j → Meaning p bytes k → j ≡ k
meaning_count [] p j k m n = (meaning_of_nothing p j m).1 ∙ sym ((meaning_of_nothing p k n).1)
meaning_count (c ∷ cs) p j k m n =
    let o : Onward p c cs j = meaning_onward p c cs j m in
    let u : Onward p c cs k = meaning_onward p c cs k n in
    let same_place : u.next ≡ o.next = cc (o.leads, u.leads) in
    let e : o.count ≡ u.count = meaning_count cs o.next o.count u.count o.rest (subst (λ (p : Place). Meaning p cs u.count) same_place u.rest) in
    o.same ∙ ap (λ n. started p + n) e ∙ sym u.same

pub one_count : (j k : ℕ) (whole : List ℕ) → IsJoined j whole → IsJoined k whole → j ≡ k
one_count j k whole p q = meaning_count whole Start j k p q

pub plain_from_one : (whole : List ℕ) → IsJoined 1 whole → IsPlain whole
plain_from_one whole j = alone_is_plain 1 whole j refl

-- a name is plain where there is one
pub plain_told : (r : Option ℕ) (whole : List ℕ) → IfSome r (λ k. IsJoined k whole) → IfNone r ((k : ℕ) → IsJoined k whole → ⊥) → (r ≡ Some 1 → IsPlain whole) × (IsPlain whole → r ≡ Some 1)
plain_told None whole some none = (λ e. absurd (cc), λ p. absurd (none 1 (one whole p)))
plain_told (Some k) whole some none =
    (λ e. let k_is : k ≡ 1 = cc in alone_is_plain k whole some k_is, λ p. ap Some (one_count k 1 whole some (one whole p)))

-- a direct locative without its last underscore
pub direct_front : (whole : List ℕ) (d : IsDirect whole) → whole ≡ (d.name ++ (underscore ∷ d.locale)) ++ (underscore ∷ [])
direct_front whole d = d.parts ∙ sym (append_assoc d.name (underscore ∷ d.locale) (underscore ∷ []))

-- for the locale `base`
pub direct_of_base : (whole name : List ℕ) → whole ≡ name ++ (underscore ∷ underscore ∷ []) → IsPlain name → IsDirect whole
direct_of_base whole name e p = record { name = name; locale = []; parts = e; plain = p; letters = λ k d l. absurd (omega arith) }

-- the last of some bytes
pub last_split : (c : ℕ) (cs : List ℕ) → (front : List ℕ) × (z : ℕ) × (c ∷ cs ≡ front ++ (z ∷ [])) × (z ≡ get_or (c ∷ cs) (length cs) 0)
last_split c [] = ([], c, refl, refl)
last_split c (d ∷ ds) =
    let r : (front : List ℕ) × (z : ℕ) × (d ∷ ds ≡ front ++ (z ∷ [])) × (z ≡ get_or (d ∷ ds) (length ds) 0) = last_split d ds in
    (c ∷ r.0, r.1, ap (λ xs. c ∷ xs) r.2, r.3)

pub last_is_no_underscore : (locale : List ℕ) → All (λ byte. is_alphanumeric byte ≡ true) locale → (name front : List ℕ) → name ++ (underscore ∷ locale) ≡ front ++ (underscore ∷ []) → (locale ≡ []) × (name ≡ front)
last_is_no_underscore [] a name front e = (refl, (same_from_push name front underscore underscore e).0)
last_is_no_underscore (c ∷ cs) a name front e =
    let r : (init : List ℕ) × (z : ℕ) × (c ∷ cs ≡ init ++ (z ∷ [])) × (z ≡ get_or (c ∷ cs) (length cs) 0) = last_split c cs in
    let f : (name ++ (underscore ∷ r.0)) ++ (r.1 ∷ []) ≡ front ++ (underscore ∷ []) =
    append_assoc name (underscore ∷ r.0) (r.1 ∷ []) ∙ ap (λ xs. name ++ (underscore ∷ xs)) (sym r.2) ∙ e in
    let u : r.1 ≡ underscore = (same_from_push (name ++ (underscore ∷ r.0)) front r.1 underscore f).1 in
    let h : is_alphanumeric (get_or (c ∷ cs) (length cs) 0) ≡ true = a (length cs) 0 (omega arith) in
    absurd (alphanumeric_differs r.1 (rw r.3 h) u)

pub base_from_direct : (whole front : List ℕ) → whole ≡ front ++ (underscore ∷ underscore ∷ []) → IsDirect whole → IsPlain front
base_from_direct whole front e d =
    let f : (d.name ++ (underscore ∷ d.locale)) ++ (underscore ∷ []) ≡ (front ++ (underscore ∷ [])) ++ (underscore ∷ []) =
    sym (direct_front whole d) ∙ e ∙ sym (append_assoc front (underscore ∷ []) (underscore ∷ [])) in
    let g = same_from_push (d.name ++ (underscore ∷ d.locale)) (front ++ (underscore ∷ [])) underscore underscore f in
    let r = last_is_no_underscore d.locale d.letters d.name front g.0 in
    subst IsPlain r.1 d.plain

-- behind a plain name with an underscore in it: the last one parts a name and a locale
pub record LastUnderscore (front : List ℕ) : Type 0 where
  pub name : List ℕ
  pub locale : List ℕ
  pub parts : front ≡ name ++ (underscore ∷ locale)
  pub without : All (λ byte. byte ≢ underscore) locale

none_of_nothing : All (λ byte. byte ≢ underscore) []
none_of_nothing k d l = absurd (omega arith)

pub last_underscore : (front : List ℕ) → LastUnderscore front ⊎ All (λ byte. byte ≢ underscore) front
last_underscore [] = inr none_of_nothing
last_underscore (c ∷ cs) = elim (last_underscore cs) [
  | inl r ↦ inl (record { name = c ∷ r.name; locale = r.locale; parts = ap (λ xs. c ∷ xs) r.parts; without = r.without })
  | inr none ↦ elim (cases_eq c underscore) [
    | inl e ↦ inl (record { name = []; locale = cs; parts = ap (λ b. b ∷ cs) e; without = none })
    | inr differs ↦ inr (all_cons (λ byte. byte ≢ underscore) c cs differs none)
  ]
]

pub among_means : (front : List ℕ) → list_any (λ b. nat_eq b underscore) front ≡ true → All (λ byte. byte ≢ underscore) front → ⊥
among_means [] e a = cc
among_means (c ∷ cs) e a = elim (or_cases (nat_eq c underscore) (list_any (λ b. nat_eq b underscore) cs) e) [
  | inl h ↦ all_first (λ byte. byte ≢ underscore) c cs a (eqb-true c underscore h)
  | inr h ↦ among_means cs h (all_rest (λ byte. byte ≢ underscore) c cs a)
]

-- the front of a plain name that an underscore follows is plain, and what follows is of letters and digits
pub front_is_plain : (name locale : List ℕ) → IsPlain (name ++ (underscore ∷ locale)) → IsPlain name
front_is_plain [] locale p = absurd (cc (underscore_is_no_letter, p.starts))
front_is_plain (c ∷ cs) locale p = record {
  starts = p.starts;
  bytes = λ k d l. subst (λ (b : ℕ). is_name_byte b ≡ true) (get_or_append_left (c ∷ cs) (underscore ∷ locale) d k l) (p.bytes k d (longer k l));
  parted = parts;
}
  where
    longer : (k : ℕ) → k < length (c ∷ cs) → k < length ((c ∷ cs) ++ (underscore ∷ locale))
    longer k l = let e = length-append (c ∷ cs) (underscore ∷ locale) in omega (arith, e, l)

    parts : (i : ℕ) → get_or (c ∷ cs) i 0 ≡ underscore → is_alphanumeric (get_or (c ∷ cs) (i + 1) 0) ≡ true
    parts i e = elim (cases_lt i (length (c ∷ cs))) [
      | inr past ↦ absurd (cc (get_or_past (c ∷ cs) i 0 past, e))
      | inl l ↦
          let h : is_alphanumeric (get_or ((c ∷ cs) ++ (underscore ∷ locale)) (i + 1) 0) ≡ true =
          p.parted i (get_or_append_left (c ∷ cs) (underscore ∷ locale) 0 i l ∙ e) in
          elim (cases_lt (i + 1) (length (c ∷ cs))) [
            | inl m ↦ subst (λ (b : ℕ). is_alphanumeric b ≡ true) (get_or_append_left (c ∷ cs) (underscore ∷ locale) 0 (i + 1) m) h
            | inr m ↦ absurd (alphanumeric_differs _ h (get_or_at (c ∷ cs) underscore locale 0 (i + 1) (omega (arith, l, m))))
          ]
    ]

pub locale_is_alphanumeric : (name locale : List ℕ) → IsPlain (name ++ (underscore ∷ locale)) → All (λ byte. byte ≢ underscore) locale → All (λ byte. is_alphanumeric byte ≡ true) locale
locale_is_alphanumeric name locale p none k d l =
    let e : get_or (name ++ (underscore ∷ locale)) (length name + suc k) d ≡ get_or locale k d = get_or-append-add name (underscore ∷ locale) (suc k) d in
    let size = length-append name (underscore ∷ locale) in
    let h : is_name_byte (get_or (name ++ (underscore ∷ locale)) (length name + suc k) d) ≡ true = p.bytes (length name + suc k) d (omega (arith, size, l)) in
    elim (name_byte_cases (get_or locale k d) (subst (λ (b : ℕ). is_name_byte b ≡ true) e h)) [
      | inl so ↦ so
      | inr u ↦ absurd (none k d l u)
    ]

pub named_direct : (whole front : List ℕ) → whole ≡ front ++ (underscore ∷ []) → list_any (λ b. nat_eq b underscore) front ≡ true → IsPlain front → IsDirect whole
named_direct whole front e among p = elim (last_underscore front) [
  | inr none ↦ absurd (among_means front among none)
  | inl r ↦
      let q : IsPlain (r.name ++ (underscore ∷ r.locale)) = subst IsPlain r.parts p in
      record {
        name = r.name;
        locale = r.locale;
        parts = e ∙ ap (λ xs. xs ++ (underscore ∷ [])) r.parts ∙ append_assoc r.name (underscore ∷ r.locale) (underscore ∷ []);
        plain = front_is_plain r.name r.locale q;
        letters = locale_is_alphanumeric r.name r.locale q r.without;
      }
]

tail_of_letters : (cs : List ℕ) → All (λ byte. is_alphanumeric byte ≡ true) cs → IsTail cs
tail_of_letters [] a = tail_nil
tail_of_letters (c ∷ cs) a =
    tail_cons c cs (all_first (λ byte. is_alphanumeric byte ≡ true) c cs a) (tail_of_letters cs (all_rest (λ byte. is_alphanumeric byte ≡ true) c cs a))

tail_append : (xs ys : List ℕ) → IsTail xs → IsTail ys → IsTail (xs ++ ys)
tail_append [] ys t u = u
tail_append (c ∷ []) ys t u = elim (name_byte_cases c (all_first (λ byte. is_name_byte byte ≡ true) c [] t.bytes_of_names)) [
  | inl h ↦ tail_cons c ys h u
  | inr e ↦ absurd (zero_is_not_alphanumeric (t.parted 0 e))
]
tail_append (c ∷ d ∷ ds) ys t u =
    let v : IsTail ((d ∷ ds) ++ ys) = tail_append (d ∷ ds) ys (tail_rest c (d ∷ ds) t) u in
    elim (name_byte_cases c (all_first (λ byte. is_name_byte byte ≡ true) c (d ∷ ds) t.bytes_of_names)) [
      | inl h ↦ tail_cons c ((d ∷ ds) ++ ys) h v
      | inr e ↦ subst (λ (b : ℕ). IsTail (b ∷ ((d ∷ ds) ++ ys))) (sym e) (tail_underscore d (ds ++ ys) (t.parted 0 e) v)
    ]

-- a name, an underscore and letters and digits are a plain name
pub plain_longer : (name locale : List ℕ) → IsPlain name → All (λ byte. is_alphanumeric byte ≡ true) locale → (locale ≡ [] → ⊥) → IsPlain (name ++ (underscore ∷ locale))
plain_longer [] locale p a some = absurd (no_plain_nil p)
plain_longer (c ∷ cs) [] p a some = absurd (some refl)
plain_longer (c ∷ cs) (d ∷ ds) p a some =
    let t = tail_from_plain c cs p in
    let h : is_alphanumeric d ≡ true = all_first (λ byte. is_alphanumeric byte ≡ true) d ds a in
    plain_from_tail c (cs ++ (underscore ∷ d ∷ ds)) t.0 (tail_append cs (underscore ∷ d ∷ ds) t.1 (tail_underscore d ds h (tail_of_letters (d ∷ ds) a)))

or_true : (b : Bool) → (b || true) ≡ true
or_true true = refl
or_true false = refl

pub among_middle : (name locale : List ℕ) → list_any (λ b. nat_eq b underscore) (name ++ (underscore ∷ locale)) ≡ true
among_middle [] locale = refl
among_middle (c ∷ cs) locale = rw (among_middle cs locale) (or_true (nat_eq c underscore))

pub direct_named : (whole front : List ℕ) → whole ≡ front ++ (underscore ∷ []) → ((other : List ℕ) → whole ≢ other ++ (underscore ∷ underscore ∷ [])) → IsDirect whole → (list_any (λ b. nat_eq b underscore) front ≡ true) × IsPlain front
direct_named whole front e single d =
    let f : d.name ++ (underscore ∷ d.locale) ≡ front = (same_from_push (d.name ++ (underscore ∷ d.locale)) front underscore underscore (sym (direct_front whole d) ∙ e)).0 in
    let some : d.locale ≡ [] → ⊥ = λ n. single d.name (d.parts ∙ ap (λ xs. d.name ++ (underscore ∷ (xs ++ (underscore ∷ [])))) n) in
    (subst (λ (xs : List ℕ). list_any (λ b. nat_eq b underscore) xs ≡ true) f (among_middle d.name d.locale), subst IsPlain f (plain_longer d.name d.locale d.plain d.letters some))

pub no_direct : (whole : List ℕ) → ((other : List ℕ) → whole ≢ other ++ (underscore ∷ [])) → IsDirect whole → ⊥
no_direct whole none d = none (d.name ++ (underscore ∷ d.locale)) (direct_front whole d)
