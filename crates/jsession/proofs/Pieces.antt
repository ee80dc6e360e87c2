-- How reading a script goes on, and ends.
use Rattle.std.proofs.Common.{◌≡◌, ◌≤◌, ◌<◌, ◌+◌, ◌-◌, ℕ, zero, suc, List, [], ◌∷◌, ◌++◌, length, take, get_or, Option, Some, None, arith, refl, ap, sym, subst, ◌∙◌, append_assoc, length-append}
use Rattle.std.proofs.lemmas.List.{take_more, length-take}
use Rattle.std.proofs.Math.Seq.{take-length}
use Rattle.std.specs.Io.KnownBytes.{Consumes, Keeps}
use Rattle.jio.specs.Counts.{Rises}
use Rattle.jio.specs.Source.{Reads, GaveBytes, MetTheEnd, FailedToRead, first_at}
use Rattle.jsession.specs.Reads.{ReadOn, IsRead, IsKept}
use Rattle.jsession.specs.declared.reading.Reading.{Reading}
use Rattle.jsession.specs.declared.reading.Reading.TheVariants.{Whole, Broken, Long, Short}

pub given_further : (a b c : Option (List ℕ)) (xs ys : List ℕ) → Consumes a b xs → Consumes b c ys → Consumes a c (xs ++ ys)
given_further None b c xs ys h k = tt
given_further (Some front) None c xs ys h k = absurd h
given_further (Some front) (Some middle) None xs ys h k = absurd k
given_further (Some front) (Some middle) (Some back) xs ys h k = h ∙ ap (λ zs. xs ++ zs) k ∙ sym (append_assoc xs ys back)

-- so far these bytes were read, no read failed, and the end wasn't met
pub record ReadSoFar (old now : Reads) (bytes : List ℕ) : Type 0 where
  pub left : Consumes old.left now.left bytes
  pub given : now.given ≡ old.given + length bytes
  pub on : ReadOn old now

pub nothing_read : (old : Reads) → ReadSoFar old old []
nothing_read old = record { left = none old.left; given = omega arith; on = record { none_failed = record { faults = refl; broken = refl }; ended = refl } }
  where
    none : (left : Option (List ℕ)) → Consumes left left []
    none None = tt
    none (Some bytes) = refl

pub read_further : (old now new : Reads) (bytes piece : List ℕ) → ReadSoFar old now bytes → GaveBytes now piece new → ReadSoFar old new (bytes ++ piece)
read_further old now new bytes piece h g = record {
  left = given_further old.left now.left new.left bytes piece h.left g.left;
  given = omega (arith, h.given, g.given, length-append bytes piece);
  on = record { none_failed = record { faults = g.faults ∙ h.on.none_failed.faults; broken = g.broken ∙ h.on.none_failed.broken }; ended = g.ended ∙ h.on.ended };
}

-- reading ends with a piece
pub ends_in : (old now new : Reads) (bytes piece kept : List ℕ) → ReadSoFar old now bytes → GaveBytes now piece new → (how : Reading) → IsKept bytes piece kept (Some how) → IsRead old new how kept
ends_in old now new bytes piece kept h g Long (last, all, long) =
    let k = read_further old now new bytes piece h g in
    record {
      all = bytes ++ piece;
      consumed = k.left;
      given = k.given;
      reason = (last, all, long, omega (arith, k.given, ap length all, length-append kept (last ∷ []), long), k.on);
    }
ends_in old now new bytes piece kept h g Short some =
    let k = read_further old now new bytes piece h g in
    record { all = bytes ++ piece; consumed = k.left; given = k.given; reason = k.on }
ends_in old now new bytes piece kept h g Whole some = absurd some
ends_in old now new bytes piece kept h g Broken some = absurd some

consumed_kept : (a b c : Option (List ℕ)) (xs : List ℕ) → Consumes a b xs → Keeps b c → Consumes a c xs
consumed_kept None b c xs p q = tt
consumed_kept (Some x) None c xs p q = absurd p
consumed_kept (Some x) (Some y) None xs p q = absurd q
consumed_kept (Some x) (Some y) (Some z) xs p q = p ∙ ap (λ l. xs ++ l) (sym q)

-- or with the end
pub ends_whole : (old now new : Reads) (bytes : List ℕ) → ReadSoFar old now bytes → length bytes ≤ 16777216 → MetTheEnd now new → IsRead old new Whole bytes
ends_whole old now new bytes h few m = record {
  all = bytes;
  consumed = consumed_kept old.left now.left new.left bytes h.left m.left;
  given = m.given ∙ h.given;
  reason = (
    refl,
    record {
      at_end = m.at_end;
      none_failed = record { faults = m.faults ∙ h.on.none_failed.faults; broken = m.broken ∙ h.on.none_failed.broken };
      ended = m.ended ∙ (ap (λ e. first_at e now.given) h.on.ended ∙ ap (first_at old.ended) (sym m.given));
      within = omega (arith, m.given, h.given, few);
    },
  );
}

-- or with a fault
pub ends_broken : (old now new : Reads) (bytes : List ℕ) → ReadSoFar old now bytes → length bytes ≤ 16777216 → FailedToRead now new → IsRead old new Broken bytes
ends_broken old now new bytes h few m = record {
  all = bytes;
  consumed = consumed_kept old.left now.left new.left bytes h.left m.left;
  given = m.given ∙ h.given;
  reason = (
    refl,
    record {
      faults = let P : ℕ → Type 0 = λ n. Rises n new.faults in subst P h.on.none_failed.faults m.faults;
      broken = m.broken ∙ (ap (λ e. first_at e now.given) h.on.none_failed.broken ∙ ap (first_at old.broken) (sym m.given));
      ended = m.ended ∙ h.on.ended;
      within = omega (arith, m.given, h.given, few);
    },
  );
}

-- all but the last byte of a piece
pub without_last : (old piece : List ℕ) → 0 < length piece → old ++ piece ≡ (old ++ take (length piece - 1) piece) ++ get_or piece (length piece - 1) 0 ∷ []
without_last old piece some =
    let inside : length piece - 1 < length piece = omega (arith, some) in
    let whole : (length piece - 1) + 1 ≡ length piece = omega (arith, some) in
    ap (λ zs. old ++ zs) (sym (take-length piece) ∙ ap (λ n. take n piece) (sym whole) ∙ take_more piece (length piece - 1) 0 inside)
    ∙ sym (append_assoc old (take (length piece - 1) piece) (get_or piece (length piece - 1) 0 ∷ []))

pub take_front : (n : ℕ) (xs ys : List ℕ) → n ≤ length xs → take n (xs ++ ys) ≡ take n xs
take_front zero xs ys inside = refl
take_front (suc n) [] ys inside = absurd (omega (arith, inside))
take_front (suc n) (x ∷ xs) ys inside = ap (λ l. x ∷ l) (take_front n xs ys (omega (arith, inside)))

pub last_length : (old piece : List ℕ) → 0 < length piece → length old + length piece ≡ 16777217 → length (old ++ take (length piece - 1) piece) ≡ 16777216
last_length old piece some all =
    let n = length-take (length piece - 1) piece in
    omega (arith, length-append old (take (length piece - 1) piece), n, some, all)
