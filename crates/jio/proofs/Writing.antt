-- A piece written part by part.
use Rattle.std.proofs.Common.{◌≡◌, ℕ, List, [], ◌++◌, ◌-◌, ◌∙◌, sym, ap, subst, length, take, drop, Option, Some, None, append_assoc, append-nil}
use Rattle.std.proofs.lemmas.List.{take-append-drop, length-drop}
use Rattle.std.proofs.Math.Seq.{take-append_seam, take-length}
use Rattle.std.specs.Io.{StartsWith}
use Rattle.std.specs.Io.KnownBytes.{Appends, Keeps}
use Rattle.jio.specs.Sink.{TookPart}

pub appends_nothing : (a : Option (List ℕ)) → Appends a a []
appends_nothing None = tt
appends_nothing (Some x) = sym (append-nil x)

pub appends_on : (a b c : Option (List ℕ)) (xs ys : List ℕ) → Appends a b xs → Appends b c ys → Appends a c (xs ++ ys)
appends_on None b c xs ys p q = tt
appends_on (Some x) None c xs ys p q = absurd p
appends_on (Some x) (Some y) None xs ys p q = absurd q
appends_on (Some x) (Some y) (Some z) xs ys p q = q ∙ ap (λ l. l ++ ys) p ∙ append_assoc x xs ys

pub appends_kept : (a b c : Option (List ℕ)) (xs : List ℕ) → Appends a b xs → Keeps b c → Appends a c xs
appends_kept None b c xs p q = tt
appends_kept (Some x) None c xs p q = absurd p
appends_kept (Some x) (Some y) None xs p q = absurd q
appends_kept (Some x) (Some y) (Some z) xs p q = q ∙ p

starts : (part rest : List ℕ) → StartsWith (part ++ rest) part
starts part rest = take-append_seam part rest

-- so far these bytes were taken, and the rest of the piece is left
pub record SoFar (took now : Option (List ℕ)) (piece rest : List ℕ) : Type 0 where
  pub part : List ℕ
  pub appends : Appends took now part
  pub whole : piece ≡ part ++ rest

pub nothing_yet : (took : Option (List ℕ)) (piece : List ℕ) → SoFar took took piece piece
nothing_yet took piece = record { part = []; appends = appends_nothing took; whole = λ i. piece }

pub one_more : (took now next : Option (List ℕ)) (piece rest rest' : List ℕ) (n : ℕ) → SoFar took now piece rest → Appends now next (take n rest) → rest' ≡ drop n rest → SoFar took next piece rest'
one_more took now next piece rest rest' n h a e =
    record {
      part = h.part ++ take n rest;
      appends = appends_on took now next h.part (take n rest) h.appends a;
      whole = h.whole ∙ ap (λ l. h.part ++ l) (sym (take-append-drop n rest) ∙ ap (λ l. take n rest ++ l) (sym e)) ∙ sym (append_assoc h.part (take n rest) rest');
    }

pub part_taken : (took now next : Option (List ℕ)) (piece rest : List ℕ) → SoFar took now piece rest → Keeps now next → TookPart took next piece
part_taken took now next piece rest h k = (h.part, subst (λ l. StartsWith l h.part) (sym h.whole) (starts h.part rest), appends_kept took now next h.part h.appends k)

pub all_taken : (took now next : Option (List ℕ)) (piece rest : List ℕ) → SoFar took now piece rest → rest ≡ [] → Keeps now next → Appends took next piece
all_taken took now next piece rest h none k = subst (Appends took next) (sym (h.whole ∙ ap (λ l. h.part ++ l) none ∙ append-nil h.part)) (appends_kept took now next h.part h.appends k)

pub whole_rest : (n : ℕ) (rest : List ℕ) → take (length rest - n) (drop n rest) ≡ drop n rest
whole_rest n rest = ap (λ k. take k (drop n rest)) (sym (length-drop n rest)) ∙ take-length (drop n rest)
