-- Lemmas on runs and on lists of numbers: what stands next to each other is one word.
use Rattle.std.proofs.Common.{◌≡◌, ◌≢◌, ℕ, zero, suc, ◌+◌, ◌-◌, ◌<◌, ◌≤◌, ◌⊎◌, inl, inr, Bool, true, false, not, List, [], ◌∷◌, length, get_or, take, drop, refl, sym, ap, ◌∙◌, subst, rules, arith, add_assoc, zero-add}
use Rattle.std.specs.List.{prefix_len}
use Rattle.std.proofs.lemmas.List.{drop-drop}
use Rattle.std.proofs.lemmas.List.Sums.{prefix_len-le-length}
use Rattle.std.proofs.lemmas.Bool.{cases_Bool}
use Rattle.std.proofs.lemmas.Bool.Decides.{nat_tests}
use Rattle.jwords.specs.Alphabet.{colon, first, is_name_byte, is_alphanumeric, is_number_start, is_number_byte, is_digit, is_letter, is_blank}
use Rattle.jwords.specs.Runs.{run_length, after_run, BeginsRun, BeginsNumber, IsList, last, more}

pub prefix_bound : (p : ℕ → Bool) (bytes : List ℕ) (n : ℕ) → n ≡ prefix_len p bytes → n ≤ length bytes
prefix_bound p bytes n e = let h : prefix_len p bytes ≤ length bytes = prefix_len-le-length p bytes in omega (arith, e, h)

pub number_start_is_byte : (c : ℕ) → is_number_start c ≡ true → is_number_byte c ≡ true
unfolding is_number_start is_number_byte is_name_byte is_alphanumeric
number_start_is_byte c e = grind (arith, nat_tests)

pub prefix_some : (p : ℕ → Bool) (bytes : List ℕ) → p 0 ≡ false → p (get_or bytes 0 0) ≡ true → 0 < prefix_len p bytes
prefix_some p [] z e = absurd (cc (z, e))
prefix_some p (c ∷ cs) z e = rw e (omega arith)

pub zero_is_no_number_byte : is_number_byte 0 ≡ false
unfolding is_number_byte is_name_byte is_alphanumeric is_letter is_digit
zero_is_no_number_byte = refl

pub run_is_some : (bytes : List ℕ) → BeginsRun bytes → 0 < run_length bytes
run_is_some bytes b = prefix_some is_number_byte bytes zero_is_no_number_byte (number_start_is_byte (get_or bytes 0 0) b.starts)

-- what begins at a place of the bytes goes on with a list, and all before it is of the list
pub record Listing (begins : List ℕ → Type 0) (at : ℕ) (bytes : List ℕ) : Type 0 where
  pub here : begins (drop at bytes)
  pub onward : (n : ℕ) → IsList begins (drop at bytes) n → IsList begins bytes (at + n)

pub list_start : (begins : List ℕ → Type 0) (bytes : List ℕ) → begins bytes → Listing begins 0 bytes
list_start begins bytes b = record { here = b; onward = λ n l. subst (λ (m : ℕ). IsList begins bytes m) (sym (zero-add n)) l }

pub list_more : (begins : List ℕ → Type 0) (at next : ℕ) (bytes : List ℕ) → next ≡ at + after_run (drop at bytes) → Listing begins at bytes → begins (drop next bytes) → Listing begins next bytes
list_more begins at next bytes e s b = record {
  here = b;
  onward = λ n l.
      let d : drop (after_run (drop at bytes)) (drop at bytes) ≡ drop next bytes = drop-drop (after_run (drop at bytes)) at bytes ∙ ap (λ k. drop k bytes) (sym e) in
      let m : IsList begins bytes (at + (after_run (drop at bytes) + n)) =
      s.onward (after_run (drop at bytes) + n) (more (drop at bytes) n s.here (subst (λ (xs : List ℕ). IsList begins xs n) (sym d) l)) in
      subst (λ (k : ℕ). IsList begins bytes k) (omega (arith, e)) m;
}

pub list_last : (begins : List ℕ → Type 0) (at next : ℕ) (bytes : List ℕ) → next ≡ at + after_run (drop at bytes) → Listing begins at bytes → (begins (drop next bytes) → ⊥) → IsList begins bytes (at + run_length (drop at bytes))
list_last begins at next bytes e s never =
    let d : drop (after_run (drop at bytes)) (drop at bytes) ≡ drop next bytes = drop-drop (after_run (drop at bytes)) at bytes ∙ ap (λ k. drop k bytes) (sym e) in
    s.onward (run_length (drop at bytes)) (last (drop at bytes) s.here (λ b. never (subst begins d b)))

-- the same, of the slices that the code takes
pub list_more_at : (begins : List ℕ → Type 0) (at step : ℕ) (bytes rest others : List ℕ) → rest ≡ drop at bytes → step ≡ after_run rest → others ≡ drop (at + step) bytes → Listing begins at bytes → begins others → Listing begins (at + step) bytes
list_more_at begins at step bytes rest others r e o s b =
    list_more begins at (at + step) bytes (ap (λ n. at + n) (e ∙ ap after_run r)) s (subst begins o b)

pub list_last_at : (begins : List ℕ → Type 0) (at step size : ℕ) (bytes rest others : List ℕ) → rest ≡ drop at bytes → step ≡ after_run rest → size ≡ run_length rest → others ≡ drop (at + step) bytes → Listing begins at bytes → (begins others → ⊥) → IsList begins bytes (at + size)
list_last_at begins at step size bytes rest others r e n o s never =
    subst (λ (k : ℕ). IsList begins bytes k) (ap (λ k. at + k) (sym (n ∙ ap run_length r)))
    (list_last begins at (at + step) bytes (ap (λ k. at + k) (e ∙ ap after_run r)) s (λ b. never (subst begins (sym o) b)))

-- a run takes some bytes
pub run_at_is_some : (at size : ℕ) (bytes rest : List ℕ) → rest ≡ drop at bytes → size ≡ run_length rest → BeginsRun (drop at bytes) → 0 < size
run_at_is_some at size bytes rest r e b = let h : 0 < run_length (drop at bytes) = run_is_some (drop at bytes) b in rw (e, r) h

pub step_at_is_some : (at step : ℕ) (bytes rest : List ℕ) → rest ≡ drop at bytes → step ≡ after_run rest → BeginsRun (drop at bytes) → 0 < step
step_at_is_some at step bytes rest r e b =
    let h : 0 < run_length (drop at bytes) = run_is_some (drop at bytes) b in
    let f : step ≡ after_run (drop at bytes) = e ∙ ap after_run r in
    omega (arith, f, h)
