-- Pieces of a list that are filled one after another.
use Rattle.std.proofs.Common.{◌≡◌, ℕ, ◌+◌, ◌-◌, ◌*◌, ◌/◌, ◌<◌, ◌≤◌, List, length, take, drop, get_or, Result, sym, ap, ◌∙◌, arith, length-drop}
use Rattle.std.specs.Prelude.{ℤ, pos, Bool, ◌||◌}
use borrow.Rule.Slice.PartMut.{put_mid}
use Rattle.std.proofs.lemmas.List.{get_or-take, get_or-drop, length-take-le}
use Rattle.std.proofs.lemmas.Slice.{take-put_mid, drop-put_mid}
use Rattle.jdata.specs.declared.fault.Fault.{Fault}
use Rattle.jscalar.specs.Places.{by_place}
use Rattle.jscalar.specs.Flagged.{flagged}
use Rattle.jscalar.proofs.Filled.{IsFilled, filled_piece, same_by_place, in_use}

abbrev pub part : ℕ → ℕ → List ℤ → List ℤ
part i k l = take (i + k - i) (drop i l)

in_part : (i k : ℕ) (l : List ℤ) (j : ℕ) → j < k → get_or (part i k l) j (pos 0) ≡ get_or l (i + j) (pos 0)
in_part i k l j h = get_or-take (i + k - i) (drop i l) j (pos 0) (omega arith) ∙ get_or-drop i l j (pos 0)

part_size : (i k : ℕ) (l : List ℤ) → i + k ≤ length l → length (part i k l) ≡ k
part_size i k l h = let d = length-drop i l in length-take-le (i + k - i) (drop i l) (omega arith) ∙ omega arith

still : (why : Fault) (at : ℕ → Result ℤ Fault) (i j : ℕ) (any : Bool) (now old : List ℤ) → IsFilled why at i any now old → get_or now (i + j) (pos 0) ≡ get_or old (i + j) (pos 0)
still why at i j any now old was = sym (get_or-drop i now j (pos 0)) ∙ ap (λ l. get_or l j (pos 0)) was.rest ∙ get_or-drop i old j (pos 0)

piece_more : (why : Fault) (at inner : ℕ → Result ℤ Fault) (i k : ℕ) (any none : Bool) (now old new : List ℤ) → IsFilled why at i any now old → i + k ≤ length now → ((j : ℕ) → j < k → at (i + j) ≡ inner j) →
    by_place inner (length (part i k now)) ≡ flagged why new none → length new ≡ length (part i k now) → IsFilled why at (i + k) (any || none) (put_mid i (i + k - i) now new) old
piece_more why at inner i k any none now old new was room same h long =
    let size = part_size i k now room in
    filled_piece why at i k any none now old (put_mid i (i + k - i) now new) new was
    (same_by_place (λ j. at (i + j)) inner k same ∙ ap (by_place inner) (sym size) ∙ h)
    (take-put_mid i (i + k - i) now new (i + k) (omega arith) (omega arith))
    (drop-put_mid i (i + k - i) now new (i + k) (omega arith) (omega arith) (omega arith))

pub pairs_more : (why : Fault) (meant : ℤ → ℤ → Result ℤ Fault) (xs now old new : List ℤ) (i k : ℕ) (any none : Bool) → IsFilled why (λ j. meant (get_or xs j (pos 0)) (get_or old j (pos 0))) i any now old → i + k ≤ length now →
    by_place (λ j. meant (get_or (part i k xs) j (pos 0)) (get_or (part i k now) j (pos 0))) (length (part i k now)) ≡ flagged why new none → length new ≡ length (part i k now) →
    IsFilled why (λ j. meant (get_or xs j (pos 0)) (get_or old j (pos 0))) (i + k) (any || none) (put_mid i (i + k - i) now new) old
pairs_more why meant xs now old new i k any none was room h long =
    let at : ℕ → Result ℤ Fault = λ j. meant (get_or xs j (pos 0)) (get_or old j (pos 0)) in
    piece_more why at (λ j. meant (get_or (part i k xs) j (pos 0)) (get_or (part i k now) j (pos 0))) i k any none now old new was room
    (λ j below d. meant (sym (in_part i k xs j below) d) (sym (in_part i k now j below ∙ still why at i j any now old was) d)) h long

pub cells_more : (why : Fault) (meant : ℤ → ℤ → Result ℤ Fault) (xs now old new : List ℤ) (cell item i : ℕ) (x : ℤ) (any none : Bool) → IsFilled why (λ j. meant (get_or xs (j / cell) (pos 0)) (get_or old j (pos 0))) i any now old → i + cell ≤ length now →
    i ≡ item * cell → x ≡ get_or xs item (pos 0) →
    by_place (λ j. meant x (get_or (part i cell now) j (pos 0))) (length (part i cell now)) ≡ flagged why new none → length new ≡ length (part i cell now) →
    IsFilled why (λ j. meant (get_or xs (j / cell) (pos 0)) (get_or old j (pos 0))) (i + cell) (any || none) (put_mid i (i + cell - i) now new) old
cells_more why meant xs now old new cell item i x any none was room count used h long =
    let at : ℕ → Result ℤ Fault = λ j. meant (get_or xs (j / cell) (pos 0)) (get_or old j (pos 0)) in
    piece_more why at (λ j. meant x (get_or (part i cell now) j (pos 0))) i cell any none now old new was room
    (λ j below.
    let place = in_use item j cell (i + j) (omega (arith, count)) below in
    λ d. meant ((ap (λ n. get_or xs n (pos 0)) place ∙ sym used) d) (sym (in_part i cell now j below ∙ still why at i j any now old was) d)) h long

pub beside_more : (why : Fault) (meant : ℤ → ℤ → Result ℤ Fault) (x : ℤ) (now old new : List ℤ) (i k : ℕ) (any none : Bool) → IsFilled why (λ j. meant x (get_or old j (pos 0))) i any now old → i + k ≤ length now →
    by_place (λ j. meant x (get_or (part i k now) j (pos 0))) (length (part i k now)) ≡ flagged why new none → length new ≡ length (part i k now) →
    IsFilled why (λ j. meant x (get_or old j (pos 0))) (i + k) (any || none) (put_mid i (i + k - i) now new) old
beside_more why meant x now old new i k any none was room h long =
    let at : ℕ → Result ℤ Fault = λ j. meant x (get_or old j (pos 0)) in
    piece_more why at (λ j. meant x (get_or (part i k now) j (pos 0))) i k any none now old new was room
    (λ j below. ap (meant x) (sym (in_part i k now j below ∙ still why at i j any now old was))) h long
