-- Texts in rows and columns.
use Rattle.std.proofs.Common.{◌≡◌, ℕ, zero, suc, ℤ, pos, ◌+◌, ◌*◌, ◌<◌, ◌≤◌, List, [], ◌∷◌, ◌++◌, length, get_or, take, drop, map, sym, ap, ◌∙◌, refl, cond, append-nil, append_assoc, arith}
use Rattle.std.specs.Prelude.{max}
use Rattle.std.specs.List.{range_with_len, flat_map, join_with_byte}
use Rattle.std.proofs.lemmas.Bool.{ne_eqb}
use Rattle.std.proofs.lemmas.List.{get_or-take, get_or-drop, take-map, drop-map, get_or-map, length-map, length-drop, length-take-le}
use Rattle.std.proofs.lemmas.List.FromFn.{map-range_with_len_more, get_or-map-range_with_len, fill_by_all}
use Rattle.std.proofs.lemmas.List.Concat.{flat_map_single}
use Rattle.jdata.specs.Noun.{greatest}
use Rattle.jnumber.specs.Spelling.{written}
use Rattle.jformat.specs.Rows.{blank, text_at, width_of, field, integer_row, character_row}
use Rattle.jformat.specs.Pieces.{gap_before, fields}
use Rattle.jformat.proofs.Ranges.{greatest_push, flat_range_more, flat_map_agrees}

-- the texts of one row, taken out of all
pub text_in_row : {X : Type 0} (spell : X → List ℕ) (xs : List X) (c r j : ℕ) → j < c → get_or (map spell (take c (drop (r * c) xs))) j [] ≡ text_at (map spell xs) c r j
text_in_row spell xs c r j h =
    ap (λ l. get_or l j []) (sym (take-map spell c (drop (r * c) xs)) ∙ ap (take c) (sym (drop-map spell (r * c) xs)))
    ∙ get_or-take c (drop (r * c) (map spell xs)) j [] h
    ∙ get_or-drop (r * c) (map spell xs) j []

-- one row more in the width of a column
pub width_more : (texts : List (List ℕ)) (c r j : ℕ) → width_of texts (r + 1) c j ≡ max (width_of texts r c j) (length (text_at texts c r j))
width_more texts c r j =
    let wide = λ (k : ℕ). length (text_at texts c k j) in
    ap greatest (map-range_with_len_more wide 0 r r (omega arith)) ∙ greatest_push (map wide (range_with_len 0 r)) (wide r)

-- the width of a column after one row more
pub widened : (numbers : List ℤ) (c r j : ℕ) (old held new : List ℕ) (row : List ℤ) → j < c → held ≡ old → row ≡ take c (drop (r * c) numbers) → get_or new j 0 ≡ max (get_or held j 0) (length (get_or (map written row) j [])) → get_or old j 0 ≡ width_of (map written numbers) r c j → get_or new j 0 ≡ width_of (map written numbers) (r + 1) c j
widened numbers c r j old held new row h same taken is was =
    let texts = map written numbers in
    let here : length (get_or (map written row) j []) ≡ length (text_at texts c r j) = ap (λ l. length (get_or (map written l) j [])) taken ∙ ap length (text_in_row written numbers c r j h) in
    let before : get_or held j 0 ≡ width_of texts r c j = ap (λ l. get_or l j 0) same ∙ was in
    let step : width_of texts (r + 1) c j ≡ max (width_of texts r c j) (length (text_at texts c r j)) = width_more texts c r j in
    omega (arith, is, before, here, step)

-- one field more in a row
abbrev piece : List ℕ → List ℤ → ℕ → List ℕ
piece widths numbers k = gap_before k ++ field (get_or widths k 0) (get_or (map written numbers) k [])

pub field_more : (widths : List ℕ) (numbers : List ℤ) (j w : ℕ) (n : ℤ) (start a b d : List ℕ) → j < length numbers → w ≡ get_or widths j 0 → n ≡ get_or numbers j (pos 0) → a ≡ start ++ flat_map (piece widths numbers) (range_with_len 0 j) → b ≡ a ++ gap_before j → d ≡ b ++ field w (written n) → d ≡ start ++ flat_map (piece widths numbers) (range_with_len 0 (j + 1))
field_more widths numbers j w n start a b d h is_w is_n e f g =
    let made = flat_map (piece widths numbers) (range_with_len 0 j) in
    let text : written n ≡ get_or (map written numbers) j [] = ap written is_n ∙ sym (get_or-map written numbers j (pos 0) [] h) in
    let last : field w (written n) ≡ field (get_or widths j 0) (get_or (map written numbers) j []) = ap (λ x. field x (written n)) is_w ∙ ap (field (get_or widths j 0)) text in
    g ∙ ap (λ x. x ++ field w (written n)) (f ∙ ap (λ x. x ++ gap_before j) e)
    ∙ ap (λ x. ((start ++ made) ++ gap_before j) ++ x) last
    ∙ append_assoc (start ++ made) (gap_before j) (field (get_or widths j 0) (get_or (map written numbers) j []))
    ∙ append_assoc start made (piece widths numbers j)
    ∙ ap (λ x. start ++ x) (sym (flat_range_more (piece widths numbers) j))

gap_some : (j : ℕ) → 1 ≤ j → gap_before j ≡ blank ∷ []
gap_some j h = ap (λ b. cond b [] (blank ∷ [])) (ne_eqb j 0 (λ e. omega (arith, h)))

-- joined texts behind a first one
tail_joined : (f : ℕ → List ℕ) (x : List ℕ) (a n : ℕ) → join_with_byte blank (x ∷ map f (range_with_len a n)) ≡ x ++ flat_map (λ j. blank ∷ f j) (range_with_len a n)
tail_joined f x a zero = sym (append-nil x)
tail_joined f x a (suc n) = ap (λ l. x ++ (blank ∷ l)) (tail_joined f (f a) (a + 1) n)

pub joined : (f : ℕ → List ℕ) (n : ℕ) → flat_map (λ j. gap_before j ++ f j) (range_with_len 0 n) ≡ join_with_byte blank (map f (range_with_len 0 n))
joined f zero = refl
joined f (suc n) =
    ap (λ l. f 0 ++ l) (flat_map_agrees (λ j. gap_before j ++ f j) (λ j. blank ∷ f j) 1 n (λ k p l. ap (λ g. g ++ f k) (gap_some k p)))
    ∙ sym (tail_joined f (f 0) 1 n)

pub length_of_row : {X : Type 0} (xs : List X) (c r : ℕ) → r * c + c ≤ length xs → length (take c (drop (r * c) xs)) ≡ c
length_of_row xs c r h = length-take-le c (drop (r * c) xs) (omega (arith, length-drop (r * c) xs))

-- the fields of a row are that row of integers
pub fields_are_row : (numbers : List ℤ) (rows c r : ℕ) (widths : List ℕ) (row : List ℤ) → widths ≡ map (width_of (map written numbers) rows c) (range_with_len 0 c) → row ≡ take c (drop (r * c) numbers) → r * c + c ≤ length numbers → fields widths (map written row) ≡ integer_row (map written numbers) rows c r
fields_are_row numbers rows c r widths row wide taken room =
    let texts = map written numbers in
    let all : length (map written row) ≡ c = length-map row written ∙ ap length taken ∙ length_of_row numbers c r room in
    let each : (j : ℕ) → 0 ≤ j → j < 0 + c → gap_before j ++ field (get_or widths j 0) (get_or (map written row) j []) ≡ gap_before j ++ field (width_of texts rows c j) (text_at texts c r j) =
    λ j p h. let h' : j < c = omega (arith, h) in
    let width : get_or widths j 0 ≡ width_of texts rows c j = ap (λ l. get_or l j 0) wide ∙ get_or-map-range_with_len (width_of texts rows c) 0 c j j 0 h' (omega arith) in
    let text : get_or (map written row) j [] ≡ text_at texts c r j = ap (λ l. get_or (map written l) j []) taken ∙ text_in_row written numbers c r j h' in
    ap (λ l. gap_before j ++ l) (ap (λ w. field w (get_or (map written row) j [])) width ∙ ap (field (width_of texts rows c j)) text) in
    ap (λ n. flat_map (λ j. gap_before j ++ field (get_or widths j 0) (get_or (map written row) j [])) (range_with_len 0 n)) all
    ∙ flat_map_agrees _ _ 0 c each
    ∙ joined (λ j. field (width_of texts rows c j) (text_at texts c r j)) c

abbrev pub single : ℕ → List ℕ
single b = b ∷ []

-- the characters of a row are that row of characters
pub characters_are_row : (characters : List ℕ) (c r : ℕ) (row : List ℕ) → row ≡ take c (drop (r * c) characters) → r * c + c ≤ length characters → row ≡ character_row (map single characters) c r
characters_are_row characters c r row taken room =
    let all : length row ≡ c = ap length taken ∙ length_of_row characters c r room in
    let each : (j : ℕ) → 0 ≤ j → j < 0 + c → single (get_or row j 0) ≡ text_at (map single characters) c r j =
    λ j p h. let h' : j < c = omega (arith, h) in
    sym (get_or-map single row j 0 [] (omega (arith, h', all))) ∙ ap (λ l. get_or (map single l) j []) taken ∙ text_in_row single characters c r j h' in
    fill_by_all (λ j. get_or row j 0) row c 0 all (λ k h. refl)
    ∙ sym (flat_map_single (λ j. get_or row j 0) (range_with_len 0 c))
    ∙ flat_map_agrees (λ j. single (get_or row j 0)) (text_at (map single characters) c r) 0 c each
