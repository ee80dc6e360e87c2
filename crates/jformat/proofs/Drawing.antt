-- Boxes, piece by piece.
use Rattle.std.proofs.Common.{◌≡◌, ℕ, ◌+◌, ◌-◌, ◌*◌, ◌<◌, ◌≤◌, List, [], ◌∷◌, ◌++◌, length, map, get_or, replicate, append_assoc, sym, ap, ◌∙◌, arith}
use Rattle.std.specs.Prelude.{max}
use Rattle.std.specs.List.{range_with_len, flat_map}
use Rattle.std.proofs.lemmas.List.{length-append, length-replicate, get_or_default}
use Rattle.std.proofs.lemmas.Nat.{row_fits}
use Rattle.std.proofs.lemmas.List.FromFn.{map-range_with_len_more}
use Rattle.jdata.specs.Noun.{greatest}
use Rattle.jformat.specs.Boxes.{bar, widest, padded, box_width}
use Rattle.jformat.proofs.Ranges.{greatest_push, flat_range_more}

-- a content in its column, and the bar behind it
abbrev pub content : List ℕ → List (List (List ℕ)) → ℕ → ℕ → List ℕ
content widths blocks k j = padded (get_or widths j 0) (get_or (get_or blocks j []) k []) ++ bar ∷ []

-- one row more in the width of a column
pub box_width_more : (blocks : List (List (List ℕ))) (rows columns j : ℕ) → box_width blocks (rows + 1) columns j ≡ max (box_width blocks rows columns j) (widest (get_or blocks (rows * columns + j) []))
box_width_more blocks rows columns j =
    let wide = λ (r : ℕ). widest (get_or blocks (r * columns + j) []) in
    ap greatest (map-range_with_len_more wide 0 rows rows (omega arith)) ∙ greatest_push (map wide (range_with_len 0 rows)) (wide rows)

pub box_wider : (blocks : List (List (List ℕ))) (block now : List (List ℕ)) (rows columns j r wide old new : ℕ) → rows * columns ≤ length blocks → j < columns → r < rows → block ≡ get_or blocks (r * columns + j) block → now ≡ block → wide ≡ widest now → new ≡ max old wide → old ≡ box_width blocks r columns j → new ≡ box_width blocks (r + 1) columns j
box_wider blocks block now rows columns j r wide old new room within h is same width most was =
    let fits : r * columns + columns ≤ rows * columns = row_fits r columns rows columns h (omega arith) in
    let inside : r * columns + j < length blocks = omega (arith, fits, room, within) in
    let here : wide ≡ widest (get_or blocks (r * columns + j) []) = width ∙ ap widest (same ∙ is ∙ get_or_default blocks (r * columns + j) block [] inside) in
    let step = box_width_more blocks r columns j in
    omega (arith, here, most, was, step)

-- one item more of a list that is made by index
pub mapped_more : {X : Type 0} (f : ℕ → X) (n : ℕ) (made more : List X) (x : X) → made ≡ map f (range_with_len 0 n) → more ≡ made ++ x ∷ [] → x ≡ f n → more ≡ map f (range_with_len 0 (n + 1))
mapped_more f n made more x e g h = g ∙ ap (λ l. l ++ x ∷ []) e ∙ ap (λ y. map f (range_with_len 0 n) ++ y ∷ []) h ∙ sym (map-range_with_len_more f 0 n n (omega arith))

-- the same behind others
pub rows_more : {X : Type 0} (f : ℕ → X) (n : ℕ) (start made more : List X) (x : X) → made ≡ start ++ map f (range_with_len 0 n) → more ≡ made ++ x ∷ [] → x ≡ f n → more ≡ start ++ map f (range_with_len 0 (n + 1))
rows_more f n start made more x e g h =
    g ∙ ap (λ l. l ++ x ∷ []) e ∙ append_assoc start (map f (range_with_len 0 n)) (x ∷ [])
    ∙ ap (λ y. start ++ (map f (range_with_len 0 n) ++ y ∷ [])) h
    ∙ ap (λ l. start ++ l) (sym (map-range_with_len_more f 0 n n (omega arith)))

-- one content more in a row
pub content_more : (widths : List ℕ) (blocks : List (List (List ℕ))) (k j w : ℕ) (block : List (List ℕ)) (row a b d : List ℕ) → j < length blocks → w ≡ get_or widths j 0 → block ≡ get_or blocks j block → row ≡ get_or block k [] → a ≡ bar ∷ flat_map (content widths blocks k) (range_with_len 0 j) → b ≡ a ++ padded w row → d ≡ b ++ bar ∷ [] → d ≡ bar ∷ flat_map (content widths blocks k) (range_with_len 0 (j + 1))
content_more widths blocks k j w block row a b d h wide is text e f g =
    let made = flat_map (content widths blocks k) (range_with_len 0 j) in
    let this : row ≡ get_or (get_or blocks j []) k [] = text ∙ ap (λ l. get_or l k []) (is ∙ get_or_default blocks j block [] h) in
    g ∙ ap (λ l. l ++ bar ∷ []) (f ∙ ap (λ l. l ++ padded w row) e)
    ∙ append_assoc (bar ∷ made) (padded w row) (bar ∷ [])
    ∙ ap (λ n. (bar ∷ made) ++ (padded n row ++ bar ∷ [])) wide
    ∙ ap (λ l. (bar ∷ made) ++ (padded (get_or widths j 0) l ++ bar ∷ [])) this
    ∙ ap (λ l. bar ∷ l) (sym (flat_range_more (content widths blocks k) j))

-- rows that are filled up to a width
filled : (w : ℕ) (rows : List (List ℕ)) → widest rows ≤ w → length (flat_map (padded w) rows) ≡ length rows * w
filled w [] h = omega arith
filled w (row ∷ rows) h =
    let rest = filled w rows (omega (arith, h)) in
    let this = length-append row (replicate (w - length row) 32) in
    let blanks = length-replicate {A = ℕ} (w - length row) 32 in
    let all = length-append (padded w row) (flat_map (padded w) rows) in
    omega (arith, h, rest, this, blanks, all)

pub matrix_size : (rows : List (List ℕ)) → length (flat_map (padded (widest rows)) rows) ≡ length rows * widest rows
matrix_size rows = filled (widest rows) rows (omega arith)
