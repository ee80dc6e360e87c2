-- How long rows are, and how many characters they have together.
use Rattle.std.proofs.Common.{◌≡◌, ℕ, zero, suc, ℤ, ◌+◌, ◌-◌, ◌*◌, ◌<◌, ◌≤◌, ◌==◌, Bool, true, false, cond, List, [], ◌∷◌, ◌++◌, length, map, replicate, sum, sum_by, inl, inr, refl, sym, ap, ◌∙◌, arith}
use Rattle.std.specs.List.{range_with_len, flat_map, join_with_byte}
use Rattle.std.proofs.Math.Nat.{zero-mul, mul-one, suc-mul}
use Rattle.std.proofs.lemmas.List.{length-append, length-replicate, length-map}
use Rattle.std.proofs.lemmas.List.FromFn.{length-map-range_with_len}
use Rattle.std.proofs.lemmas.List.Sums.{sum_by-cons, sum-map}
use Rattle.std.proofs.lemmas.Bool.{ne_eqb, cases_eq}
use Rattle.jdata.specs.Noun.{product, greatest}
use Rattle.jdata.specs.declared.noun.Atom.TheVariants as atom
use Rattle.jnumber.specs.Spelling.{written}
use Rattle.jformat.specs.Rows.{blank, row_axes, text_at, width_of, field, integer_row}
use Rattle.jformat.specs.Format.{row_width}
use Rattle.jformat.proofs.Products.{product-append}
use Rattle.jformat.proofs.LaidOut.{widths_of}

length_join : (xs : List (List ℕ)) → length (join_with_byte blank xs) ≡ sum_by length xs + (length xs - 1)
length_join [] = refl
length_join (x ∷ []) = omega arith
length_join (x ∷ y ∷ xs) =
    let rest : length (join_with_byte blank (y ∷ xs)) ≡ sum_by length (y ∷ xs) + (length (y ∷ xs) - 1) = length_join (y ∷ xs) in
    let more : sum_by length (x ∷ y ∷ xs) ≡ length x + sum_by length (y ∷ xs) = sum_by-cons length x (y ∷ xs) in
    let whole : length (x ++ (blank ∷ join_with_byte blank (y ∷ xs))) ≡ length x + length (blank ∷ join_with_byte blank (y ∷ xs)) = length-append x (blank ∷ join_with_byte blank (y ∷ xs)) in
    omega (arith, rest, more, whole)

length_field : (w : ℕ) (text : List ℕ) → length text ≤ w → length (field w text) ≡ w
length_field w text h =
    let whole : length (field w text) ≡ length (replicate (w - length text) blank) + length text = length-append (replicate (w - length text) blank) text in
    let blanks : length (replicate (w - length text) blank) ≡ w - length text = length-replicate (w - length text) blank in
    omega (arith, whole, blanks, h)

greatest_ge : (f : ℕ → ℕ) (a n k : ℕ) → a ≤ k → k < a + n → f k ≤ greatest (map f (range_with_len a n))
greatest_ge f a zero k p h = absurd (omega (arith, p, h))
greatest_ge f a (suc n) k p h =
    elim (cases_eq a k) [
      | inl e ↦ let same : f a ≡ f k = ap f e in omega (arith, same)
      | inr ne ↦ let later : f k ≤ greatest (map f (range_with_len (a + 1) n)) = greatest_ge f (a + 1) n k (omega (arith, p, ne)) (omega (arith, h)) in omega (arith, later)
    ]

-- texts as long as f says are as long together as the sum of f
sum_agrees : (texts : ℕ → List ℕ) (f : ℕ → ℕ) (a n : ℕ) → ((k : ℕ) → k < a + n → length (texts k) ≡ f k) → sum_by length (map texts (range_with_len a n)) ≡ sum_by f (range_with_len a n)
sum_agrees texts f a zero h = refl
sum_agrees texts f a (suc n) h =
    let first : length (texts a) ≡ f a = h a (omega arith) in
    let rest : sum_by length (map texts (range_with_len (a + 1) n)) ≡ sum_by f (range_with_len (a + 1) n) = sum_agrees texts f (a + 1) n (λ k l. h k (omega (arith, l))) in
    let left : sum_by length (texts a ∷ map texts (range_with_len (a + 1) n)) ≡ length (texts a) + sum_by length (map texts (range_with_len (a + 1) n)) = sum_by-cons length (texts a) (map texts (range_with_len (a + 1) n)) in
    let right : sum_by f (a ∷ range_with_len (a + 1) n) ≡ f a + sum_by f (range_with_len (a + 1) n) = sum_by-cons f a (range_with_len (a + 1) n) in
    omega (arith, first, rest, left, right)

-- each row is as wide as the columns and the blanks between them
length_of_integer_row : (texts : List (List ℕ)) (rows columns r : ℕ) → r < rows → length (integer_row texts rows columns r) ≡ sum_by (width_of texts rows columns) (range_with_len 0 columns) + (columns - 1)
length_of_integer_row texts rows columns r h =
    let width = width_of texts rows columns in
    let put = λ (j : ℕ). field (width j) (text_at texts columns r j) in
    let wide : (j : ℕ) → j < 0 + columns → length (put j) ≡ width j =
    λ j l. length_field (width j) (text_at texts columns r j) (greatest_ge (λ k. length (text_at texts columns k j)) 0 rows r (omega arith) (omega (arith, h))) in
    let whole : length (integer_row texts rows columns r) ≡ sum_by length (map put (range_with_len 0 columns)) + (length (map put (range_with_len 0 columns)) - 1) = length_join (map put (range_with_len 0 columns)) in
    let total : sum_by length (map put (range_with_len 0 columns)) ≡ sum_by width (range_with_len 0 columns) = sum_agrees put width 0 columns wide in
    let count : length (map put (range_with_len 0 columns)) ≡ columns = length-map-range_with_len put 0 columns in
    omega (arith, whole, total, count)

-- n texts of one length
length_of_rows : (texts : ℕ → List ℕ) (w a n : ℕ) → ((k : ℕ) → k < a + n → length (texts k) ≡ w) → length (flat_map texts (range_with_len a n)) ≡ n * w
length_of_rows texts w a zero h = sym (zero-mul w)
length_of_rows texts w a (suc n) h =
    let first : length (texts a) ≡ w = h a (omega arith) in
    let rest : length (flat_map texts (range_with_len (a + 1) n)) ≡ n * w = length_of_rows texts w (a + 1) n (λ k l. h k (omega (arith, l))) in
    let whole : length (texts a ++ flat_map texts (range_with_len (a + 1) n)) ≡ length (texts a) + length (flat_map texts (range_with_len (a + 1) n)) = length-append (texts a) (flat_map texts (range_with_len (a + 1) n)) in
    let turned : suc n * w ≡ n * w + w = suc-mul n w in
    omega (arith, first, rest, whole, turned)

-- the width of rows where there are some
width_of_some : (texts : List (List ℕ)) (rows columns : ℕ) → 0 < rows → row_width texts rows columns ≡ sum_by (width_of texts rows columns) (range_with_len 0 columns) + (columns - 1)
width_of_some texts rows columns h =
    ap (λ b. cond b 0 (sum_by (width_of texts rows columns) (range_with_len 0 columns) + (columns - 1))) (ne_eqb rows 0 (λ e. omega (arith, h, e)))

-- the rows have as many characters as their number times their width
pub length_of_text : (texts : List (List ℕ)) (rows columns : ℕ) → length (flat_map (integer_row texts rows columns) (range_with_len 0 rows)) ≡ rows * row_width texts rows columns
length_of_text texts rows columns =
    length_of_rows (integer_row texts rows columns) (row_width texts rows columns) 0 rows
    (λ k l. length_of_integer_row texts rows columns k (omega (arith, l)) ∙ sym (width_of_some texts rows columns (omega (arith, l))))

-- and as many as an array of this shape has
pub text_fits : (axes : List ℕ) (texts : List (List ℕ)) (rows columns : ℕ) → rows ≡ product (row_axes axes) → length (map atom.Char (flat_map (integer_row texts rows columns) (range_with_len 0 rows))) ≡ product (row_axes axes ++ row_width texts rows columns ∷ [])
text_fits axes texts rows columns e =
    let text = flat_map (integer_row texts rows columns) (range_with_len 0 rows) in
    let w = row_width texts rows columns in
    length-map text atom.Char ∙ length_of_text texts rows columns ∙ ap (λ n. n * w) e
    ∙ ap (λ n. product (row_axes axes) * n) (sym (mul-one w)) ∙ sym (product-append (row_axes axes) (w ∷ []))

-- the widths that the code adds up
sum_of_widths : (f : ℕ → ℕ) (columns : ℕ) (b : Bool) → sum (map f (range_with_len 0 (cond b 0 columns))) + (length (map f (range_with_len 0 (cond b 0 columns))) - 1) ≡ cond b 0 (sum_by f (range_with_len 0 columns) + (columns - 1))
sum_of_widths f columns true = refl
sum_of_widths f columns false =
    let total : sum (map f (range_with_len 0 columns)) ≡ sum_by f (range_with_len 0 columns) = sum-map f (range_with_len 0 columns) in
    let count : length (map f (range_with_len 0 columns)) ≡ columns = length-map-range_with_len f 0 columns in
    omega (arith, total, count)

pub row_width_is : (numbers : List ℤ) (rows columns : ℕ) (widths : List ℕ) → widths ≡ widths_of numbers rows columns → sum widths + (length widths - 1) ≡ row_width (map written numbers) rows columns
row_width_is numbers rows columns widths e =
    ap (λ l. sum l + (length l - 1)) e ∙ sum_of_widths (width_of (map written numbers) rows columns) columns (rows == 0)

-- no more widths than atoms
few_columns : (columns rows : ℕ) → cond (rows == 0) 0 columns ≤ rows * columns
few_columns columns zero = omega (arith, zero-mul columns)
few_columns columns (suc r) =
    let all : cond (suc r == 0) 0 columns ≡ columns = ap (λ b. cond b 0 columns) (ne_eqb (suc r) 0 (λ e. omega (arith, e))) in
    let turned : suc r * columns ≡ r * columns + columns = suc-mul r columns in
    omega (arith, all, turned)

pub few_widths : (numbers : List ℤ) (rows columns : ℕ) (widths : List ℕ) → widths ≡ widths_of numbers rows columns → length widths ≤ rows * columns
few_widths numbers rows columns widths e =
    let count : length widths ≡ cond (rows == 0) 0 columns = ap length e ∙ length-map-range_with_len (width_of (map written numbers) rows columns) 0 (cond (rows == 0) 0 columns) in
    omega (arith, count, few_columns columns rows)
