-- The stretches of the first axis, as a loop lays them.
use Rattle.std.proofs.Common.{◌≡◌, ℕ, ◌+◌, ◌-◌, ◌*◌, ◌<◌, ◌≤◌, ◌⊎◌, inl, inr, List, [], ◌∷◌, ◌++◌, length, get_or, take, drop, replicate, max, refl, sym, ap, ◌∙◌, arith}
use Rattle.std.specs.List.{range_with_len, flat_map}
use Rattle.std.proofs.Math.Nat.{mul-le-mul_left, mul-le-mul_right}
use Rattle.std.proofs.lemmas.List.{take_rest, append_assoc}
use Rattle.jdata.specs.Noun.{product, extent}
use Rattle.jdata.proofs.Extents.{parts_are_within, product_at_most}
use Rattle.jstruct.specs.declared.change.Stretch.{Stretch}
use Rattle.jstruct.specs.declared.change.Layout.{Layout}
use Rattle.jstruct.specs.Layouts.{Lies, AllLie, laid_length, laid_axes, laid, laid_row, stretch_laid}
use Rattle.jstruct.proofs.LaidAxes.{laid_none, laid_more, row_within, stretch_filled, stretch_range}
use Rattle.jstruct.proofs.Rows.{over_more}

-- what is behind the first
abbrev pub rest : {A : Type 0} → List A → List A
rest l = take (length l - 1) (drop 1 l)

pub some_axes : (ls : List Layout) (ns : List ℕ) → AllLie ls ns → 1 ≤ length ls → 1 ≤ length ns
some_axes [] ns h s = absurd (omega arith)
some_axes (l ∷ ls) [] h s = absurd h
some_axes (l ∷ ls) (n ∷ ns) h s = omega arith

pub some_whole : (ls : List Layout) (ns whole : List ℕ) → AllLie ls ns → 1 ≤ length ls → whole ≡ laid_axes ls ns → 1 ≤ length whole
some_whole [] ns whole h s e = absurd (omega arith)
some_whole (l ∷ ls) [] whole h s e = absurd h
some_whole (l ∷ ls) (n ∷ ns) whole h s e = let long = ap length e in omega (arith, long)

pub rest_within : (axes : List ℕ) (m : ℕ) → extent axes ≤ m → extent (rest axes) ≤ m
rest_within axes m h =
    let less = (parts_are_within 1 axes).1 in
    omega (arith, less, ap extent (take_rest axes 1), h)

-- as many rows as the first axis has at most
pub rows_fit : (axes : List ℕ) (m k p : ℕ) → 1 ≤ length axes → p ≡ product (rest axes) → extent axes ≤ m → k ≤ get_or axes 0 0 → k * p ≤ m
rows_fit [] m k p some is h few = absurd (omega arith)
rows_fit (a ∷ axes) m k p some is h few =
    let same : p ≡ product axes = is ∙ ap product (take_rest (a ∷ axes) 1) in
    let up = mul-le-mul_right p few in
    let wide : a ≤ max a 1 = omega arith in
    let more = mul-le-mul_right p wide in
    let most = mul-le-mul_left (max a 1) (product_at_most axes) in
    let whole : max a 1 * p ≡ max a 1 * product axes = ap (λ x. max a 1 * x) same in
    omega (arith, up, more, most, whole, h)

-- and these rows are there
pub rows_there : (axes : List ℕ) (k p n : ℕ) → 1 ≤ length axes → p ≡ product (rest axes) → product axes ≤ n → k ≤ get_or axes 0 0 → k * p ≤ n
rows_there [] k p n some is h few = absurd (omega arith)
rows_there (a ∷ axes) k p n some is h few =
    let same : p ≡ product axes = is ∙ ap product (take_rest (a ∷ axes) 1) in
    let up = mul-le-mul_right p few in
    let whole : a * p ≡ a * product axes = ap (λ x. a * x) same in
    omega (arith, up, whole, h)

pub first_lies : (ls : List Layout) (ns : List ℕ) (d : Layout) → AllLie ls ns → 1 ≤ length ls →
    Lies (get_or ls 0 d).first (get_or ns 0 0) × Lies (get_or ls 0 d).second (get_or ns 0 0)
first_lies [] ns d h s = absurd (omega arith)
first_lies (l ∷ ls) [] d h s = absurd h
first_lies (l ∷ ls) (n ∷ ns) d h s = h.0

pub rest_lie : (ls : List Layout) (ns : List ℕ) → AllLie ls ns → 1 ≤ length ls → AllLie (rest ls) (rest ns)
rest_lie [] ns h s = absurd (omega arith)
rest_lie (l ∷ ls) [] h s = absurd h
rest_lie (l ∷ ls) (n ∷ ns) h s = rw (take_rest (l ∷ ls) 1, take_rest (n ∷ ns) 1) h.1

pub rest_whole : (ls : List Layout) (ns whole : List ℕ) → AllLie ls ns → 1 ≤ length ls → whole ≡ laid_axes ls ns → rest whole ≡ laid_axes (rest ls) (rest ns)
rest_whole [] ns whole h s e = absurd (omega arith)
rest_whole (l ∷ ls) [] whole h s e = absurd h
rest_whole (l ∷ ls) (n ∷ ns) whole h s e =
    ap (λ w. take (length w - 1) (drop 1 w)) e
    ∙ take_rest (laid_length l ∷ laid_axes ls ns) 1
    ∙ (λ i. laid_axes (sym (take_rest (l ∷ ls) 1) i) (sym (take_rest (n ∷ ns) 1) i))

pub no_layouts : {A : Type 0} (f : A) (ls : List Layout) (ns : List ℕ) (items : List A) → length ls ≡ 0 → product ns ≤ length items →
    take (product ns) items ≡ laid f ls ns items
no_layouts f [] ns items none h = sym (laid_none f ns items h)
no_layouts f (l ∷ ls) ns items none h = absurd (omega arith)

pub both_stretches : {A : Type 0} (f : A) (ls : List Layout) (ns : List ℕ) (items before : List A) (d : Layout) → AllLie ls ns → 1 ≤ length ls →
    (before ++ stretch_laid f (get_or ls 0 d).first ls ns items) ++ stretch_laid f (get_or ls 0 d).second ls ns items ≡ before ++ laid f ls ns items
both_stretches f [] ns items before d h s = absurd (omega arith)
both_stretches f (l ∷ ls) [] items before d h s = absurd h
both_stretches f (l ∷ ls) (n ∷ ns) items before d h s =
    append_assoc before _ _ ∙ ap (λ r. before ++ r) (sym (laid_more f l ls n ns items))

pub all_fills : {A : Type 0} (f : A) (s : Stretch) (ls : List Layout) (ns whole : List ℕ) (items : List A) (p : ℕ) → AllLie ls ns → 1 ≤ length ls →
    whole ≡ laid_axes ls ns → p ≡ product (rest whole) → get_or ns 0 0 ≤ s.start → replicate (s.count * p) f ≡ stretch_laid f s ls ns items
all_fills f s [] ns whole items p h some e is far = absurd (omega arith)
all_fills f s (l ∷ ls) [] whole items p h some e is far = absurd h
all_fills f s (l ∷ ls) (n ∷ ns) whole items p h some e is far =
    let same : p ≡ product (laid_axes ls ns) = is ∙ ap product (ap (λ w. take (length w - 1) (drop 1 w)) e ∙ take_rest (laid_length l ∷ laid_axes ls ns) 1) in
    ap (λ k. replicate (s.count * k) f) same ∙ sym (stretch_filled f ls n ns items s.start s.count far)

near : (s k n : ℕ) → (s + k ≤ n) ⊎ (n ≤ s) → s < n → s + k ≤ n
near s k n h l = elim h [ inl a ↦ a | inr b ↦ absurd (omega arith) ]

pub ends_on_axis : (s : Stretch) (n : ℕ) → Lies s n → s.start < n → s.start + s.count ≤ n
ends_on_axis s n h l = near s.start s.count n h l

pub in_range : {A : Type 0} (f : A) (s : Stretch) (ls : List Layout) (ns : List ℕ) (items : List A) (p : ℕ) → AllLie ls ns → length ls ≡ 1 →
    p ≡ product (rest ns) → Lies s (get_or ns 0 0) → s.start < get_or ns 0 0 → product ns ≤ length items →
    take ((s.start + s.count) * p - s.start * p) (drop (s.start * p) items) ≡ stretch_laid f s ls ns items
in_range f s [] ns items p h one is lies there long = absurd (omega arith)
in_range f s (l ∷ (m ∷ ls)) ns items p h one is lies there long = absurd (omega arith)
in_range f s (l ∷ []) [] items p h one is lies there long = absurd h
in_range f s (l ∷ []) (n ∷ ns) items p h one is lies there long =
    let same : p ≡ product ns = is ∙ ap product (take_rest (n ∷ ns) 1) in
    let sum : (s.start + s.count) * p ≡ s.start * p + s.count * p = omega arith in
    let count : (s.start + s.count) * p - s.start * p ≡ s.count * p = omega arith in
    ap (λ k. take k (drop (s.start * p) items)) count
    ∙ ap (λ k. take (s.count * k) (drop (s.start * k) items)) same
    ∙ sym (stretch_range f n ns items s.start s.count (near s.start s.count n lies there) long)

abbrev up_to : ℕ → ℕ → Stretch
up_to s k = record { start = s; count = k }

pub no_rows : {A : Type 0} (f : A) (s : ℕ) (ls : List Layout) (ns : List ℕ) (items : List A) → stretch_laid f (record { start = s; count = s - s }) ls ns items ≡ []
no_rows f s [] ns items = refl
no_rows f s (l ∷ ls) [] items = refl
no_rows f s (l ∷ ls) (n ∷ ns) items = ap (λ k. flat_map (laid_row f ls n ns items) (range_with_len s k)) (let e : s - s ≡ 0 = omega arith in e)

pub row_more : {A : Type 0} (f : A) (s i p : ℕ) (ls : List Layout) (ns : List ℕ) (items before : List A) → AllLie ls ns → 1 ≤ length ls → s ≤ i → i < get_or ns 0 0 →
    p ≡ product (rest ns) →
    (before ++ stretch_laid f (record { start = s; count = i - s }) ls ns items) ++ laid f (rest ls) (rest ns) (take (length items - i * p) (drop (i * p) items))
    ≡ before ++ stretch_laid f (record { start = s; count = (i + 1) - s }) ls ns items
row_more f s i p [] ns items before h some low high is = absurd (omega arith)
row_more f s i p (l ∷ ls) [] items before h some low high is = absurd h
row_more f s i p (l ∷ ls) (n ∷ ns) items before h some low high is =
    let same : p ≡ product ns = is ∙ ap product (take_rest (n ∷ ns) 1) in
    let last : s + (i - s) ≡ i = omega arith in
    let next : (i - s) + 1 ≡ (i + 1) - s = omega arith in
    append_assoc before _ _
    ∙ ap (λ r. before ++ r)
    ((λ k. flat_map (laid_row f ls n ns items) (range_with_len s (i - s)) ++ laid f (take_rest (l ∷ ls) 1 k) (take_rest (n ∷ ns) 1 k) (take_rest items (i * p) k))
    ∙ ap (λ q. flat_map (laid_row f ls n ns items) (range_with_len s (i - s)) ++ laid f ls ns (drop (i * q) items)) same
    ∙ ap (λ r. flat_map (laid_row f ls n ns items) (range_with_len s (i - s)) ++ r) (sym (row_within f ls n ns items i high))
    ∙ ap (λ q. flat_map (laid_row f ls n ns items) (range_with_len s (i - s)) ++ laid_row f ls n ns items q) (sym last)
    ∙ sym (over_more (laid_row f ls n ns items) s (i - s))
    ∙ ap (λ q. flat_map (laid_row f ls n ns items) (range_with_len s q)) next)
