-- The places of frets, one after another, and frets that the items of an array are.
use Rattle.std.specs.Prelude.{ℕ, ◌+◌, ◌<◌, ◌≡◌, ◌==◌, ◌&&◌, ℤ, Ok, Err, Bool, true, false, cond, List, [], ◌∷◌, ◌++◌, length, map, filter, get_or}
use Rattle.std.specs.List.{All, range_with_len, list_all}
use Rattle.std.proofs.Common.{arith, sym, ◌∙◌, ap, refl}
use Rattle.std.proofs.lemmas.List.{append-nil}
use Rattle.std.proofs.lemmas.List.Elements.{filter-append}
use Rattle.std.proofs.lemmas.List.FromFn.{get_or-map-range_with_len}
use Rattle.jdata.proofs.Lists.{same_map}
use Rattle.jdata.specs.Noun.{atoms}
use Rattle.jdata.specs.declared.fault.Fault.TheVariants as fault
use Rattle.jdata.specs.declared.noun.Atom.TheVariants as atom
use Rattle.jdata.specs.declared.noun.Noun.{Noun}
use Rattle.jarray.specs.Numbers.{is_integers}
use Rattle.jselect.specs.Arguments.{integers_in}
use Rattle.jselect.proofs.Choices.{chosen, otherwise, both}
use Rattle.jselect.proofs.Copied.{integers_are}
use Rattle.jselect.specs.Items.{item_count}
use Rattle.jsearch.proofs.Looking.{map-map}
use Rattle.jcut.specs.Frets.{fret_places, own_frets, own_fret, marker, given_frets, is_flag, is_one}
use Rattle.jcut.specs.declared.cutting.Cutting.{Cutting}
use Rattle.jcut.specs.declared.cutting.Cutting.TheVariants as cutting
use Rattle.jcut.proofs.Alike.{place, places_tell}
use Rattle.jcut.proofs.Bounds.{range_more, filter_below}

-- the places of the frets among the first k
abbrev pub frets_among : List Bool → ℕ → List ℕ
frets_among frets k = filter (λ i. get_or frets i false) (range_with_len 0 k)

frets_more : (frets : List Bool) (k : ℕ) → frets_among frets (k + 1) ≡ frets_among frets k ++ cond (get_or frets k false) (k ∷ []) []
frets_more frets k =
    ap (filter (λ i. get_or frets i false)) (range_more k) ∙ filter-append (λ i. get_or frets i false) (range_with_len 0 k) (k ∷ [])

pub fret_more : (frets : List Bool) (k : ℕ) (places longer : List ℕ) → get_or frets k false ≡ true → places ≡ frets_among frets k →
    longer ≡ places ++ k ∷ [] → longer ≡ frets_among frets (k + 1)
fret_more frets k places longer here was e =
    e ∙ ap (λ l. l ++ k ∷ []) was ∙ sym (frets_more frets k ∙ ap (λ b. frets_among frets k ++ cond b (k ∷ []) []) here)

pub fret_same : (frets : List Bool) (k : ℕ) (places : List ℕ) → get_or frets k false ≡ false → places ≡ frets_among frets k → places ≡ frets_among frets (k + 1)
fret_same frets k places here was =
    was ∙ sym (frets_more frets k ∙ ap (λ b. frets_among frets k ++ cond b (k ∷ []) []) here ∙ append-nil (frets_among frets k))

pub frets_all : (frets : List Bool) (k : ℕ) → k ≡ length frets → frets_among frets k ≡ fret_places frets
unfolding fret_places
frets_all frets k e = ap (frets_among frets) e

pub frets_below : (frets : List Bool) → All (λ p. p < length frets) (fret_places frets)
unfolding fret_places
frets_below frets = filter_below (λ i. get_or frets i false) (length frets)

pub marker_below : (k : Cutting) (n : ℕ) → 0 < n → marker k n < n
marker_below cutting.Begin n some = some
marker_below cutting.BeginAfter n some = some
marker_below cutting.End n some = omega arith
marker_below cutting.EndBefore n some = omega arith

-- frets by first places
pub own_frets_are : (k : Cutting) (y : Noun) (numbers : List ℕ) (m : ℕ) (frets : List Bool) → numbers ≡ map (place y) (range_with_len 0 (item_count y)) →
    m ≡ marker k (item_count y) → frets ≡ map (λ n. get_or numbers m 0 == n) numbers → frets ≡ own_frets k y
own_frets_are k y numbers m frets are at e =
    let n = item_count y in
    let first : ℕ = get_or numbers m 0 in
    e ∙ ap (map (λ i. first == i)) are ∙ map-map (λ i. first == i) (place y) (range_with_len 0 n)
    ∙ same_map (λ i. first == place y i) (own_fret k y) n false
    (λ i below.
    let some : 0 < n = omega arith in
    let within = marker_below k n some in
    let here : first ≡ place y (marker k n) =
    ap (λ l. get_or l m 0) are ∙ ap (λ j. get_or (map (place y) (range_with_len 0 n)) j 0) at
    ∙ get_or-map-range_with_len (place y) 0 n (marker k n) (marker k n) 0 within (omega arith) in
    ap (λ f. f == place y i) here ∙ places_tell y (marker k n) i within below)

not_first : (a b : Bool) → a ≡ false → a && b ≡ false
not_first true b e = cc
not_first false b e = refl

not_both : (a b : Bool) → b ≡ false → a && b ≡ false
not_both true b e = e
not_both false b e = refl

-- frets by the integers of an argument
pub given_by : (x : Noun) (l : List ℤ) → is_integers x ≡ true → map atom.Int l ≡ atoms x → list_all is_flag l ≡ true → given_frets x ≡ Ok (map is_one l)
unfolding given_frets
given_by x l whole e flags =
    let same = integers_are x l e in
    chosen (is_integers x && list_all is_flag (integers_in x)) (Ok (map is_one (integers_in x))) (Err fault.Domain)
    (both (is_integers x) (list_all is_flag (integers_in x)) whole (ap (list_all is_flag) same ∙ flags))
    ∙ ap (λ n. Ok (map is_one n)) same

pub no_integers : (x : Noun) → is_integers x ≡ false → given_frets x ≡ Err fault.Domain
unfolding given_frets
no_integers x e =
    otherwise (is_integers x && list_all is_flag (integers_in x)) (Ok (map is_one (integers_in x))) (Err fault.Domain)
    (not_first (is_integers x) (list_all is_flag (integers_in x)) e)

pub no_flags : (x : Noun) (l : List ℤ) → map atom.Int l ≡ atoms x → list_all is_flag l ≡ false → given_frets x ≡ Err fault.Domain
unfolding given_frets
no_flags x l e flags =
    otherwise (is_integers x && list_all is_flag (integers_in x)) (Ok (map is_one (integers_in x))) (Err fault.Domain)
    (not_both (is_integers x) (list_all is_flag (integers_in x)) (ap (list_all is_flag) (integers_are x l e) ∙ flags))
