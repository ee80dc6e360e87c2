-- One result more, and how it is kept.
use Rattle.std.proofs.Common.{◌≡◌, ℕ, ◌+◌, ◌*◌, ◌≤◌, List, [], ◌∷◌, ◌++◌, length, map, sym, subst, ap, ◌∙◌, arith}
use Rattle.std.proofs.lemmas.List.{append-nil, length-append, map-append}
use Rattle.jdata.specs.Limits.{most_levels, IsShape, IsArray}
use Rattle.jdata.specs.Noun.{shape, kind, atoms, noun, product, greatest, level, atom_level}
use Rattle.jdata.specs.Trees.{noun_of, kind_of, atoms_of}
use Rattle.jdata.specs.declared.noun.Noun.{Noun, roll-out-Noun}
use Rattle.jdata.proofs.Levels.{level_is}
use Rattle.jframe.specs.Alike.{alike}
use Rattle.jframe.specs.Kept.{results_of, AreKept}
use Rattle.jframe.specs.declared.results.Results.TheInside.{Inside}
use Rattle.jframe.proofs.Alike.{alike_first, alike_none, alike_more, length-alike, greatest-append}

pub first_kept : (a : Inside) (v : Noun) → a.count ≡ 1 → noun_of a.axes a.atoms ≡ v → IsArray v → AreKept a
first_kept a v one seen array =
    let own : IsArray (noun_of a.axes a.atoms) = subst IsArray (sym seen) array in
    record {
      within = own.within;
      whole = let long : length (atoms_of a.atoms) ≡ product a.axes = own.whole in long ∙ omega arith ∙ ap (λ n. n * product a.axes) (sym one);
      levels = omega (arith, level_is (noun_of a.axes a.atoms), own.level_at_most);
    }

pub first_seen : (a b : Inside) (old : List Noun) (v : Noun) → results_of b ≡ old → b.count ≡ 0 → b.others ≡ [] → a.count ≡ 1 → a.others ≡ b.others →
    noun_of a.axes a.atoms ≡ v → IsArray v → results_of a ≡ old ++ v ∷ []
first_seen a b old v was none nothing one same seen array =
    let own : IsArray (noun_of a.axes a.atoms) = subst IsArray (sym seen) array in
    let now : alike a.axes (kind_of a.atoms) (atoms_of a.atoms) a.count ≡ v ∷ [] =
    ap (alike a.axes (kind_of a.atoms) (atoms_of a.atoms)) one ∙ alike_first a.axes (kind_of a.atoms) (atoms_of a.atoms) own.whole ∙ ap (λ x. x ∷ []) seen in
    let before : alike b.axes (kind_of b.atoms) (atoms_of b.atoms) b.count ≡ [] =
    ap (alike b.axes (kind_of b.atoms) (atoms_of b.atoms)) none ∙ alike_none b.axes (kind_of b.atoms) (atoms_of b.atoms) in
    let empty : old ≡ [] = sym was ∙ (λ i. before i ++ nothing i) in
    (λ i. now i ++ (same ∙ nothing) i) ∙ ap (λ l. l ++ v ∷ []) (sym empty)

pub more_kept : (a b : Inside) (v : Noun) → AreKept b → a.axes ≡ b.axes → a.count ≡ b.count + 1 → b.axes ≡ shape v →
    atoms_of a.atoms ≡ atoms_of b.atoms ++ atoms v → IsArray v → AreKept a
more_kept a b v was same more shaped grown array = record {
  within = subst IsShape (sym same) was.within;
  whole =
      let long = ap length grown ∙ length-append (atoms_of b.atoms) (atoms v) in
      let last : length (atoms v) ≡ product b.axes = array.whole ∙ ap product (sym shaped) in
      let count : b.count * product b.axes + product b.axes ≡ (b.count + 1) * product b.axes = omega arith in
      let all : length (atoms_of a.atoms) ≡ (b.count + 1) * product b.axes = omega (arith, long, last, count, was.whole) in
      all ∙ (λ i. sym more i * product (sym same i));
  levels =
      let parts = ap (λ l. greatest (map atom_level l)) grown ∙ ap greatest (map-append atom_level (atoms_of b.atoms) (atoms v)) ∙ greatest-append (map atom_level (atoms_of b.atoms)) (map atom_level (atoms v)) in
      omega (arith, parts, was.levels, level_is v, array.level_at_most);
}

pub more_seen : (a b : Inside) (old : List Noun) (v : Noun) → results_of b ≡ old → AreKept b → b.others ≡ [] → a.others ≡ b.others →
    kind_of a.atoms ≡ kind_of b.atoms → kind_of b.atoms ≡ kind v → a.axes ≡ b.axes → b.axes ≡ shape v → a.count ≡ b.count + 1 →
    atoms_of a.atoms ≡ atoms_of b.atoms ++ atoms v → IsArray v → results_of a ≡ old ++ v ∷ []
more_seen a b old v was kept nothing same kinds of axes shaped more grown array =
    let last : length (atoms v) ≡ product b.axes = array.whole ∙ ap product (sym shaped) in
    let before = alike b.axes (kind_of b.atoms) (atoms_of b.atoms) b.count in
    let own : noun b.axes (kind_of b.atoms) (atoms v) ≡ v = (λ i. noun (shaped i) (of i) (atoms v)) ∙ roll-out-Noun v in
    let kept_before : before ≡ old = sym (append-nil before) ∙ ap (λ l. before ++ l) (sym nothing) ∙ was in
    (λ i. alike (axes i) (kinds i) (grown i) (more i) ++ (same ∙ nothing) i)
    ∙ append-nil (alike b.axes (kind_of b.atoms) (atoms_of b.atoms ++ atoms v) (b.count + 1))
    ∙ alike_more b.axes (kind_of b.atoms) (atoms_of b.atoms) (atoms v) b.count kept.whole last
    ∙ (λ i. kept_before i ++ own i ∷ [])

pub count_within : (b : Inside) (old : List Noun) → results_of b ≡ old → b.count ≤ length old
count_within b old was =
    let parts = ap length was in
    omega (arith, parts, length-append (alike b.axes (kind_of b.atoms) (atoms_of b.atoms) b.count) b.others, length-alike b.axes (kind_of b.atoms) (atoms_of b.atoms) b.count)
