use Rattle.std.proofs.Common.{◌≡◌, ◌∷◌, ap, sym, subst, ◌∙◌, arith, rules}
use Rattle.jdata.specs.Answers.{Answers}
use Rattle.jdata.specs.Limits.{limited}
use Rattle.jdata.specs.Trees.{kind_of, atoms_of}
use Rattle.jframe.specs.Assembly.{greatest_rank}
use Rattle.jframe.specs.Joining.{joined_rank, item_joined, count_joined}
use Rattle.jframe.proofs.Blocks.{blocks_fill, whole_of_blocks}
use Rattle.jframe.proofs.items.join_kind.Goals as goal

pub limited-requires : goal.limited-requires
limited-requires c =
    let vs = c.args.arrays.items in
    let item = c.as_slice-6.result.now in
    let most = ap greatest_rank c.as_slice.ensures.value in
    let rank : c.max-rank.result ≡ joined_rank vs = omega (arith, most) in
    let same : item ≡ item_joined vs = c.as_slice-6.ensures.value ∙ c.in-Ok.ensures ∙ ap item_joined c.as_slice-2.ensures.value in
    let many : c.count_items-count.result ≡ count_joined (joined_rank vs) vs = c.count_items-count.ensures ∙ (λ i. count_joined (rank i) (c.as_slice-3.ensures.value i)) in
    let e : c.in-Ok-axes_of.axes.items ≡ c.count_items-count.result ∷ item =
    c.in-Ok-axes_of.ensures ∙ ap (λ l. c.count_items-count.result ∷ l) (c.as_slice-4.ensures.value ∙ sym c.as_slice-6.ensures.value) in
    blocks_fill vs c.args.kind item c.in-Ok-axes_of.axes.items c.count_items-count.result (atoms_of c.in-Ok-joined_atoms.atoms) same many e c.in-Ok-joined_atoms.ensures.atoms

pub returns-in-Ok-joined_atoms : goal.returns-in-Ok-joined_atoms
returns-in-Ok-joined_atoms c =
    let vs = c.args.arrays.items in
    let item = c.as_slice-6.result.now in
    let most = ap greatest_rank c.as_slice.ensures.value in
    let rank : c.max-rank.result ≡ joined_rank vs = omega (arith, most) in
    let same : item ≡ item_joined vs = c.as_slice-6.ensures.value ∙ c.in-Ok.ensures ∙ ap item_joined c.as_slice-2.ensures.value in
    let many : c.count_items-count.result ≡ count_joined (joined_rank vs) vs = c.count_items-count.ensures ∙ (λ i. count_joined (rank i) (c.as_slice-3.ensures.value i)) in
    let e : c.in-Ok-axes_of.axes.items ≡ c.count_items-count.result ∷ item =
    c.in-Ok-axes_of.ensures ∙ ap (λ l. c.count_items-count.result ∷ l) (c.as_slice-4.ensures.value ∙ sym c.as_slice-6.ensures.value) in
    let whole = whole_of_blocks vs c.args.kind (kind_of c.in-Ok-joined_atoms.atoms) item c.in-Ok-axes_of.axes.items c.count_items-count.result (atoms_of c.in-Ok-joined_atoms.atoms)
    c.requires.kind c.in-Ok-joined_atoms.ensures.kind same many e c.in-Ok-joined_atoms.ensures.atoms in
    subst (λ d. Answers d c.limited.result) (ap limited whole) c.limited.ensures
