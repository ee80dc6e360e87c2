use Rattle.std.proofs.Common.{ap, sym, ◌∙◌, subst, pos, map, ℕ, ℤ}
use Rattle.jdata.specs.Answers.{Answers}
use Rattle.jdata.specs.Indexes.{index_at}
use Rattle.jdata.specs.Limits.{limited}
use Rattle.jdata.specs.Noun.{noun, product}
use Rattle.jdata.specs.declared.noun.Kind.TheVariants as sort
use Rattle.jdata.specs.declared.noun.Atom.TheVariants as atom
use Rattle.jsearch.specs.Turned.{place_turned}
use Rattle.jsearch.proofs.Made.{turned_made, turned_whole}
use Rattle.jsearch.proofs.counting.places_turned.Goals as goal

pub limited-requires : goal.limited-requires
limited-requires c =
    let axes = c.as_slice-axes.result.now in
    let at : ℕ → ℤ = λ p. pos (place_turned c.args.numbers.now (index_at axes p)) in
    turned_whole axes at c.in-Some.count c.of.result c.in-Some.ensures.0 (c.of.ensures ∙ c.in_ok-places.ensures) ∙ ap product c.as_slice-axes.ensures.value

pub returns : goal.returns
returns c =
    let axes = c.as_slice-axes.result.now in
    let made = turned_made c.args.numbers.now axes c.in-Some.count c.of.result (c.as_slice-axes.ensures.value ∙ c.in_ok-shape.ensures) c.in-Some.ensures.0 (c.of.ensures ∙ c.in_ok-places.ensures) in
    let meant = made ∙ ap (λ s. noun s sort.Int (map atom.Int c.of.result)) c.as_slice-axes.ensures.value in
    subst (λ v. Answers (limited v) c.limited.result) (sym meant) c.limited.ensures
