use Rattle.std.proofs.Common.{ap, sym, ◌∙◌, ◌+◌, pos}
use Rattle.jselect.specs.Places.{place_in}
use Rattle.jselect.proofs.NamedItems.{rest_of, rest_more, rest_fails}
use Rattle.jselect.proofs.listing.places_of.Goals as goal

pub returns-in-Err : goal.returns-in-Err
returns-in-Err c =
    let i = c.loop-number.number-index in
    sym c.loop-number.invariant
    ∙ rest_fails (place_in c.args.count) c.args.numbers.now i c.loop-number.places.items (pos 0) c.in-Err.fault c.loop-number-test.true (sym c.place_named.ensures ∙ c.in-Err.is)

pub loop-number-preserved : goal.loop-number-preserved
loop-number-preserved c =
    let i = c.loop-number.number-index in
    ap (rest_of (place_in c.args.count) c.args.numbers.now (i + 1)) c.in_ok-push-in-Ok.ensures.items
    ∙ rest_more (place_in c.args.count) c.args.numbers.now i c.loop-number.places.items (pos 0) c.in-Ok.place c.loop-number-test.true (sym c.place_named.ensures ∙ c.in-Ok.is)
    ∙ c.loop-number.invariant
