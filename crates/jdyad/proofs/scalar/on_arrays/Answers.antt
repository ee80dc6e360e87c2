use Rattle.std.proofs.Common.{sym, ◌∙◌, inl, inr}
use Rattle.jdata.specs.Noun.{shape}
use Rattle.jshape.proofs.Agreeing.{tested}
use Rattle.jdyad.proofs.Wholes.{refused, apart_shapes, longer_some}
use Rattle.jdyad.proofs.scalar.on_arrays.Goals as goal

pub returns-then-not-takes-clause-answer : goal.returns-then-not-takes-clause-answer
returns-then-not-takes-clause-answer c = refused _ _ _ (sym c.takes.ensures ∙ c.if-not-takes.true)

pub returns-else-is_prefix-2-clause-answer : goal.returns-else-is_prefix-2-clause-answer
returns-else-is_prefix-2-clause-answer c =
    apart_shapes _ _ _ (sym c.takes.ensures ∙ c.if-not-takes.false)
    (tested _ _ _ _ _ _ c.shape.ensures.value c.shape-else-not-takes.ensures.value c.is_prefix.ensures.test c.if-is_prefix.false)
    (tested _ _ _ _ _ _ c.shape-else-is_prefix.ensures.value c.shape-else-is_prefix-2.ensures.value c.is_prefix-else-is_prefix.ensures.test c.if-is_prefix-2.false)

pub returns-then-is_prefix-clause-memory : goal.returns-then-is_prefix-clause-memory
returns-then-is_prefix-clause-memory c = λ k m b d some.
    c.over_right-answer.ensures.memory k m d (longer_some (shape c.args.x.noun) (shape c.args.y.noun) (tested _ _ _ _ _ _ c.shape.ensures.value c.shape-else-not-takes.ensures.value c.is_prefix.ensures.test c.if-is_prefix.true) some)

pub returns-then-is_prefix-2-clause-memory : goal.returns-then-is_prefix-2-clause-memory
returns-then-is_prefix-2-clause-memory c = λ k m b d some.
    c.over_left-answer.ensures.memory k m b (longer_some (shape c.args.y.noun) (shape c.args.x.noun) (tested _ _ _ _ _ _ c.shape-else-is_prefix.ensures.value c.shape-else-is_prefix-2.ensures.value c.is_prefix-else-is_prefix.ensures.test c.if-is_prefix-2.true) (elim some [ inl f ↦ inr f | inr g ↦ inl g ]))
