use Rattle.std.proofs.Common.{◌≡◌, ℕ, sym, ◌∙◌, arith, subst, drop, true}
use Rattle.std.specs.List.{list_all}
use Rattle.jwords.specs.Alphabet.{is_blank}
use Rattle.jwords.proofs.Blanks.{trailing_before, trailing_zero}
use Rattle.jwords.proofs.trim.without_trailing.Goals as goal

pub returns-then-not-is_blank : goal.returns-then-not-is_blank
returns-then-not-is_blank c = sym (trailing_before c.loop-end.end c.args.text.now c.loop-end-test.true c.loop-end.invariant.within (sym c.is_blank.ensures ∙ c.if-not-is_blank.true) c.loop-end.invariant.blanks)

pub returns : goal.returns
returns c =
    let P : ℕ → Type 0 = λ n. list_all is_blank (drop n c.args.text.now) ≡ true in
    let at_start : c.loop-end.end ≡ 0 = omega (arith, c.loop-end-test.false) in
    sym (trailing_zero c.args.text.now (subst P at_start c.loop-end.invariant.blanks))
