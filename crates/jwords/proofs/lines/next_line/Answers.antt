use Rattle.std.proofs.Common.{◌≡◌, ◌∙◌, ◌-◌, ◌+◌, ◌∷◌, ℕ, suc, List, length, take, drop, ap, sym, subst, arith, [], add-one}
use Rattle.std.proofs.lemmas.Grind.{common_steps}
use Rattle.jwords.specs.Lines.{lines_of}
use Rattle.jwords.proofs.Ends.{first_line, one_line}
use Rattle.jwords.proofs.lines.next_line.Goals as goal

rest_is : (xs : List ℕ) (n : ℕ) → take (length xs - n) (drop n xs) ≡ drop n xs
rest_is xs n = grind (arith, common_steps)

none_left : (xs : List ℕ) → take (length xs - length xs) (drop (length xs) xs) ≡ []
none_left xs = grind (arith, common_steps)

pub returns-then-byte-eq10-clause-lines : goal.returns-then-byte-eq10-clause-lines
returns-then-byte-eq10-clause-lines c =
    let s = c.args.script.now in
    first_line c.loop-i.i s c.loop-i-test.true c.if-byte-eq10.true c.loop-i.invariant
    ∙ ap (λ text. text ∷ lines_of (drop (suc c.loop-i.i) s)) (sym c.without_return.ensures)
    ∙ ap (λ n. c.without_return.result.now ∷ lines_of (drop n s)) (sym (add-one c.loop-i.i))
    ∙ ap (λ rest. c.without_return.result.now ∷ lines_of rest) (sym (rest_is s (c.loop-i.i + 1)))

pub returns-clause-lines : goal.returns-clause-lines
returns-clause-lines c =
    let s = c.args.script.now in
    one_line s c.requires (λ k h. c.loop-i.invariant k (omega (arith, h, c.loop-i-test.false)))
    ∙ ap (λ rest. s ∷ lines_of rest) (sym (none_left s))
