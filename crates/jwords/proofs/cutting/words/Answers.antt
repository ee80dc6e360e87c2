use Rattle.std.proofs.Common.{rules, arith, ◌≡◌, ◌<◌, ◌≤◌, ◌+◌, ◌-◌, ℕ, length, sym, ◌∙◌, subst, Ok, Err}
use Rattle.std.proofs.lemmas.Result.{err_from_is_err_and}
use Rattle.std.proofs.lemmas.Grind.{common_steps}
use Rattle.jwords.specs.Cuts.{IsCut, blank}
use Rattle.jwords.specs.Words.{Finds}
use Rattle.jwords.proofs.FormedWords.{words_are}
use Rattle.jwords.proofs.CutSteps.{cut_start, cut_word, cut_fault}
use Rattle.jwords.proofs.cutting.words.Goals as goal

pub loop-at-init : goal.loop-at-init
loop-at-init c = record { cut = cut_start Finds c.args.text.now c.new-words.result.items c.new-words.ensures.items; within = omega arith }

pub loop-at-preserved-then-is_blank : goal.loop-at-preserved-then-is_blank
loop-at-preserved-then-is_blank c = record {
  cut = blank c.loop-at.at c.loop-at.words.items c.loop-at.invariant.cut (omega arith) (sym c.is_blank.ensures ∙ c.if-is_blank.true);
  within = omega arith;
}

pub returns-in_err-word-clause-fault : goal.returns-in_err-word-clause-fault
returns-in_err-word-clause-fault c =
    let p = err_from_is_err_and c.from_residual.result c.from_residual.ensures.1 in
    rw (p.1, p.2) (λ differs. cut_fault Finds c.args.text.now c.loop-at.at c.loop-at.words.items c.in_err-word.field-0.0 c.loop-at.invariant.cut (omega arith)
    (sym c.is_blank.ensures ∙ c.if-is_blank.false) c.in_err-word.ensures.found)

pub loop-at-preserved : goal.loop-at-preserved
loop-at-preserved c = record {
  cut = cut_word Finds c.args.text.now c.loop-at.at c.loop-at.words.items c.push.new.self.items c.in_ok-word.word c.loop-at.invariant.cut (omega arith)
      (sym c.is_blank.ensures ∙ c.if-is_blank.false) c.in_ok-word.ensures.found (grind (arith, common_steps));
  within = grind (arith, common_steps);
}

pub returns-in_err-word-clause-formed_fault : goal.returns-in_err-word-clause-formed_fault
returns-in_err-word-clause-formed_fault c =
    let p = err_from_is_err_and c.from_residual.result c.from_residual.ensures.1 in
    rw (p.1, p.2) (λ differs. words_are c.args.text.now (Err c.in_err-word.field-0.0)
    (cut_fault Finds c.args.text.now c.loop-at.at c.loop-at.words.items c.in_err-word.field-0.0 c.loop-at.invariant.cut (omega arith)
    (sym c.is_blank.ensures ∙ c.if-is_blank.false) c.in_err-word.ensures.found))

pub returns-clause-formed : goal.returns-clause-formed
returns-clause-formed c =
    let end : c.loop-at.at ≡ length c.args.text.now = omega arith in
    words_are c.args.text.now (Ok c.loop-at.words.items) (subst (λ (n : ℕ). IsCut Finds c.args.text.now n c.loop-at.words.items) end c.loop-at.invariant.cut)
