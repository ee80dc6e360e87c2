use Rattle.std.proofs.Common.{rules, arith, ◌≡◌, ℕ, List, length, take, drop, get_or, sym, ◌∙◌, ap, subst}
use Rattle.jnumber.specs.declared.reading.Read.TheVariants.{Not}
use Rattle.jnumber.specs.Reading.{IsReading}
use Rattle.std.specs.List.{prefix_len}
use Rattle.jwords.specs.Alphabet.{is_number_byte}
use Rattle.jwords.proofs.running.begins_number.Goals as goal

pub returns-then-begins_run : goal.returns-then-begins_run
returns-then-begins_run c =
    let same : take (c.run_length.result) c.args.bytes.now ≡ take (prefix_len is_number_byte c.args.bytes.now) c.args.bytes.now = ap (λ n. take n c.args.bytes.now) c.run_length.ensures.run in (
      λ e. record {
        run = c.begins_run.ensures.0 c.if-begins_run.true;
        number = λ none. c.is_number.ensures.number.0 e (subst (λ (run : List ℕ). IsReading run Not) (sym same) none);
      },
      λ b. c.is_number.ensures.number.1 (λ none. b.number (subst (λ (run : List ℕ). IsReading run Not) same none)),
    )
