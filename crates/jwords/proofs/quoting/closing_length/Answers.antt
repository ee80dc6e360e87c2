use Rattle.std.proofs.Common.{rules, arith, ◌≡◌, ◌≢◌, ◌≤◌, ◌<◌, ◌∷◌, ◌++◌, ◌+◌, [], ℕ, Bool, length, take, drop, get_or, sym, ◌∙◌, ap, subst}
use Rattle.std.proofs.lemmas.List.{get_or_past}
use Rattle.jwords.specs.Alphabet.{quote}
use Rattle.jwords.specs.Texts.{nothing, IsQuoted}
use Rattle.jwords.proofs.QuotedTexts.{Scanned, scanned_more_quote, scanned_more_plain, scanned_closes_at, scanned_is_open}
use Rattle.jwords.proofs.quoting.closing_length.Goals as goal
use Rattle.jwords.proofs.quoting.closing_length.Goals.{then-byte-eq-QUOTE, else-byte-eq-QUOTE+else-closing}

pub loop-i-init : goal.loop-i-init
loop-i-init c = nothing

pub loop-i-preserved : goal.loop-i-preserved
loop-i-preserved c = elim c.if-byte-eq-QUOTE.branch [
  | then-byte-eq-QUOTE w ↦ subst (λ (b : Bool). Scanned b (take (c.loop-i.i + 1) c.args.bytes.now)) (sym w.closing-is)
      (scanned_more_quote c.loop-i.closing c.args.bytes.now c.loop-i.i (omega arith) w.if-byte-eq-QUOTE.true c.loop-i.invariant)
  | else-byte-eq-QUOTE+else-closing w ↦ subst (λ (b : Bool). Scanned b (take (c.loop-i.i + 1) c.args.bytes.now)) (sym w.closing-is)
      (scanned_more_plain c.loop-i.closing c.args.bytes.now c.loop-i.i (omega arith) w.if-closing.false w.if-byte-eq-QUOTE.false c.loop-i.invariant)
]

pub returns-then-closing-clause-some : goal.returns-then-closing-clause-some
returns-then-closing-clause-some c =
    scanned_closes_at c.loop-i.closing c.args.bytes.now c.loop-i.i (omega arith) c.if-closing.true c.if-byte-eq-QUOTE.false c.loop-i.invariant

pub returns-then-closing-2-clause-some : goal.returns-then-closing-2-clause-some
returns-then-closing-2-clause-some c =
    let e : c.loop-i.i ≡ length c.args.bytes.now = omega arith in
    let past : get_or c.args.bytes.now c.loop-i.i 0 ≡ 0 = get_or_past c.args.bytes.now c.loop-i.i 0 (omega arith) in
    subst (λ (n : ℕ). IsQuoted (quote ∷ c.args.bytes.now) (n + 1)) e
    (scanned_closes_at c.loop-i.closing c.args.bytes.now c.loop-i.i (omega arith) c.if-closing-2.true (λ q. absurd (cc (q, past))) c.loop-i.invariant)

pub returns-else-closing-2-clause-none : goal.returns-else-closing-2-clause-none
returns-else-closing-2-clause-none c =
    scanned_is_open c.loop-i.closing c.args.bytes.now c.loop-i.i (omega arith) c.if-closing-2.false c.loop-i.invariant
