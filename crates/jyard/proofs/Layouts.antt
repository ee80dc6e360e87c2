-- The layout of two rows, one after the other, is that of a struct of two arrays.
use Rattle.std.proofs.Common.{◌≡◌, ℕ, ◌+◌, ◌*◌, ◌^◌, ◌<◌, max, sym, ap, ◌∙◌, arith}
use mir.Raw.{raw}
use prog.Memory.{size, align, capped, up}
use prog.Capped.{capped_is}
use prog.RawLaws.{size-raw, align-raw}
use denote.RattleType.{RattleType}
use denote.Memory.{lone}
use Rattle.core.specs.Allocator.{HasLayout}
use Rattle.jyard.specs.Grounds.{block_type, IsPlan}

-- where the values begin, as the struct's layout has it
pub begin : (R : RattleType) (n d : ℕ) → d ≡ up (align (lone R.mir)) (n * 8) → up (align (raw (lone R.mir))) (0 + n * 8) ≡ d
begin R n d e = (λ i. up (align-raw (lone R.mir) i) (let same : 0 + n * 8 ≡ n * 8 = omega arith in same i)) ∙ sym e

wide : (a : ℕ) → max 8 (max a 1) ≡ max 8 a
wide a = omega arith

-- its alignment is the larger of the two
widest : (R : RattleType) (a : ℕ) → a ≡ max 8 (align (lone R.mir)) → max 8 (max (align (raw (lone R.mir))) 1) ≡ a
widest R a e = wide (align (raw (lone R.mir))) ∙ (λ i. max 8 (align-raw (lone R.mir) i)) ∙ sym e

pub laid : (R : RattleType) (n s a d : ℕ) → a < 2 ^ 64 → IsPlan R n s a d → HasLayout (block_type R n) s a
laid R n s a d fits plan =
    let end : up (align (raw (lone R.mir))) (0 + n * 8) + n * size (raw (lone R.mir)) ≡ d + n * size (lone R.mir) = λ i. begin R n d plan.0 i + n * size-raw (lone R.mir) i in
    let all : up (max 8 (max (align (raw (lone R.mir))) 1)) (up (align (raw (lone R.mir))) (0 + n * 8) + n * size (raw (lone R.mir))) ≡ s = (λ i. up (widest R a plan.1 i) (end i)) ∙ sym plan.2 in
    (ap capped all ∙ capped_is s (omega (arith, plan.3)), ap capped (widest R a plan.1) ∙ capped_is a fits)
