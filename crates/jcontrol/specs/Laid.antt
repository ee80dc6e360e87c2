-- The words of a prepared body agree with its blocks, those of J Dictionary, "Control Structures": each group's words
-- stand one after another, and each jump leads where the group says.
use Rattle.std.specs.Prelude.{ℕ, ◌≡◌, ◌+◌, List, Option, Some, None, slice_get, cond}
use Rattle.jcontrol.specs.declared.prepared.Prepared.{Prepared}
use Rattle.jcontrol.specs.declared.prepared.Act.{Act}
use Rattle.jcontrol.specs.declared.prepared.Act.TheVariants as act
use Rattle.jcontrol.specs.Block.{Block, Cases}
use Rattle.jcontrol.specs.Block.Block.{Nothing, Sentence, If, While, For, Select, Try, Assert, Break, Continue, Leave}
use Rattle.jcontrol.specs.Block.Cases.{NoCase, Case, Always}

-- what stands round a block: the innermost test, the word that a fault goes to, the innermost loop (the place
-- behind it, and the word that goes round again), and how many `for.` loops are open
pub record Around : Type 0 where
  pub test : Option ℕ
  pub catch : Option ℕ
  pub loop : Option (ℕ × Prepared)
  pub depth : ℕ

abbrev pub word_of : Around → Act → Prepared
word_of a act = record { act = act; catch = a.catch }

-- at this place stands a word that does this
abbrev pub Has : List Prepared → Around → ℕ → Act → Type 0
Has words a p act = slice_get words p ≡ Some (word_of a act)

abbrev pub in_test : Around → ℕ → Around
in_test a w = record a { test = Some w }

abbrev pub in_loop : Around → ℕ → Act → ℕ → Around
in_loop a end again depth = record { test = a.test; catch = a.catch; loop = Some (end, word_of a again); depth = depth }

abbrev mutual
  -- this block stands from place p up to before place q
  pub Laid : List Prepared → Block → Around → ℕ → ℕ → Type 0
  Laid ws Nothing a p q = p ≡ q
  Laid ws (Sentence m rest) a p q = Has ws a p (act.Sentence m a.test) × Laid ws rest a (p + 1) q
  Laid ws (If w test block otherwise rest) a p q = (d e f : ℕ)
      × Has ws a p (act.TestStart w (p + 1)) × Laid ws test (in_test a w) (p + 1) d
      × Has ws a d (act.Test w (e + 1)) × Laid ws block a (d + 1) e
      × Has ws a e (act.Go f) × Laid ws otherwise a (e + 1) f
      × Laid ws rest a f q
  Laid ws (While w skips test block rest) a p q = (d e : ℕ)
      × Has ws a p (cond skips (act.Go (d + 1)) (act.TestStart w (p + 1))) × Laid ws test (in_test a w) (p + 1) d
      × Has ws a d (act.Test w (e + 1)) × Has ws a (d + 1) (act.Round w)
      × Laid ws block (in_loop a (e + 1) (act.TestStart w (p + 1)) a.depth) (d + 1 + 1) e
      × Has ws a e (act.TestStart w (p + 1))
      × Laid ws rest a (e + 1) q
  Laid ws (For w test block rest) a p q = (d e : ℕ)
      × Has ws a p (act.TestStart w (p + 1)) × Laid ws test (in_test a w) (p + 1) d
      × Has ws a d (act.First w a.depth (e + 1))
      × Laid ws block (in_loop a (e + 1) (act.Next w a.depth (d + 1) (e + 1)) (a.depth + 1)) (d + 1) e
      × Has ws a e (act.Next w a.depth (d + 1) (e + 1))
      × Laid ws rest a (e + 1) q
  Laid ws (Select w test cases rest) a p q = (d g e : ℕ)
      × Has ws a p (act.TestStart w (p + 1)) × Laid ws test (in_test a w) (p + 1) d
      × Has ws a d (act.Select w) × LaidCases ws cases a w (d + 1) g e
      × Laid ws rest a e q
  Laid ws (Try block caught rest) a p q = (c e : ℕ)
      × Laid ws block (record a { catch = Some (c + 1) }) p c × Has ws a c (act.Go e)
      × Has ws a (c + 1) (act.Go (c + 1 + 1)) × Laid ws caught a (c + 1 + 1) e
      × Laid ws rest a e q
  Laid ws (Assert w test rest) a p q = (d : ℕ)
      × Has ws a p (act.TestStart w (p + 1)) × Laid ws test (in_test a w) (p + 1) d
      × Has ws a d (act.Assert w) × Laid ws rest a (d + 1) q
  Laid ws (Break rest) a p q = (end : ℕ) × (again : Prepared) × (a.loop ≡ Some (end, again))
      × Has ws a p (act.Go end) × Laid ws rest a (p + 1) q
  Laid ws (Continue rest) a p q = (end : ℕ) × (again : Prepared) × (a.loop ≡ Some (end, again))
      × (slice_get ws p ≡ Some again) × Laid ws rest a (p + 1) q
  Laid ws (Leave rest) a p q = Has ws a p act.Return × Laid ws rest a (p + 1) q

  -- these cases stand from place p on; the block of the first is at place g, and the last leads on to place e
  pub LaidCases : List Prepared → Cases → Around → ℕ → ℕ → ℕ → ℕ → Type 0
  LaidCases ws NoCase a s p g e = (p ≡ e) × (g ≡ e)
  LaidCases ws (Case w test block falls more) a s p g e = (d f h : ℕ)
      × Has ws a p (act.TestStart w (p + 1)) × Laid ws test (in_test a w) (p + 1) d
      × Has ws a d (act.Case w s (f + 1)) × (g ≡ d + 1) × Laid ws block a g f
      × Has ws a f (act.Go (cond falls h e)) × LaidCases ws more a s (f + 1) h e
  LaidCases ws (Always block falls more) a s p g e = (f h : ℕ)
      × (g ≡ p) × Laid ws block a g f
      × Has ws a f (act.Go (cond falls h e)) × LaidCases ws more a s (f + 1) h e

-- the words of a whole body: its block, and then the word that ends it
abbrev pub IsBody : List Prepared → Block → Type 0
IsBody ws block = let a : Around = record { test = None; catch = None; loop = None; depth = 0 } in
    (q : ℕ) × Has ws a 0 (act.Go 1) × Laid ws block a 1 q × Has ws a q act.Return
