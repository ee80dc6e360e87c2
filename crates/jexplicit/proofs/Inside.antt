-- Words that are laid as a block lead nowhere but to words, and those that ask nothing lead onward.
use Rattle.std.proofs.Common.{ℕ, ◌≡◌, ◌<◌, ◌≤◌, ◌+◌, List, Bool, true, false, cond, Option, Some, None, length, slice_get, sym, ap, subst, arith, inl, inr}
use Rattle.std.proofs.lemmas.Option.{slice_get_within}
use Rattle.std.proofs.lemmas.Bool.Decides.{eqb_tells}
use Rattle.jcontrol.specs.declared.prepared.Prepared.{Prepared}
use Rattle.jcontrol.specs.declared.prepared.Act.TheVariants as act
use Rattle.jcontrol.specs.Block.{Block, Cases}
use Rattle.jcontrol.specs.Block.Block.{Nothing, Sentence, If, While, For, Select, Try, Assert, Break, Continue, Leave}
use Rattle.jcontrol.specs.Block.Cases.{NoCase, Case, Always}
use Rattle.jcontrol.specs.Laid.{Around, word_of, in_test, in_loop, Laid, LaidCases}
use Rattle.jcontrol.specs.Machine.{LeadsInside, IsSound}

abbrev pub CatchInside : ℕ → Option ℕ → Type 0
CatchInside len None = Unit {0}
CatchInside len (Some c) = c < len

abbrev pub Good : ℕ → ℕ → Prepared → Type 0
Good len p w = LeadsInside len p w.act × CatchInside len w.catch

abbrev pub LoopInside : ℕ → ℕ → Option (ℕ × Prepared) → Type 0
LoopInside len q None = Unit {0}
LoopInside len q (Some l) = (q ≤ l.0) × (l.0 < len) × ((r : ℕ) → Good len r l.1)

nearer : (len p q : ℕ) (l : Option (ℕ × Prepared)) → p ≤ q → LoopInside len q l → LoopInside len p l
nearer len p q None h i = tt
nearer len p q (Some l) h (a, b, c) = (omega arith, b, c)

module _ (ws : List Prepared) where
  -- the places of a block rise
  mutual
    rises : (b : Block) (a : Around) (p q : ℕ) → Laid ws b a p q → p ≤ q
    rises Nothing a p q l = omega arith
    rises (Sentence m rest) a p q l = let h = rises rest a (p + 1) q l.1 in omega (arith, h)
    rises (If w test block otherwise rest) a p q (d, e, f, h1, l1, h2, l2, h3, l3, l4) =
        let r1 = rises test (in_test a w) (p + 1) d l1 in let r2 = rises block a (d + 1) e l2 in let r3 = rises otherwise a (e + 1) f l3 in let r4 = rises rest a f q l4 in
        omega (arith, r1, r2, r3, r4)
    rises (While w skips test block rest) a p q (d, e, h1, l1, h2, h3, l2, h4, l4) =
        let r1 = rises test (in_test a w) (p + 1) d l1 in let r2 = rises block (in_loop a (e + 1) (act.TestStart w (p + 1)) a.depth) (d + 1 + 1) e l2 in let r4 = rises rest a (e + 1) q l4 in
        omega (arith, r1, r2, r4)
    rises (For w test block rest) a p q (d, e, h1, l1, h2, l2, h4, l4) =
        let r1 = rises test (in_test a w) (p + 1) d l1 in let r2 = rises block (in_loop a (e + 1) (act.Next w a.depth (d + 1) (e + 1)) (a.depth + 1)) (d + 1) e l2 in let r4 = rises rest a (e + 1) q l4 in
        omega (arith, r1, r2, r4)
    rises (Select w test cases rest) a p q (d, g, e, h1, l1, h2, l2, l4) =
        let r1 = rises test (in_test a w) (p + 1) d l1 in let r2 = cases_rise cases a w (d + 1) g e l2 in let r4 = rises rest a e q l4 in
        omega (arith, r1, r2.0, r2.1, r4)
    rises (Try block caught rest) a p q (c, e, l1, h1, h2, l2, l4) =
        let r1 = rises block (record a { catch = Some (c + 1) }) p c l1 in let r2 = rises caught a (c + 1 + 1) e l2 in let r4 = rises rest a e q l4 in
        omega (arith, r1, r2, r4)
    rises (Assert w test rest) a p q (d, h1, l1, h2, l4) =
        let r1 = rises test (in_test a w) (p + 1) d l1 in let r4 = rises rest a (d + 1) q l4 in
        omega (arith, r1, r4)
    rises (Break rest) a p q (end, again, is, h1, l4) = let h = rises rest a (p + 1) q l4 in omega (arith, h)
    rises (Continue rest) a p q (end, again, is, h1, l4) = let h = rises rest a (p + 1) q l4 in omega (arith, h)
    rises (Leave rest) a p q l = let h = rises rest a (p + 1) q l.1 in omega (arith, h)

    cases_rise : (c : Cases) (a : Around) (s p g e : ℕ) → LaidCases ws c a s p g e → (p ≤ g) × (g ≤ e)
    cases_rise NoCase a s p g e (h1, h2) = (omega arith, omega arith)
    cases_rise (Case w test block falls more) a s p g e (d, f, h, h1, l1, h2, h3, l2, h4, l3) =
        let r1 = rises test (in_test a w) (p + 1) d l1 in let r2 = rises block a g f l2 in let r3 = cases_rise more a s (f + 1) h e l3 in
        (omega (arith, r1, h3), omega (arith, r2, r3.0, r3.1))
    cases_rise (Always block falls more) a s p g e (f, h, h3, l2, h4, l3) =
        let r2 = rises block a g f l2 in let r3 = cases_rise more a s (f + 1) h e l3 in
        (omega (arith, h3), omega (arith, r2, r3.0, r3.1))

  abbrev GoodFrom : ℕ → Type 0
  GoodFrom n = (p : ℕ) (w : Prepared) → n ≤ p → slice_get ws p ≡ Some w → Good (length ws) p w

  with_word : (n : ℕ) (w : Prepared) → slice_get ws n ≡ Some w → Good (length ws) n w → GoodFrom (n + 1) → GoodFrom n
  with_word n w at g rest p v h k = elim (eqb_tells p n) [
    | inl e ↦ let x : w ≡ v = let y = ap (λ (z : ℕ). slice_get ws z) e.1 in cc in subst (λ (z : ℕ). Good (length ws) z v) (sym e.1) (subst (λ (z : Prepared). Good (length ws) n z) x g)
    | inr e ↦ rest p v (let z = e.1 in omega arith) k
  ]

  leads_case : (falls : Bool) (f h e : ℕ) → f < h → h ≤ e → e < length ws → (f < cond falls h e) × (cond falls h e < length ws)
  leads_case true f h e x y z = (x, omega arith)
  leads_case false f h e x y z = (omega arith, z)

  mutual
    inside : (b : Block) (a : Around) (p q : ℕ) → Laid ws b a p q → q < length ws → CatchInside (length ws) a.catch → LoopInside (length ws) q a.loop → GoodFrom q → GoodFrom p
    inside Nothing a p q l k c o g = subst (λ (z : ℕ). GoodFrom z) (sym l) g
    inside (Sentence m rest) a p q l k c o g =
        let r = rises rest a (p + 1) q l.1 in
        with_word p (word_of a (act.Sentence m a.test)) l.0 (omega (arith, r, k), c) (inside rest a (p + 1) q l.1 k c o g)
    inside (If w test block otherwise rest) a p q (d, e, f, h1, l1, h2, l2, h3, l3, l4) k c o g =
        let r1 = rises test (in_test a w) (p + 1) d l1 in let r2 = rises block a (d + 1) e l2 in let r3 = rises otherwise a (e + 1) f l3 in let r4 = rises rest a f q l4 in
        let g4 = inside rest a f q l4 k c o g in
        let g3 = inside otherwise a (e + 1) f l3 (omega (arith, r4, k)) c (nearer (length ws) f q a.loop r4 o) g4 in
        let ge = with_word e (word_of a (act.Go f)) h3 ((omega (arith, r3), omega (arith, r4, k)), c) g3 in
        let g2 = inside block a (d + 1) e l2 (omega (arith, r3, r4, k)) c (nearer (length ws) e q a.loop (omega (arith, r3, r4)) o) ge in
        let gd = with_word d (word_of a (act.Test w (e + 1))) h2 ((omega (arith, r2, r3, r4, k), omega (arith, r3, r4, k)), c) g2 in
        let g1 = inside test (in_test a w) (p + 1) d l1 (omega (arith, r2, r3, r4, k)) c (nearer (length ws) d q a.loop (omega (arith, r2, r3, r4)) o) gd in
        with_word p (word_of a (act.TestStart w (p + 1))) h1 (omega (arith, r1, r2, r3, r4, k), c) g1
    inside (While w skips test block rest) a p q (d, e, h1, l1, h2, h3, l2, h4, l4) k c o g =
        let b = in_loop a (e + 1) (act.TestStart w (p + 1)) a.depth in
        let r1 = rises test (in_test a w) (p + 1) d l1 in let r2 = rises block b (d + 1 + 1) e l2 in let r4 = rises rest a (e + 1) q l4 in
        let back : p + 1 < length ws = omega (arith, r1, r2, r4, k) in
        let g4 = inside rest a (e + 1) q l4 k c o g in
        let ge = with_word e (word_of a (act.TestStart w (p + 1))) h4 (back, c) g4 in
        let g2 = inside block b (d + 1 + 1) e l2 (omega (arith, r4, k)) c (omega arith, omega (arith, r4, k), λ r. (back, c)) ge in
        let gr = with_word (d + 1) (word_of a (act.Round w)) h3 (omega (arith, r2, r4, k), c) g2 in
        let gd = with_word d (word_of a (act.Test w (e + 1))) h2 ((omega (arith, r2, r4, k), omega (arith, r4, k)), c) gr in
        let g1 = inside test (in_test a w) (p + 1) d l1 (omega (arith, r2, r4, k)) c (nearer (length ws) d q a.loop (omega (arith, r2, r4)) o) gd in
        let first : LeadsInside (length ws) p (cond skips (act.Go (d + 1)) (act.TestStart w (p + 1)))
        = elim skips as (λ x. LeadsInside (length ws) p (cond x (act.Go (d + 1)) (act.TestStart w (p + 1)))) [ true ↦ (omega (arith, r1), omega (arith, r2, r4, k)) | false ↦ back ] in
        with_word p (word_of a (cond skips (act.Go (d + 1)) (act.TestStart w (p + 1)))) h1 (first, c) g1
    inside (For w test block rest) a p q (d, e, h1, l1, h2, l2, h4, l4) k c o g =
        let b = in_loop a (e + 1) (act.Next w a.depth (d + 1) (e + 1)) (a.depth + 1) in
        let r1 = rises test (in_test a w) (p + 1) d l1 in let r2 = rises block b (d + 1) e l2 in let r4 = rises rest a (e + 1) q l4 in
        let held : d + 1 < length ws = omega (arith, r2, r4, k) in let ends : e + 1 < length ws = omega (arith, r4, k) in
        let g4 = inside rest a (e + 1) q l4 k c o g in
        let ge = with_word e (word_of a (act.Next w a.depth (d + 1) (e + 1))) h4 ((held, ends), c) g4 in
        let g2 = inside block b (d + 1) e l2 (omega (arith, r4, k)) c (omega arith, ends, λ r. ((held, ends), c)) ge in
        let gd = with_word d (word_of a (act.First w a.depth (e + 1))) h2 ((held, ends), c) g2 in
        let g1 = inside test (in_test a w) (p + 1) d l1 (omega (arith, r2, r4, k)) c (nearer (length ws) d q a.loop (omega (arith, r2, r4)) o) gd in
        with_word p (word_of a (act.TestStart w (p + 1))) h1 (omega (arith, r1, r2, r4, k), c) g1
    inside (Select w test cases rest) a p q (d, v, e, h1, l1, h2, l2, l4) k c o g =
        let r1 = rises test (in_test a w) (p + 1) d l1 in let (r2, r3) = cases_rise cases a w (d + 1) v e l2 in let r4 = rises rest a e q l4 in
        let g4 = inside rest a e q l4 k c o g in
        let g2 = cases_inside cases a w (d + 1) v e l2 (omega (arith, r4, k)) c (nearer (length ws) e q a.loop r4 o) g4 in
        let gd = with_word d (word_of a (act.Select w)) h2 (omega (arith, r2, r3, r4, k), c) g2 in
        let g1 = inside test (in_test a w) (p + 1) d l1 (omega (arith, r2, r3, r4, k)) c (nearer (length ws) d q a.loop (omega (arith, r2, r3, r4)) o) gd in
        with_word p (word_of a (act.TestStart w (p + 1))) h1 (omega (arith, r1, r2, r3, r4, k), c) g1
    inside (Try block caught rest) a p q (x, e, l1, h1, h2, l2, l4) k c o g =
        let b : Around = record a { catch = Some (x + 1) } in
        let r1 = rises block b p x l1 in let r2 = rises caught a (x + 1 + 1) e l2 in let r4 = rises rest a e q l4 in
        let g4 = inside rest a e q l4 k c o g in
        let g2 = inside caught a (x + 1 + 1) e l2 (omega (arith, r4, k)) c (nearer (length ws) e q a.loop r4 o) g4 in
        let gl = with_word (x + 1) (word_of a (act.Go (x + 1 + 1))) h2 ((omega arith, omega (arith, r2, r4, k)), c) g2 in
        let gd = with_word x (word_of a (act.Go e)) h1 ((omega (arith, r2), omega (arith, r4, k)), c) gl in
        inside block b p x l1 (omega (arith, r2, r4, k)) (omega (arith, r2, r4, k)) (nearer (length ws) x q a.loop (omega (arith, r2, r4)) o) gd
    inside (Assert w test rest) a p q (d, h1, l1, h2, l4) k c o g =
        let r1 = rises test (in_test a w) (p + 1) d l1 in let r4 = rises rest a (d + 1) q l4 in
        let g4 = inside rest a (d + 1) q l4 k c o g in
        let gd = with_word d (word_of a (act.Assert w)) h2 (omega (arith, r4, k), c) g4 in
        let g1 = inside test (in_test a w) (p + 1) d l1 (omega (arith, r4, k)) c (nearer (length ws) d q a.loop (omega (arith, r4)) o) gd in
        with_word p (word_of a (act.TestStart w (p + 1))) h1 (omega (arith, r1, r4, k), c) g1
    inside (Break rest) a p q (end, again, is, h1, l4) k c o g =
        let r4 = rises rest a (p + 1) q l4 in
        let (x, y, z) = subst (λ (l : Option (ℕ × Prepared)). LoopInside (length ws) q l) is o in
        with_word p (word_of a (act.Go end)) h1 ((omega (arith, r4, x), y), c) (inside rest a (p + 1) q l4 k c o g)
    inside (Continue rest) a p q (end, again, is, h1, l4) k c o g =
        let (x, y, z) = subst (λ (l : Option (ℕ × Prepared)). LoopInside (length ws) q l) is o in
        with_word p again h1 (z p) (inside rest a (p + 1) q l4 k c o g)
    inside (Leave rest) a p q l k c o g = with_word p (word_of a act.Return) l.0 (tt, c) (inside rest a (p + 1) q l.1 k c o g)

    cases_inside : (b : Cases) (a : Around) (s p v e : ℕ) → LaidCases ws b a s p v e → e < length ws → CatchInside (length ws) a.catch → LoopInside (length ws) e a.loop → GoodFrom e → GoodFrom p
    cases_inside NoCase a s p v e (h1, h2) k c o g = subst (λ (z : ℕ). GoodFrom z) (sym h1) g
    cases_inside (Case w test block falls more) a s p v e (d, f, h, h1, l1, h2, h3, l2, h4, l3) k c o g =
        let r1 = rises test (in_test a w) (p + 1) d l1 in let r2 = rises block a v f l2 in let (r3, r4) = cases_rise more a s (f + 1) h e l3 in
        let g3 = cases_inside more a s (f + 1) h e l3 k c o g in
        let leads = leads_case falls f h e (omega (arith, r3)) r4 k in
        let gf = with_word f (word_of a (act.Go (cond falls h e))) h4 (leads, c) g3 in
        let g2 = inside block a v f l2 (omega (arith, r3, r4, k)) c (nearer (length ws) f e a.loop (omega (arith, r3, r4)) o) gf in
        let g5 : GoodFrom (d + 1) = subst (λ (z : ℕ). GoodFrom z) h3 g2 in
        let gd = with_word d (word_of a (act.Case w s (f + 1))) h2 ((omega (arith, r2, h3, r3, r4, k), omega (arith, r3, r4, k)), c) g5 in
        let g1 = inside test (in_test a w) (p + 1) d l1 (omega (arith, r2, h3, r3, r4, k)) c (nearer (length ws) d e a.loop (omega (arith, r2, h3, r3, r4)) o) gd in
        with_word p (word_of a (act.TestStart w (p + 1))) h1 (omega (arith, r1, r2, h3, r3, r4, k), c) g1
    cases_inside (Always block falls more) a s p v e (f, h, h3, l2, h4, l3) k c o g =
        let r2 = rises block a v f l2 in let (r3, r4) = cases_rise more a s (f + 1) h e l3 in
        let g3 = cases_inside more a s (f + 1) h e l3 k c o g in
        let leads = leads_case falls f h e (omega (arith, r3)) r4 k in
        let gf = with_word f (word_of a (act.Go (cond falls h e))) h4 (leads, c) g3 in
        let g2 = inside block a v f l2 (omega (arith, r3, r4, k)) c (nearer (length ws) f e a.loop (omega (arith, r3, r4)) o) gf in
        subst (λ (z : ℕ). GoodFrom z) h3 g2

  caught_inside : (c : Option ℕ) (x : ℕ) → CatchInside (length ws) c → c ≡ Some x → x < length ws
  caught_inside c x i e = subst (λ (z : Option ℕ). CatchInside (length ws) z) e i

  -- a whole body, whose last word ends it
  pub sound : (b : Block) (q : ℕ) → length ws ≡ q + 1 → let a : Around = record { test = None; catch = None; loop = None; depth = 0 } in
      slice_get ws 0 ≡ Some (word_of a (act.Go 1)) → Laid ws b a 1 q → slice_get ws q ≡ Some (word_of a act.Return) → IsSound ws
  sound b q len first l last =
      let a : Around = record { test = None; catch = None; loop = None; depth = 0 } in
      let r = rises b a 1 q l in
      let k : q < length ws = omega (arith, len) in
      let past : GoodFrom (q + 1) = λ p w n h. let z : p < length ws = slice_get_within ws p w h in absurd (omega (arith, z, n, len)) in
      let gq = with_word q (word_of a act.Return) last (tt, tt) past in
      let g1 : GoodFrom (0 + 1) = inside b a 1 q l k tt tt gq in
      let g : GoodFrom 0 = with_word 0 (word_of a (act.Go 1)) first ((omega arith, omega (arith, r, k)), tt) g1 in
      record {
        acts = λ p w h. (g p w (omega arith) h).0;
        catches = λ p w c h e. caught_inside w.catch c (g p w (omega arith) h).1 e;
      }
