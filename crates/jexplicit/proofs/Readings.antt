-- What is read is a body, and each body is read.
use Rattle.std.proofs.Common.{◌≡◌, ◌↔◌, List, [], ◌∷◌, Bool, true, false, ◌&&◌, refl, sym, ap, subst, ◌∙◌}
use Rattle.jexplicit.specs.declared.kind.Kind.{Kind}
use Rattle.jexplicit.specs.declared.kind.Kind.TheVariants as kind
use Rattle.jexplicit.specs.declared.reading.Part.{Part}
use Rattle.jexplicit.specs.declared.reading.Part.TheVariants as part
use Rattle.jexplicit.specs.Grammar.{Text, Otherwise, Cases, spell, spell_otherwise, spell_cases, IsPlaced, AreOthersPlaced, AreCasesPlaced}
use Rattle.jexplicit.specs.Grammar.Text.{Nothing, Sentence, If, Loop, Select, Try, Assert, Break, Continue, Leave}
use Rattle.jexplicit.specs.Grammar.Otherwise.{NoElse, Else, Elseif}
use Rattle.jexplicit.specs.Grammar.Cases.{NoCase, Case}
use Rattle.jexplicit.specs.Reading.{in_loop, reads}

passes : (x y : Bool) → x ≡ true → (x && y) ≡ y
passes x y h = rw h refl

mutual
  pub reads_block : (b : Text) (more : List Kind) (s : List Part) → IsPlaced (in_loop s) b → reads (spell b more) s ≡ reads more s
  reads_block Nothing more s p = refl
  reads_block (Sentence rest) more s p = reads_block rest more s p
  reads_block (If test block otherwise rest) more s (p1, p2, p3, p4) =
      reads_block test (kind.Do ∷ spell block (spell_otherwise otherwise (kind.End ∷ spell rest more))) (part.IfTest ∷ s) p1
      ∙ (reads_block block (spell_otherwise otherwise (kind.End ∷ spell rest more)) (part.Then ∷ s) p2
      ∙ (reads_otherwise otherwise (spell rest more) s p3 ∙ reads_block rest more s p4))
  reads_block (Loop l test block rest) more s (p1, p2, p3) =
      reads_block test (kind.Do ∷ spell block (kind.End ∷ spell rest more)) (part.LoopTest ∷ s) p1
      ∙ (reads_block block (kind.End ∷ spell rest more) (part.LoopBlock ∷ s) p2 ∙ reads_block rest more s p3)
  reads_block (Select test falls first block cases rest) more s (p1, p2, p3, p4, p5) =
      reads_block test (kind.Case falls ∷ spell first (kind.Do ∷ spell block (spell_cases cases (kind.End ∷ spell rest more)))) (part.SelectTest ∷ s) p1
      ∙ (reads_block first (kind.Do ∷ spell block (spell_cases cases (kind.End ∷ spell rest more))) (part.CaseTest ∷ s) p2
      ∙ (reads_block block (spell_cases cases (kind.End ∷ spell rest more)) (part.CaseBlock ∷ s) p3
      ∙ (reads_cases cases (spell rest more) s p4 ∙ reads_block rest more s p5)))
  reads_block (Try block caught rest) more s (p1, p2, p3) =
      reads_block block (kind.Catch ∷ spell caught (kind.End ∷ spell rest more)) (part.TryBlock ∷ s) p1
      ∙ (reads_block caught (kind.End ∷ spell rest more) (part.CatchBlock ∷ s) p2 ∙ reads_block rest more s p3)
  reads_block (Assert rest) more s p = reads_block rest more s p
  reads_block (Break rest) more s (i, p) = passes (in_loop s) (reads (spell rest more) s) i ∙ reads_block rest more s p
  reads_block (Continue rest) more s (i, p) = passes (in_loop s) (reads (spell rest more) s) i ∙ reads_block rest more s p
  reads_block (Leave rest) more s p = reads_block rest more s p

  reads_otherwise : (o : Otherwise) (more : List Kind) (s : List Part) → AreOthersPlaced (in_loop s) o → reads (spell_otherwise o (kind.End ∷ more)) (part.Then ∷ s) ≡ reads more s
  reads_otherwise NoElse more s p = refl
  reads_otherwise (Else block) more s p = reads_block block (kind.End ∷ more) (part.Otherwise ∷ s) p
  reads_otherwise (Elseif test block otherwise) more s (p1, p2, p3) =
      reads_block test (kind.Do ∷ spell block (spell_otherwise otherwise (kind.End ∷ more))) (part.IfTest ∷ s) p1
      ∙ (reads_block block (spell_otherwise otherwise (kind.End ∷ more)) (part.Then ∷ s) p2 ∙ reads_otherwise otherwise more s p3)

  reads_cases : (c : Cases) (more : List Kind) (s : List Part) → AreCasesPlaced (in_loop s) c → reads (spell_cases c (kind.End ∷ more)) (part.CaseBlock ∷ s) ≡ reads more s
  reads_cases NoCase more s p = refl
  reads_cases (Case falls test block cases) more s (p1, p2, p3) =
      reads_block test (kind.Do ∷ spell block (spell_cases cases (kind.End ∷ more))) (part.CaseTest ∷ s) p1
      ∙ (reads_block block (spell_cases cases (kind.End ∷ more)) (part.CaseBlock ∷ s) p2 ∙ reads_cases cases more s p3)

-- words that complete these open groups
abbrev pub Completes : List Part → List Kind → Type 0
Completes [] w = (b : Text) × (spell b [] ≡ w) × IsPlaced false b
Completes (part.IfTest ∷ s) w = (t b : Text) × (o : Otherwise) × (v : List Kind) × (spell t (kind.Do ∷ spell b (spell_otherwise o (kind.End ∷ v))) ≡ w) × IsPlaced (in_loop s) t × IsPlaced (in_loop s) b × AreOthersPlaced (in_loop s) o × Completes s v
Completes (part.Then ∷ s) w = (b : Text) × (o : Otherwise) × (v : List Kind) × (spell b (spell_otherwise o (kind.End ∷ v)) ≡ w) × IsPlaced (in_loop s) b × AreOthersPlaced (in_loop s) o × Completes s v
Completes (part.Otherwise ∷ s) w = (b : Text) × (v : List Kind) × (spell b (kind.End ∷ v) ≡ w) × IsPlaced (in_loop s) b × Completes s v
Completes (part.LoopTest ∷ s) w = (t b : Text) × (v : List Kind) × (spell t (kind.Do ∷ spell b (kind.End ∷ v)) ≡ w) × IsPlaced (in_loop s) t × IsPlaced true b × Completes s v
Completes (part.LoopBlock ∷ s) w = (b : Text) × (v : List Kind) × (spell b (kind.End ∷ v) ≡ w) × IsPlaced true b × Completes s v
Completes (part.SelectTest ∷ s) w = (t : Text) × (l : Bool) × (f b : Text) × (c : Cases) × (v : List Kind) × (spell t (kind.Case l ∷ spell f (kind.Do ∷ spell b (spell_cases c (kind.End ∷ v)))) ≡ w) × IsPlaced (in_loop s) t × IsPlaced (in_loop s) f × IsPlaced (in_loop s) b × AreCasesPlaced (in_loop s) c × Completes s v
Completes (part.CaseTest ∷ s) w = (f b : Text) × (c : Cases) × (v : List Kind) × (spell f (kind.Do ∷ spell b (spell_cases c (kind.End ∷ v))) ≡ w) × IsPlaced (in_loop s) f × IsPlaced (in_loop s) b × AreCasesPlaced (in_loop s) c × Completes s v
Completes (part.CaseBlock ∷ s) w = (b : Text) × (c : Cases) × (v : List Kind) × (spell b (spell_cases c (kind.End ∷ v)) ≡ w) × IsPlaced (in_loop s) b × AreCasesPlaced (in_loop s) c × Completes s v
Completes (part.TryBlock ∷ s) w = (b c : Text) × (v : List Kind) × (spell b (kind.Catch ∷ spell c (kind.End ∷ v)) ≡ w) × IsPlaced (in_loop s) b × IsPlaced (in_loop s) c × Completes s v
Completes (part.CatchBlock ∷ s) w = (b : Text) × (v : List Kind) × (spell b (kind.End ∷ v) ≡ w) × IsPlaced (in_loop s) b × Completes s v

-- a member in front of what completes them
module _ (f : Text → Text) (F : List Kind → List Kind) (h : (b : Text) (more : List Kind) → spell (f b) more ≡ F (spell b more)) where
  front : (s : List Part) (w : List Kind) → ((b : Text) → IsPlaced (in_loop s) b → IsPlaced (in_loop s) (f b)) → Completes s w → Completes s (F w)
  front [] w g (b, e, p) = (f b, h b [] ∙ ap F e, g b p)
  front (part.IfTest ∷ s) w g (t, b, o, v, e, p1, p2, p3, c) = (f t, b, o, v, h t _ ∙ ap F e, g t p1, p2, p3, c)
  front (part.Then ∷ s) w g (b, o, v, e, p1, p2, c) = (f b, o, v, h b _ ∙ ap F e, g b p1, p2, c)
  front (part.Otherwise ∷ s) w g (b, v, e, p1, c) = (f b, v, h b _ ∙ ap F e, g b p1, c)
  front (part.LoopTest ∷ s) w g (t, b, v, e, p1, p2, c) = (f t, b, v, h t _ ∙ ap F e, g t p1, p2, c)
  front (part.LoopBlock ∷ s) w g (b, v, e, p1, c) = (f b, v, h b _ ∙ ap F e, g b p1, c)
  front (part.SelectTest ∷ s) w g (t, l, x, b, k, v, e, p1, p2, p3, p4, c) = (f t, l, x, b, k, v, h t _ ∙ ap F e, g t p1, p2, p3, p4, c)
  front (part.CaseTest ∷ s) w g (x, b, k, v, e, p1, p2, p3, c) = (f x, b, k, v, h x _ ∙ ap F e, g x p1, p2, p3, c)
  front (part.CaseBlock ∷ s) w g (b, k, v, e, p1, p2, c) = (f b, k, v, h b _ ∙ ap F e, g b p1, p2, c)
  front (part.TryBlock ∷ s) w g (b, k, v, e, p1, p2, c) = (f b, k, v, h b _ ∙ ap F e, g b p1, p2, c)
  front (part.CatchBlock ∷ s) w g (b, v, e, p1, c) = (f b, v, h b _ ∙ ap F e, g b p1, c)

-- a group in front of them, whose words were read behind its first word
closed : (f : Text → Text) (k : Kind) (F : List Kind → List Kind) → ((b : Text) (more : List Kind) → spell (f b) more ≡ k ∷ F (spell b more)) → (s : List Part) (v w : List Kind) → F v ≡ w
    → ((b : Text) → IsPlaced (in_loop s) b → IsPlaced (in_loop s) (f b)) → Completes s v → Completes s (k ∷ w)
closed f k F h s v w e g c = subst (λ x. Completes s (k ∷ x)) e (front f (λ x. k ∷ F x) h s v g c)

first_holds : (x y : Bool) → (x && y) ≡ true → x ≡ true
first_holds true y h = refl
first_holds false y h = absurd (cc)

then_holds : (x y : Bool) → (x && y) ≡ true → y ≡ true
then_holds true y h = h
then_holds false y h = absurd (cc)

completes : (w : List Kind) (s : List Part) → reads w s ≡ true → Completes s w
completes [] [] h = (Nothing, refl, tt)
completes [] (p ∷ s) h = absurd (cc)
completes (kind.Sentence ∷ w) s h = front Sentence (λ x. kind.Sentence ∷ x) (λ b more. refl) s w (λ b p. p) (completes w s h)
completes (kind.Assert ∷ kind.Sentence ∷ w) s h = front Assert (λ x. kind.Assert ∷ kind.Sentence ∷ x) (λ b more. refl) s w (λ b p. p) (completes w s h)
completes (kind.Break ∷ w) s h =
    let i = first_holds (in_loop s) (reads w s) h in
    front Break (λ x. kind.Break ∷ x) (λ b more. refl) s w (λ b p. (i, p)) (completes w s (then_holds (in_loop s) (reads w s) h))
completes (kind.Continue ∷ w) s h =
    let i = first_holds (in_loop s) (reads w s) h in
    front Continue (λ x. kind.Continue ∷ x) (λ b more. refl) s w (λ b p. (i, p)) (completes w s (then_holds (in_loop s) (reads w s) h))
completes (kind.Return ∷ w) s h = front Leave (λ x. kind.Return ∷ x) (λ b more. refl) s w (λ b p. p) (completes w s h)
completes (kind.If ∷ w) s h =
    let (t, b, o, v, e, p1, p2, p3, c) = completes w (part.IfTest ∷ s) h in
    closed (If t b o) kind.If (λ x. spell t (kind.Do ∷ spell b (spell_otherwise o (kind.End ∷ x)))) (λ r more. refl) s v w e (λ r p. (p1, p2, p3, p)) c
completes (kind.Loop l ∷ w) s h =
    let (t, b, v, e, p1, p2, c) = completes w (part.LoopTest ∷ s) h in
    closed (Loop l t b) (kind.Loop l) (λ x. spell t (kind.Do ∷ spell b (kind.End ∷ x))) (λ r more. refl) s v w e (λ r p. (p1, p2, p)) c
completes (kind.Select ∷ w) s h =
    let (t, l, f, b, k, v, e, p1, p2, p3, p4, c) = completes w (part.SelectTest ∷ s) h in
    closed (Select t l f b k) kind.Select (λ x. spell t (kind.Case l ∷ spell f (kind.Do ∷ spell b (spell_cases k (kind.End ∷ x))))) (λ r more. refl) s v w e (λ r p. (p1, p2, p3, p4, p)) c
completes (kind.Try ∷ w) s h =
    let (b, k, v, e, p1, p2, c) = completes w (part.TryBlock ∷ s) h in
    closed (Try b k) kind.Try (λ x. spell b (kind.Catch ∷ spell k (kind.End ∷ x))) (λ r more. refl) s v w e (λ r p. (p1, p2, p)) c
completes (kind.Do ∷ w) (part.IfTest ∷ s) h = let (b, o, v, e, p1, p2, c) = completes w (part.Then ∷ s) h in (Nothing, b, o, v, ap (λ x. kind.Do ∷ x) e, tt, p1, p2, c)
completes (kind.Do ∷ w) (part.LoopTest ∷ s) h = let (b, v, e, p1, c) = completes w (part.LoopBlock ∷ s) h in (Nothing, b, v, ap (λ x. kind.Do ∷ x) e, tt, p1, c)
completes (kind.Do ∷ w) (part.CaseTest ∷ s) h = let (b, k, v, e, p1, p2, c) = completes w (part.CaseBlock ∷ s) h in (Nothing, b, k, v, ap (λ x. kind.Do ∷ x) e, tt, p1, p2, c)
completes (kind.Elseif ∷ w) (part.Then ∷ s) h = let (t, b, o, v, e, p1, p2, p3, c) = completes w (part.IfTest ∷ s) h in (Nothing, Elseif t b o, v, ap (λ x. kind.Elseif ∷ x) e, tt, (p1, p2, p3), c)
completes (kind.Else ∷ w) (part.Then ∷ s) h = let (b, v, e, p1, c) = completes w (part.Otherwise ∷ s) h in (Nothing, Else b, v, ap (λ x. kind.Else ∷ x) e, tt, p1, c)
completes (kind.Case l ∷ w) (part.SelectTest ∷ s) h = let (f, b, k, v, e, p1, p2, p3, c) = completes w (part.CaseTest ∷ s) h in (Nothing, l, f, b, k, v, ap (λ x. kind.Case l ∷ x) e, tt, p1, p2, p3, c)
completes (kind.Case l ∷ w) (part.CaseBlock ∷ s) h = let (f, b, k, v, e, p1, p2, p3, c) = completes w (part.CaseTest ∷ s) h in (Nothing, Case l f b k, v, ap (λ x. kind.Case l ∷ x) e, tt, (p1, p2, p3), c)
completes (kind.Catch ∷ w) (part.TryBlock ∷ s) h = let (b, v, e, p1, c) = completes w (part.CatchBlock ∷ s) h in (Nothing, b, v, ap (λ x. kind.Catch ∷ x) e, tt, p1, c)
completes (kind.End ∷ w) (part.Then ∷ s) h = (Nothing, NoElse, w, refl, tt, tt, completes w s h)
completes (kind.End ∷ w) (part.Otherwise ∷ s) h = (Nothing, w, refl, tt, completes w s h)
completes (kind.End ∷ w) (part.LoopBlock ∷ s) h = (Nothing, w, refl, tt, completes w s h)
completes (kind.End ∷ w) (part.CaseBlock ∷ s) h = (Nothing, NoCase, w, refl, tt, tt, completes w s h)
completes (kind.End ∷ w) (part.CatchBlock ∷ s) h = (Nothing, w, refl, tt, completes w s h)
completes (kind.Assert ∷ w) s h = absurd (cc)
completes (kind.Do ∷ w) _ h = absurd (cc)
completes (kind.Elseif ∷ w) _ h = absurd (cc)
completes (kind.Else ∷ w) _ h = absurd (cc)
completes (kind.Case l ∷ w) _ h = absurd (cc)
completes (kind.Catch ∷ w) _ h = absurd (cc)
completes (kind.End ∷ w) _ h = absurd (cc)

pub exact : (w : List Kind) → reads w [] ≡ true ↔ (b : Text) × IsPlaced false b × (spell b [] ≡ w)
exact w = (λ h. let (b, e, p) = completes w [] h in (b, p, e), λ (b, p, e). ap (λ x. reads x []) (sym e) ∙ reads_block b [] [] p)
