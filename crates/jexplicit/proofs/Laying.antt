-- What is prepared of the words of a text is laid as its blocks: by recursion on the text, a lemma for each group.
use Rattle.std.proofs.Common.{ℕ, zero, suc, ◌≡◌, ◌+◌, ◌-◌, List, [], ◌∷◌, Bool, true, false, cond, Option, Some, None, drop, length, slice_get, ◌⊎◌, inl, inr, refl, sym, ap, subst, ◌∙◌, arith}
use Rattle.jcontrol.specs.declared.prepared.Prepared.{Prepared}
use Rattle.jcontrol.specs.declared.prepared.Act.TheVariants as act
use Rattle.jcontrol.specs.Laid.{Around, Laid, LaidCases}
use Rattle.jcontrol.specs.Block.{Block, Cases as CaseBlocks}
use Rattle.jcontrol.specs.Block.Cases.{Case as TakenCase}
use Rattle.jexplicit.specs.declared.kind.Kind.{Kind}
use Rattle.jexplicit.specs.declared.kind.Kind.TheVariants as kind
use Rattle.jexplicit.specs.declared.kind.Looping.TheVariants as looping
use Rattle.jexplicit.specs.declared.spot.Group.TheVariants as group
use Rattle.jexplicit.specs.declared.spot.Inside.{Inside}
use Rattle.jexplicit.specs.declared.spot.Reached.{Reached}
use Rattle.jexplicit.specs.declared.spot.Ahead.{Ahead}
use Rattle.jexplicit.specs.Grammar.{Text, Otherwise, Cases, spell, spell_otherwise, spell_cases, IsPlaced, AreOthersPlaced, AreCasesPlaced}
use Rattle.jexplicit.specs.Grammar.Text.{Nothing, Sentence, If, Loop, Select, Try, Assert, Break, Continue, Leave}
use Rattle.jexplicit.specs.Grammar.Otherwise.{NoElse, Else, Elseif}
use Rattle.jexplicit.specs.Grammar.Cases.{NoCase, Case}
use Rattle.jexplicit.specs.Blocks.{count, count_otherwise, count_cases, block_of, otherwise_of, cases_of, case_of}
use Rattle.jexplicit.specs.Reading.{reads}
use Rattle.jexplicit.specs.Preparing.{round, whole, entered, saved_after, word_of, broken, continued, put, end_of_body, reached_after, start, starts_do, spot_of, spots, Written, written_before, written, prepares}
use Rattle.jexplicit.proofs.Readings.{exact}

abbrev pub is_empty : Text → Bool
is_empty Nothing = true
is_empty _ = false

abbrev pub case_size : Bool → ℕ → ℕ
case_size true n = 0
case_size false n = n + 2

-- how many prepared words there are
abbrev mutual
  pub size : Text → ℕ
  size Nothing = 0
  size (Sentence rest) = 1 + size rest
  size (If test block otherwise rest) = 3 + size test + size block + size_otherwise otherwise + size rest
  size (Loop looping.For test block rest) = 3 + size test + size block + size rest
  size (Loop l test block rest) = 4 + size test + size block + size rest
  size (Select test falls first block cases rest) = 3 + size test + case_size (is_empty first) (size first) + size block + size_cases cases + size rest
  size (Try block caught rest) = 2 + size block + size caught + size rest
  size (Assert rest) = 3 + size rest
  size (Break rest) = 1 + size rest
  size (Continue rest) = 1 + size rest
  size (Leave rest) = 1 + size rest

  pub size_otherwise : Otherwise → ℕ
  size_otherwise NoElse = 0
  size_otherwise (Else block) = size block
  size_otherwise (Elseif test block otherwise) = 3 + size test + size block + size_otherwise otherwise

  pub size_cases : Cases → ℕ
  size_cases NoCase = 0
  size_cases (Case falls test block cases) = 1 + case_size (is_empty test) (size test) + size block + size_cases cases

abbrev pub around : Inside → ℕ → Ahead → Around
around n d f = record { test = n.test; catch = f.catch; loop = f.again; depth = d }

abbrev pub state : ℕ → ℕ → ℕ → Inside → Reached
state i p d n = record { number = i; place = p; depth = d; claim = None; inside = n }

abbrev pub done : List Prepared → Ahead → List Ahead → Written
done xs f t = record { words = xs; ahead = f; saved = t }

-- what is ahead in a group that stands where so much is ahead
abbrev pub ahead : ℕ → ℕ → ℕ → Ahead → Ahead
ahead e l b f = record { exit = e; failed = l; block = b; catch = f.catch; again = f.again; outer = f.outer }

abbrev pub InLoop : Bool → Ahead → Type 0
InLoop inside f = inside ≡ true → (e : ℕ) × (w : Prepared) × (f.again ≡ Some (e, w))

abbrev pub Lays : Text → Type 0
Lays b = (more : List Kind) (i j p q d : ℕ) (n : Inside) (sv : List Inside) (inside : Bool) (xs : List Prepared) (f : Ahead) (t : List Ahead)
    → j ≡ i + count b → q ≡ p + size b → IsPlaced inside b → InLoop inside f → written (spots more (state j q d n) sv) ≡ done xs f t
    → (ys : List Prepared) × (written (spots (spell b more) (state i p d n) sv) ≡ done ys f t)
    × ((ws : List Prepared) → drop p ws ≡ ys → Laid ws (block_of i b) (around n d f) p q × (drop q ws ≡ xs))

-- behind the block of an `if.`, whose last word leads to the group's end
abbrev pub OthersLay : Otherwise → Type 0
OthersLay o = (more : List Kind) (i j p q d : ℕ) (n : Inside) (sv : List Inside) (inside : Bool) (xs : List Prepared) (f : Ahead) (t : List Ahead)
    → j ≡ i + count_otherwise o → q ≡ p + 1 + size_otherwise o → AreOthersPlaced inside o → InLoop inside f → written (spots more (state (j + 1) q d n) sv) ≡ done xs f t
    → (ys : List Prepared) × (written (spots (spell_otherwise o (kind.End ∷ more)) (state i p d (round group.Then n.test n.test)) (n ∷ sv)) ≡ done (word_of f (act.Go q) ∷ ys) (ahead q (p + 1) q f) (f ∷ t))
    × ((ws : List Prepared) → drop (p + 1) ws ≡ ys → Laid ws (otherwise_of i o) (around n d f) (p + 1) q × (drop q ws ≡ xs))

-- behind the block of a case, whose last word leads to the next block or to the group's end
abbrev pub CasesLay : Cases → Type 0
CasesLay c = (more : List Kind) (s : ℕ) (fl : Bool) (i j p q d : ℕ) (n : Inside) (sv : List Inside) (inside : Bool) (xs : List Prepared) (f : Ahead) (t : List Ahead)
    → j ≡ i + count_cases c → q ≡ p + 1 + size_cases c → AreCasesPlaced inside c → InLoop inside f → written (spots more (state (j + 1) q d n) sv) ≡ done xs f t
    → (ys : List Prepared) × (g : ℕ) × (written (spots (spell_cases c (kind.End ∷ more)) (state i p d (round (group.CaseBlock s fl) n.test n.test)) (n ∷ sv)) ≡ done (word_of f (act.Go (cond fl g q)) ∷ ys) (ahead q (p + 1) g f) (f ∷ t))
    × ((ws : List Prepared) → drop (p + 1) ws ≡ ys → LaidCases ws (cases_of i c) (around n d f) s (p + 1) g q × (drop q ws ≡ xs))

-- words from a place on
pub has : (ws : List Prepared) (p : ℕ) (x : Prepared) (xs : List Prepared) → drop p ws ≡ x ∷ xs → slice_get ws p ≡ Some x
has [] zero x xs h = absurd (cc)
has [] (suc p) x xs h = absurd (cc)
has (w ∷ ws) zero x xs h = let e : w ≡ x = cc in ap Some e
has (w ∷ ws) (suc p) x xs h = has ws p x xs h

after_first : (ws : List Prepared) (p : ℕ) (x : Prepared) (xs : List Prepared) → drop p ws ≡ x ∷ xs → drop (suc p) ws ≡ xs
after_first [] zero x xs h = absurd (cc)
after_first [] (suc p) x xs h = absurd (cc)
after_first (w ∷ ws) zero x xs h = cc
after_first (w ∷ ws) (suc p) x xs h = after_first ws p x xs h

pub next : (ws : List Prepared) (p : ℕ) (x : Prepared) (xs : List Prepared) → drop p ws ≡ x ∷ xs → drop (p + 1) ws ≡ xs
next ws p x xs h = let e : suc p ≡ p + 1 = omega arith in subst (λ z. drop z ws ≡ xs) e (after_first ws p x xs h)

length_at : (ws : List Prepared) (p : ℕ) (x : Prepared) → drop p ws ≡ x ∷ [] → length ws ≡ p + 1
length_at [] zero x h = absurd (cc)
length_at [] (suc p) x h = absurd (cc)
length_at (w ∷ ws) zero x h = let e : ws ≡ [] = cc in ap (λ (z : List Prepared). suc (length z)) e
length_at (w ∷ ws) (suc p) x h = let e = length_at ws p x h in omega (arith, e)

-- a word in front of those that are written
step_as : (b : Bool) (k : Kind) (ks : List Kind) (st : Reached) (sv : List Inside) (r : Written) → starts_do ks ≡ b
    → written (spots ks (reached_after (spot_of k b st) sv) (saved_after (entered (spot_of k b st)) st.inside sv)) ≡ r
    → written (spots (k ∷ ks) st sv) ≡ written_before (spot_of k b st) r
step_as b k ks st sv r h e =
    ap (λ (z : Bool). written_before (spot_of k z st) (written (spots ks (reached_after (spot_of k z st) sv) (saved_after (entered (spot_of k z st)) st.inside sv)))) h
    ∙ ap (λ (z : Written). written_before (spot_of k b st) z) e

step : (k : Kind) (ks : List Kind) (st : Reached) (sv : List Inside) (r : Written)
    → written (spots ks (reached_after (spot_of k (starts_do ks) st) sv) (saved_after (entered (spot_of k (starts_do ks) st)) st.inside sv)) ≡ r
    → written (spots (k ∷ ks) st sv) ≡ written_before (spot_of k (starts_do ks) st) r
step k ks st sv r e = ap (λ (z : Written). written_before (spot_of k (starts_do ks) st) z) e

nothing_lays : Lays Nothing
nothing_lays more i j p q d n sv inside xs f t hj hq hp hl e =
    let ej : j ≡ i = omega (arith, hj) in let eq : q ≡ p = omega (arith, hq) in let ep : p ≡ q = omega (arith, hq) in
    let e1 = subst (λ (z : ℕ). written (spots more (state z q d n) sv) ≡ done xs f t) ej e in
    let e2 = subst (λ (z : ℕ). written (spots more (state i z d n) sv) ≡ done xs f t) eq e1 in
    (xs, e2, λ ws h. (ep, subst (λ (z : ℕ). drop z ws ≡ xs) ep h))

sentence_lays : (rest : Text) → Lays rest → Lays (Sentence rest)
sentence_lays rest lr more i j p q d n sv inside xs f t hj hq hp hl e =
    let (ys, er, g) = lr more (i + 1) j (p + 1) q d n sv inside xs f t (omega (arith, hj)) (omega (arith, hq)) hp hl e in
    let w = word_of f (act.Sentence i n.test) in (
      w ∷ ys,
      step kind.Sentence (spell rest more) (state i p d n) sv (done ys f t) er,
      λ ws h. let (l, x) = g ws (next ws p w ys h) in ((has ws p w ys h, l), x),
    )

leave_lays : (rest : Text) → Lays rest → Lays (Leave rest)
leave_lays rest lr more i j p q d n sv inside xs f t hj hq hp hl e =
    let (ys, er, g) = lr more (i + 1) j (p + 1) q d n sv inside xs f t (omega (arith, hj)) (omega (arith, hq)) hp hl e in
    let w = word_of f act.Return in (
      w ∷ ys,
      step kind.Return (spell rest more) (state i p d n) sv (done ys f t) er,
      λ ws h. let (l, x) = g ws (next ws p w ys h) in ((has ws p w ys h, l), x),
    )

break_lays : (rest : Text) → Lays rest → Lays (Break rest)
break_lays rest lr more i j p q d n sv inside xs f t hj hq hp hl e =
    let (ys, er, g) = lr more (i + 1) j (p + 1) q d n sv inside xs f t (omega (arith, hj)) (omega (arith, hq)) hp.1 hl e in
    let (end, again, is) = hl hp.0 in
    let w = word_of f (act.Go end) in (
      w ∷ ys,
      step kind.Break (spell rest more) (state i p d n) sv (done ys f t) er ∙ ap (λ (z : Option (ℕ × Prepared)). done (put (broken f z) ys) f t) is,
      λ ws h. let (l, x) = g ws (next ws p w ys h) in ((end, again, is, has ws p w ys h, l), x),
    )

continue_lays : (rest : Text) → Lays rest → Lays (Continue rest)
continue_lays rest lr more i j p q d n sv inside xs f t hj hq hp hl e =
    let (ys, er, g) = lr more (i + 1) j (p + 1) q d n sv inside xs f t (omega (arith, hj)) (omega (arith, hq)) hp.1 hl e in
    let (end, again, is) = hl hp.0 in (
      again ∷ ys,
      step kind.Continue (spell rest more) (state i p d n) sv (done ys f t) er ∙ ap (λ (z : Option (ℕ × Prepared)). done (put (continued f z) ys) f t) is,
      λ ws h. let (l, x) = g ws (next ws p again ys h) in ((end, again, is, has ws p again ys h, l), x),
    )

assert_lays : (rest : Text) → Lays rest → Lays (Assert rest)
assert_lays rest lr more i j p q d n sv inside xs f t hj hq hp hl e =
    let (ys, er, g) = lr more (i + 1 + 1) j (p + 1 + 1 + 1) q d n sv inside xs f t (omega (arith, hj)) (omega (arith, hq)) hp hl e in
    let u = word_of f (act.TestStart i (p + 1)) in let v = word_of f (act.Sentence (i + 1) (Some i)) in let w = word_of f (act.Assert i) in
    let claim : Reached = record { number = i + 1; place = p + 1; depth = d; claim = Some i; inside = n } in
    let es : written (spots (kind.Sentence ∷ spell rest more) claim sv) ≡ done (v ∷ w ∷ ys) f t = step kind.Sentence (spell rest more) claim sv (done ys f t) er in (
      u ∷ v ∷ w ∷ ys,
      step kind.Assert (kind.Sentence ∷ spell rest more) (state i p d n) sv (done (v ∷ w ∷ ys) f t) es,
      λ ws h.
          let h1 = next ws p u (v ∷ w ∷ ys) h in let h2 = next ws (p + 1) v (w ∷ ys) h1 in
          let (l, x) = g ws (next ws (p + 1 + 1) w ys h2) in
          ((p + 1 + 1, has ws p u (v ∷ w ∷ ys) h, (has ws (p + 1) v (w ∷ ys) h1, refl), has ws (p + 1 + 1) w ys h2, l), x),
    )

if_lays : (test block : Text) (o : Otherwise) (rest : Text) → Lays test → Lays block → OthersLay o → Lays rest → Lays (If test block o rest)
if_lays test block o rest lt lb lo lr more i j p q d n sv inside xs f t hj hq (p1, p2, p3, p4) hl e =
    let i1 = i + 1 + count test in let i2 = i1 + 1 + count block in let i3 = i2 + count_otherwise o in
    let q1 = p + 1 + size test in let q2 = q1 + 1 + size block in let q3 = q2 + 1 + size_otherwise o in
    let n1 = round (group.IfTest i) (Some i) n.test in let n2 = round group.Then n.test n.test in let f2 = ahead q3 (q2 + 1) q3 f in
    let a = word_of f (act.TestStart i (p + 1)) in let b = word_of f (act.Test i (q2 + 1)) in let c = word_of f (act.Go q3) in
    let (ys4, e4, g4) = lr more (i3 + 1) j q3 q d n sv inside xs f t (omega (arith, hj)) (omega (arith, hq)) p4 hl e in
    let (ys3, e3, g3) = lo (spell rest more) i2 i3 q2 q3 d n sv inside ys4 f t refl refl p3 hl e4 in
    let k2 = spell_otherwise o (kind.End ∷ spell rest more) in
    let (ys2, e2, g2) = lb k2 (i1 + 1) i2 (q1 + 1) q2 d n2 (n ∷ sv) inside (c ∷ ys3) f2 (f ∷ t) refl refl p2 hl e3 in
    let k1 = spell block k2 in
    let (ys1, e1, g1) = lt (kind.Do ∷ k1) (i + 1) i1 (p + 1) q1 d n1 (n ∷ sv) inside (b ∷ ys2) f2 (f ∷ t) refl refl p1 hl (step kind.Do k1 (state i1 q1 d n1) (n ∷ sv) (done ys2 f2 (f ∷ t)) e2) in (
      a ∷ ys1,
      step kind.If (spell test (kind.Do ∷ k1)) (state i p d n) sv (done ys1 f2 (f ∷ t)) e1,
      λ ws h.
          let (l1, h1) = g1 ws (next ws p a ys1 h) in
          let (l2, h2) = g2 ws (next ws q1 b ys2 h1) in
          let (l3, h3) = g3 ws (next ws q2 c ys3 h2) in
          let (l4, h4) = g4 ws h3 in
          ((q1, q2, q3, has ws p a ys1 h, l1, has ws q1 b ys2 h1, l2, has ws q2 c ys3 h2, l3, l4), h4),
    )

no_else_lays : OthersLay NoElse
no_else_lays more i j p q d n sv inside xs f t hj hq hp hl e =
    let ej : j ≡ i = omega (arith, hj) in let eq : q ≡ p + 1 = omega (arith, hq) in let ep : p + 1 ≡ q = omega (arith, hq) in
    let e1 = subst (λ (z : ℕ). written (spots more (state (z + 1) q d n) sv) ≡ done xs f t) ej e in
    let e2 = subst (λ (z : ℕ). written (spots more (state (i + 1) z d n) sv) ≡ done xs f t) eq e1 in
    let n2 = round group.Then n.test n.test in
    let made : written (spots (kind.End ∷ more) (state i p d n2) (n ∷ sv)) ≡ done (word_of f (act.Go (p + 1)) ∷ xs) (ahead (p + 1) (p + 1) (p + 1) f) (f ∷ t) = step kind.End more (state i p d n2) (n ∷ sv) (done xs f t) e2 in (
      xs,
      subst (λ (z : ℕ). written (spots (kind.End ∷ more) (state i p d n2) (n ∷ sv)) ≡ done (word_of f (act.Go z) ∷ xs) (ahead z (p + 1) z f) (f ∷ t)) ep made,
      λ ws h. (ep, subst (λ (z : ℕ). drop z ws ≡ xs) ep h),
    )

else_lays : (block : Text) → Lays block → OthersLay (Else block)
else_lays block lb more i j p q d n sv inside xs f t hj hq hp hl e =
    let n2 = round group.Then n.test n.test in let n3 = round group.Otherwise n.test n.test in let f2 = ahead q q q f in
    let made : written (spots (kind.End ∷ more) (state j q d n3) (n ∷ sv)) ≡ done xs f2 (f ∷ t) = step kind.End more (state j q d n3) (n ∷ sv) (done xs f t) e in
    let (ys, e1, g) = lb (kind.End ∷ more) (i + 1) j (p + 1) q d n3 (n ∷ sv) inside xs f2 (f ∷ t) (omega (arith, hj)) hq hp hl made in
    (ys, step kind.Else (spell block (kind.End ∷ more)) (state i p d n2) (n ∷ sv) (done ys f2 (f ∷ t)) e1, g)

elseif_lays : (test block : Text) (o : Otherwise) → Lays test → Lays block → OthersLay o → OthersLay (Elseif test block o)
elseif_lays test block o lt lb lo more i j p q d n sv inside xs f t hj hq (p1, p2, p3) hl e =
    let i1 = i + 1 + count test in let i2 = i1 + 1 + count block in
    let q1 = p + 1 + 1 + size test in let q2 = q1 + 1 + size block in
    let n1 = round (group.IfTest i) (Some i) n.test in let n2 = round group.Then n.test n.test in let f2 = ahead q (q2 + 1) q f in
    let a = word_of f (act.TestStart i (p + 1 + 1)) in let b = word_of f (act.Test i (q2 + 1)) in let c = word_of f (act.Go q) in
    let (ys3, e3, g3) = lo more i2 j q2 q d n sv inside xs f t (omega (arith, hj)) (omega (arith, hq)) p3 hl e in
    let k2 = spell_otherwise o (kind.End ∷ more) in
    let (ys2, e2, g2) = lb k2 (i1 + 1) i2 (q1 + 1) q2 d n2 (n ∷ sv) inside (c ∷ ys3) f2 (f ∷ t) refl refl p2 hl e3 in
    let k1 = spell block k2 in
    let (ys1, e1, g1) = lt (kind.Do ∷ k1) (i + 1) i1 (p + 1 + 1) q1 d n1 (n ∷ sv) inside (b ∷ ys2) f2 (f ∷ t) refl refl p1 hl (step kind.Do k1 (state i1 q1 d n1) (n ∷ sv) (done ys2 f2 (f ∷ t)) e2) in (
      a ∷ ys1,
      step kind.Elseif (spell test (kind.Do ∷ k1)) (state i p d n2) (n ∷ sv) (done ys1 f2 (f ∷ t)) e1,
      λ ws h.
          let (l1, h1) = g1 ws (next ws (p + 1) a ys1 h) in
          let (l2, h2) = g2 ws (next ws q1 b ys2 h1) in
          let (l3, h3) = g3 ws (next ws q2 c ys3 h2) in
          ((q1, q2, q, has ws (p + 1) a ys1 h, l1, has ws q1 b ys2 h1, l2, has ws q2 c ys3 h2, l3, refl), h3),
    )

while_lays : (test block rest : Text) → Lays test → Lays block → Lays rest → Lays (Loop looping.While test block rest)
while_lays test block rest lt lb lr more i j p q d n sv inside xs f t hj hq (p1, p2, p3) hl e =
    let i1 = i + 1 + count test in let i2 = i1 + 1 + count block in
    let q1 = p + 1 + size test in let q2 = q1 + 1 + 1 + size block in
    let n1 = round (group.LoopTest looping.While i (p + 1)) (Some i) n.test in let n2 = round (group.LoopBlock looping.While i (p + 1) d) n.test n.test in
    let a = word_of f (act.TestStart i (p + 1)) in let b = word_of f (act.Test i (q2 + 1)) in let c = word_of f (act.Round i) in
    let f2 : Ahead = record { exit = q2 + 1; failed = q2 + 1; block = q2 + 1; catch = f.catch; again = Some (q2 + 1, a); outer = f.again } in
    let f1 : Ahead = record { exit = q2 + 1; failed = q2 + 1; block = q1 + 1; catch = f.catch; again = f.again; outer = f.again } in
    let (ys4, e4, g4) = lr more (i2 + 1) j (q2 + 1) q d n sv inside xs f t (omega (arith, hj)) (omega (arith, hq)) p3 hl e in
    let k2 = kind.End ∷ spell rest more in
    let (ys2, e2, g2) = lb k2 (i1 + 1) i2 (q1 + 1 + 1) q2 d n2 (n ∷ sv) true (a ∷ ys4) f2 (f ∷ t) refl refl p2 (λ z. (q2 + 1, a, refl)) (step kind.End (spell rest more) (state i2 q2 d n2) (n ∷ sv) (done ys4 f t) e4) in
    let k1 = spell block k2 in
    let (ys1, e1, g1) = lt (kind.Do ∷ k1) (i + 1) i1 (p + 1) q1 d n1 (n ∷ sv) inside (b ∷ c ∷ ys2) f1 (f ∷ t) refl refl p1 hl (step kind.Do k1 (state i1 q1 d n1) (n ∷ sv) (done ys2 f2 (f ∷ t)) e2) in (
      a ∷ ys1,
      step (kind.Loop looping.While) (spell test (kind.Do ∷ k1)) (state i p d n) sv (done ys1 f1 (f ∷ t)) e1,
      λ ws h.
          let (l1, h1) = g1 ws (next ws p a ys1 h) in
          let h2 = next ws q1 b (c ∷ ys2) h1 in
          let (l2, h3) = g2 ws (next ws (q1 + 1) c ys2 h2) in
          let (l4, h4) = g4 ws (next ws q2 a ys4 h3) in
          ((q1, q2, has ws p a ys1 h, l1, has ws q1 b (c ∷ ys2) h1, has ws (q1 + 1) c ys2 h2, l2, has ws q2 a ys4 h3, l4), h4),
    )

whilst_lays : (test block rest : Text) → Lays test → Lays block → Lays rest → Lays (Loop looping.Whilst test block rest)
whilst_lays test block rest lt lb lr more i j p q d n sv inside xs f t hj hq (p1, p2, p3) hl e =
    let i1 = i + 1 + count test in let i2 = i1 + 1 + count block in
    let q1 = p + 1 + size test in let q2 = q1 + 1 + 1 + size block in
    let n1 = round (group.LoopTest looping.Whilst i (p + 1)) (Some i) n.test in let n2 = round (group.LoopBlock looping.Whilst i (p + 1) d) n.test n.test in
    let s = word_of f (act.Go (q1 + 1)) in let a = word_of f (act.TestStart i (p + 1)) in let b = word_of f (act.Test i (q2 + 1)) in let c = word_of f (act.Round i) in
    let f2 : Ahead = record { exit = q2 + 1; failed = q2 + 1; block = q2 + 1; catch = f.catch; again = Some (q2 + 1, a); outer = f.again } in
    let f1 : Ahead = record { exit = q2 + 1; failed = q2 + 1; block = q1 + 1; catch = f.catch; again = f.again; outer = f.again } in
    let (ys4, e4, g4) = lr more (i2 + 1) j (q2 + 1) q d n sv inside xs f t (omega (arith, hj)) (omega (arith, hq)) p3 hl e in
    let k2 = kind.End ∷ spell rest more in
    let (ys2, e2, g2) = lb k2 (i1 + 1) i2 (q1 + 1 + 1) q2 d n2 (n ∷ sv) true (a ∷ ys4) f2 (f ∷ t) refl refl p2 (λ z. (q2 + 1, a, refl)) (step kind.End (spell rest more) (state i2 q2 d n2) (n ∷ sv) (done ys4 f t) e4) in
    let k1 = spell block k2 in
    let (ys1, e1, g1) = lt (kind.Do ∷ k1) (i + 1) i1 (p + 1) q1 d n1 (n ∷ sv) inside (b ∷ c ∷ ys2) f1 (f ∷ t) refl refl p1 hl (step kind.Do k1 (state i1 q1 d n1) (n ∷ sv) (done ys2 f2 (f ∷ t)) e2) in (
      s ∷ ys1,
      step (kind.Loop looping.Whilst) (spell test (kind.Do ∷ k1)) (state i p d n) sv (done ys1 f1 (f ∷ t)) e1,
      λ ws h.
          let (l1, h1) = g1 ws (next ws p s ys1 h) in
          let h2 = next ws q1 b (c ∷ ys2) h1 in
          let (l2, h3) = g2 ws (next ws (q1 + 1) c ys2 h2) in
          let (l4, h4) = g4 ws (next ws q2 a ys4 h3) in
          ((q1, q2, has ws p s ys1 h, l1, has ws q1 b (c ∷ ys2) h1, has ws (q1 + 1) c ys2 h2, l2, has ws q2 a ys4 h3, l4), h4),
    )

for_lays : (test block rest : Text) → Lays test → Lays block → Lays rest → Lays (Loop looping.For test block rest)
for_lays test block rest lt lb lr more i j p q d n sv inside xs f t hj hq (p1, p2, p3) hl e =
    let i1 = i + 1 + count test in let i2 = i1 + 1 + count block in
    let q1 = p + 1 + size test in let q2 = q1 + 1 + size block in
    let n1 = round (group.LoopTest looping.For i (p + 1)) (Some i) n.test in let n2 = round (group.LoopBlock looping.For i (q1 + 1) d) n.test n.test in
    let s = word_of f (act.TestStart i (p + 1)) in let a = word_of f (act.Next i d (q1 + 1) (q2 + 1)) in let b = word_of f (act.First i d (q2 + 1)) in
    let f2 : Ahead = record { exit = q2 + 1; failed = q2 + 1; block = q2 + 1; catch = f.catch; again = Some (q2 + 1, a); outer = f.again } in
    let f1 : Ahead = record { exit = q2 + 1; failed = q2 + 1; block = q1 + 1; catch = f.catch; again = f.again; outer = f.again } in
    let (ys4, e4, g4) = lr more (i2 + 1) j (q2 + 1) q d n sv inside xs f t (omega (arith, hj)) (omega (arith, hq)) p3 hl e in
    let ed : d ≡ d + 1 - 1 = omega arith in
    let e5 = subst (λ (z : ℕ). written (spots (spell rest more) (state (i2 + 1) (q2 + 1) z n) sv) ≡ done ys4 f t) ed e4 in
    let k2 = kind.End ∷ spell rest more in
    let (ys2, e2, g2) = lb k2 (i1 + 1) i2 (q1 + 1) q2 (d + 1) n2 (n ∷ sv) true (a ∷ ys4) f2 (f ∷ t) refl refl p2 (λ z. (q2 + 1, a, refl)) (step kind.End (spell rest more) (state i2 q2 (d + 1) n2) (n ∷ sv) (done ys4 f t) e5) in
    let k1 = spell block k2 in
    let (ys1, e1, g1) = lt (kind.Do ∷ k1) (i + 1) i1 (p + 1) q1 d n1 (n ∷ sv) inside (b ∷ ys2) f1 (f ∷ t) refl refl p1 hl (step kind.Do k1 (state i1 q1 d n1) (n ∷ sv) (done ys2 f2 (f ∷ t)) e2) in (
      s ∷ ys1,
      step (kind.Loop looping.For) (spell test (kind.Do ∷ k1)) (state i p d n) sv (done ys1 f1 (f ∷ t)) e1,
      λ ws h.
          let (l1, h1) = g1 ws (next ws p s ys1 h) in
          let (l2, h3) = g2 ws (next ws q1 b ys2 h1) in
          let (l4, h4) = g4 ws (next ws q2 a ys4 h3) in
          ((q1, q2, has ws p s ys1 h, l1, has ws q1 b ys2 h1, l2, has ws q2 a ys4 h3, l4), h4),
    )

try_lays : (block caught rest : Text) → Lays block → Lays caught → Lays rest → Lays (Try block caught rest)
try_lays block caught rest lb lc lr more i j p q d n sv inside xs f t hj hq (p1, p2, p3) hl e =
    let i1 = i + 1 + count block in let i2 = i1 + 1 + count caught in
    let q1 = p + size block in let q2 = q1 + 1 + 1 + size caught in
    let n1 = round group.TryBlock n.test n.test in let n2 = round group.CatchBlock n.test n.test in
    let a = word_of f (act.Go q2) in let b = word_of f (act.Go (q1 + 1 + 1)) in
    let f2 = ahead q2 q2 q2 f in
    let f1 : Ahead = record { exit = q2; failed = q2; block = q2; catch = Some (q1 + 1); again = f.again; outer = f.outer } in
    let (ys4, e4, g4) = lr more (i2 + 1) j q2 q d n sv inside xs f t (omega (arith, hj)) (omega (arith, hq)) p3 hl e in
    let k2 = kind.End ∷ spell rest more in
    let (ys2, e2, g2) = lc k2 (i1 + 1) i2 (q1 + 1 + 1) q2 d n2 (n ∷ sv) inside ys4 f2 (f ∷ t) refl refl p2 hl (step kind.End (spell rest more) (state i2 q2 d n2) (n ∷ sv) (done ys4 f t) e4) in
    let k1 = spell caught k2 in
    let (ys1, e1, g1) = lb (kind.Catch ∷ k1) (i + 1) i1 p q1 d n1 (n ∷ sv) inside (a ∷ b ∷ ys2) f1 (f ∷ t) refl refl p1 hl (step kind.Catch k1 (state i1 q1 d n1) (n ∷ sv) (done ys2 f2 (f ∷ t)) e2) in (
      ys1,
      step kind.Try (spell block (kind.Catch ∷ k1)) (state i p d n) sv (done ys1 f1 (f ∷ t)) e1,
      λ ws h.
          let (l1, h1) = g1 ws h in
          let h2 = next ws q1 a (b ∷ ys2) h1 in
          let (l2, h3) = g2 ws (next ws (q1 + 1) b ys2 h2) in
          let (l4, h4) = g4 ws h3 in
          ((q1, q2, l1, has ws q1 a (b ∷ ys2) h1, has ws (q1 + 1) b ys2 h2, l2, l4), h4),
    )

-- behind the word of a case, with an empty test or another
abbrev behind_case : Bool → ℕ → ℕ
behind_case true p = p + 1
behind_case false p = p + 1 + 1

abbrev opened : Bool → Ahead → ℕ → ℕ → List Prepared → List Prepared
opened true f i p ys = ys
opened false f i p ys = word_of f (act.TestStart i (p + 1 + 1)) ∷ ys

-- from a case's test on; the word of the case stands at place p
abbrev CaseLays : Text → Text → Cases → Type 0
CaseLays test block cases = (more : List Kind) (s : ℕ) (falls : Bool) (i j p q d : ℕ) (n : Inside) (sv : List Inside) (inside : Bool) (xs : List Prepared) (f : Ahead) (t : List Ahead)
    → j ≡ i + 1 + count test + 1 + count block + count_cases cases → q ≡ p + 2 + case_size (is_empty test) (size test) + size block + size_cases cases
    → IsPlaced inside test → IsPlaced inside block → AreCasesPlaced inside cases → InLoop inside f → written (spots more (state (j + 1) q d n) sv) ≡ done xs f t
    → (b : Bool) × (ys : List Prepared) × (l g : ℕ) × (starts_do (spell test (kind.Do ∷ spell block (spell_cases cases (kind.End ∷ more)))) ≡ b)
    × (written (spots (spell test (kind.Do ∷ spell block (spell_cases cases (kind.End ∷ more)))) (state (i + 1) (behind_case b p) d (round (group.CaseTest s i falls b) (Some i) n.test)) (n ∷ sv)) ≡ done ys (ahead q l g f) (f ∷ t))
    × ((ws : List Prepared) → drop (p + 1) ws ≡ opened b f i p ys
    → LaidCases ws (case_of test i (block_of (i + 1) test) (block_of (i + 1 + count test + 1) block) falls (cases_of (i + 1 + count test + 1 + count block) cases)) (around n d f) s (p + 1) g q × (drop q ws ≡ xs))

is_taken : (test : Text) → is_empty test ≡ false → (w : ℕ) (x y : Block) (falls : Bool) (more : CaseBlocks) → TakenCase w x y falls more ≡ case_of test w x y falls more
is_taken Nothing h w x y falls more = absurd (cc)
is_taken (Sentence a) h w x y falls more = refl
is_taken (If a b c e) h w x y falls more = refl
is_taken (Loop l a b c) h w x y falls more = refl
is_taken (Select a b c e g k) h w x y falls more = refl
is_taken (Try a b c) h w x y falls more = refl
is_taken (Assert a) h w x y falls more = refl
is_taken (Break a) h w x y falls more = refl
is_taken (Continue a) h w x y falls more = refl
is_taken (Leave a) h w x y falls more = refl

starts_no_do : (test : Text) → is_empty test ≡ false → (ks : List Kind) → starts_do (spell test ks) ≡ false
starts_no_do Nothing h ks = absurd (cc)
starts_no_do (Sentence a) h ks = refl
starts_no_do (If a b c e) h ks = refl
starts_no_do (Loop l a b c) h ks = refl
starts_no_do (Select a b c e g k) h ks = refl
starts_no_do (Try a b c) h ks = refl
starts_no_do (Assert a) h ks = refl
starts_no_do (Break a) h ks = refl
starts_no_do (Continue a) h ks = refl
starts_no_do (Leave a) h ks = refl

empty_or : (test : Text) → (Nothing ≡ test) ⊎ (is_empty test ≡ false)
empty_or Nothing = inl refl
empty_or (Sentence a) = inr refl
empty_or (If a b c e) = inr refl
empty_or (Loop l a b c) = inr refl
empty_or (Select a b c e g k) = inr refl
empty_or (Try a b c) = inr refl
empty_or (Assert a) = inr refl
empty_or (Break a) = inr refl
empty_or (Continue a) = inr refl
empty_or (Leave a) = inr refl

taken_case : (test block : Text) (cases : Cases) → is_empty test ≡ false → Lays test → Lays block → CasesLay cases → CaseLays test block cases
taken_case test block cases ne lt lb lc more s falls i j p q d n sv inside xs f t hj hq p1 p2 p3 hl e =
    let i1 = i + 1 + count test in let i2 = i1 + 1 + count block in
    let q1 = p + 1 + 1 + size test in let q2 = q1 + 1 + size block in
    let es : case_size (is_empty test) (size test) ≡ size test + 2 = ap (λ (z : Bool). case_size z (size test)) ne in
    let n1 = round (group.CaseTest s i falls false) (Some i) n.test in let n2 = round (group.CaseBlock s falls) n.test n.test in
    let (ys3, g, e3, g3) = lc more s falls i2 j q2 q d n sv inside xs f t hj (omega (arith, hq, es)) p3 hl e in
    let a = word_of f (act.TestStart i (p + 1 + 1)) in let b = word_of f (act.Case i s (q2 + 1)) in let c = word_of f (act.Go (cond falls g q)) in
    let f2 = ahead q (q2 + 1) g f in let f1 = ahead q (q2 + 1) (q1 + 1) f in
    let k2 = spell_cases cases (kind.End ∷ more) in
    let (ys2, e2, g2) = lb k2 (i1 + 1) i2 (q1 + 1) q2 d n2 (n ∷ sv) inside (c ∷ ys3) f2 (f ∷ t) refl refl p2 hl e3 in
    let k1 = spell block k2 in
    let (ys1, e1, g1) = lt (kind.Do ∷ k1) (i + 1) i1 (p + 1 + 1) q1 d n1 (n ∷ sv) inside (b ∷ ys2) f1 (f ∷ t) refl refl p1 hl (step kind.Do k1 (state i1 q1 d n1) (n ∷ sv) (done ys2 f2 (f ∷ t)) e2) in (
      false,
      ys1,
      q2 + 1,
      q1 + 1,
      starts_no_do test ne (kind.Do ∷ k1),
      e1,
      λ ws h.
          let (l1, h1) = g1 ws (next ws (p + 1) a ys1 h) in
          let (l2, h2) = g2 ws (next ws q1 b ys2 h1) in
          let (l3, h3) = g3 ws (next ws q2 c ys3 h2) in
          let laid : LaidCases ws (TakenCase i (block_of (i + 1) test) (block_of (i1 + 1) block) falls (cases_of i2 cases)) (around n d f) s (p + 1) (q1 + 1) q
          = (q1, q2, g, has ws (p + 1) a ys1 h, l1, has ws q1 b ys2 h1, refl, l2, has ws q2 c ys3 h2, l3) in
          (subst (λ (z : CaseBlocks). LaidCases ws z (around n d f) s (p + 1) (q1 + 1) q) (is_taken test ne i (block_of (i + 1) test) (block_of (i1 + 1) block) falls (cases_of i2 cases)) laid, h3),
    )

-- a case with an empty test
empty_case : (block : Text) (cases : Cases) → Lays block → CasesLay cases → CaseLays Nothing block cases
empty_case block cases lb lc more s falls i j p q d n sv inside xs f t hj hq p1 p2 p3 hl e =
    let i1 = i + 1 + 0 in let i2 = i1 + 1 + count block in
    let q2 = p + 1 + size block in
    let n1 = round (group.CaseTest s i falls true) (Some i) n.test in let n2 = round (group.CaseBlock s falls) n.test n.test in
    let (ys3, g, e3, g3) = lc more s falls i2 j q2 q d n sv inside xs f t hj (omega (arith, hq)) p3 hl e in
    let c = word_of f (act.Go (cond falls g q)) in
    let f2 = ahead q (q2 + 1) g f in let f1 = ahead q (q2 + 1) (p + 1) f in
    let k2 = spell_cases cases (kind.End ∷ more) in
    let (ys2, e2, g2) = lb k2 (i1 + 1) i2 (p + 1) q2 d n2 (n ∷ sv) inside (c ∷ ys3) f2 (f ∷ t) refl refl p2 hl e3 in
    let k1 = spell block k2 in
    let made : written (spots (kind.Do ∷ k1) (state i1 (p + 1) d n1) (n ∷ sv)) ≡ done ys2 f1 (f ∷ t) = step kind.Do k1 (state i1 (p + 1) d n1) (n ∷ sv) (done ys2 f2 (f ∷ t)) e2 in
    let ei : i1 ≡ i + 1 = omega arith in (
      true,
      ys2,
      q2 + 1,
      p + 1,
      refl,
      subst (λ (z : ℕ). written (spots (kind.Do ∷ k1) (state z (p + 1) d n1) (n ∷ sv)) ≡ done ys2 f1 (f ∷ t)) ei made,
      λ ws h.
          let (l2, h2) = g2 ws h in
          let (l3, h3) = g3 ws (next ws q2 c ys3 h2) in
          ((q2, g, refl, l2, has ws q2 c ys3 h2, l3), h3),
    )

case_lays : (test block : Text) (cases : Cases) → Lays test → Lays block → CasesLay cases → CaseLays test block cases
case_lays test block cases lt lb lc = elim (empty_or test) [
  | inl e ↦ subst (λ (z : Text). CaseLays z block cases) e (empty_case block cases lb lc)
  | inr e ↦ taken_case test block cases e lt lb lc
]

-- the word of the next case, and that of the first one
next_case : (b falls fl : Bool) (ks : List Kind) (s i p d : ℕ) (n : Inside) (sv : List Inside) (ys : List Prepared) (q l g : ℕ) (f : Ahead) (t : List Ahead) → starts_do ks ≡ b
    → written (spots ks (state (i + 1) (behind_case b p) d (round (group.CaseTest s i falls b) (Some i) n.test)) (n ∷ sv)) ≡ done ys (ahead q l g f) (f ∷ t)
    → written (spots (kind.Case falls ∷ ks) (state i p d (round (group.CaseBlock s fl) n.test n.test)) (n ∷ sv)) ≡ done (word_of f (act.Go (cond fl g q)) ∷ opened b f i p ys) (ahead q (p + 1) g f) (f ∷ t)
next_case true falls fl ks s i p d n sv ys q l g f t h e = step_as true (kind.Case falls) ks (state i p d (round (group.CaseBlock s fl) n.test n.test)) (n ∷ sv) (done ys (ahead q l g f) (f ∷ t)) h e
next_case false falls fl ks s i p d n sv ys q l g f t h e = step_as false (kind.Case falls) ks (state i p d (round (group.CaseBlock s fl) n.test n.test)) (n ∷ sv) (done ys (ahead q l g f) (f ∷ t)) h e

first_case : (b falls : Bool) (ks : List Kind) (s i p d : ℕ) (n : Inside) (sv : List Inside) (ys : List Prepared) (q l g : ℕ) (f : Ahead) (t : List Ahead) → starts_do ks ≡ b
    → written (spots ks (state (i + 1) (behind_case b p) d (round (group.CaseTest s i falls b) (Some i) n.test)) (n ∷ sv)) ≡ done ys (ahead q l g f) (f ∷ t)
    → written (spots (kind.Case falls ∷ ks) (state i p d (round (group.SelectTest s) (Some s) n.test)) (n ∷ sv)) ≡ done (word_of f (act.Select s) ∷ opened b f i p ys) (ahead q l g f) (f ∷ t)
first_case true falls ks s i p d n sv ys q l g f t h e = step_as true (kind.Case falls) ks (state i p d (round (group.SelectTest s) (Some s) n.test)) (n ∷ sv) (done ys (ahead q l g f) (f ∷ t)) h e
first_case false falls ks s i p d n sv ys q l g f t h e = step_as false (kind.Case falls) ks (state i p d (round (group.SelectTest s) (Some s) n.test)) (n ∷ sv) (done ys (ahead q l g f) (f ∷ t)) h e

no_case_lays : CasesLay NoCase
no_case_lays more s fl i j p q d n sv inside xs f t hj hq hp hl e =
    let ej : j ≡ i = omega (arith, hj) in let eq : q ≡ p + 1 = omega (arith, hq) in let ep : p + 1 ≡ q = omega (arith, hq) in
    let e1 = subst (λ (z : ℕ). written (spots more (state (z + 1) q d n) sv) ≡ done xs f t) ej e in
    let e2 = subst (λ (z : ℕ). written (spots more (state (i + 1) z d n) sv) ≡ done xs f t) eq e1 in
    let n2 = round (group.CaseBlock s fl) n.test n.test in
    let made : written (spots (kind.End ∷ more) (state i p d n2) (n ∷ sv)) ≡ done (word_of f (act.Go (p + 1)) ∷ xs) (ahead (p + 1) (p + 1) (p + 1) f) (f ∷ t) = step kind.End more (state i p d n2) (n ∷ sv) (done xs f t) e2 in
    let same : (z : ℕ) → z ≡ cond fl z z = λ z. elim fl as (λ x. z ≡ cond x z z) [ true ↦ refl | false ↦ refl ] in
    let chosen = subst (λ (z : ℕ). written (spots (kind.End ∷ more) (state i p d n2) (n ∷ sv)) ≡ done (word_of f (act.Go z) ∷ xs) (ahead (p + 1) (p + 1) (p + 1) f) (f ∷ t)) (same (p + 1)) made in (
      xs,
      q,
      subst (λ (z : ℕ). written (spots (kind.End ∷ more) (state i p d n2) (n ∷ sv)) ≡ done (word_of f (act.Go (cond fl z z)) ∷ xs) (ahead z (p + 1) z f) (f ∷ t)) ep chosen,
      λ ws h. ((ep, refl), subst (λ (z : ℕ). drop z ws ≡ xs) ep h),
    )

more_cases_lay : (falls : Bool) (test block : Text) (cases : Cases) → CaseLays test block cases → CasesLay (Case falls test block cases)
more_cases_lay falls test block cases lc more s fl i j p q d n sv inside xs f t hj hq (p1, p2, p3) hl e =
    let (b, ys, l, g, starts, e1, g1) = lc more s falls i j p q d n sv inside xs f t (omega (arith, hj)) (omega (arith, hq)) p1 p2 p3 hl e in
    let k1 = spell test (kind.Do ∷ spell block (spell_cases cases (kind.End ∷ more))) in
    (opened b f i p ys, g, next_case b falls fl k1 s i p d n sv ys q l g f t starts e1, g1)

select_lays : (test : Text) (falls : Bool) (first block : Text) (cases : Cases) (rest : Text) → Lays test → CaseLays first block cases → Lays rest → Lays (Select test falls first block cases rest)
select_lays test falls first block cases rest lt lc lr more i j p q d n sv inside xs f t hj hq (p1, p2, p3, p4, p5) hl e =
    let i1 = i + 1 + count test in let i3 = i1 + 1 + count first + 1 + count block + count_cases cases in
    let q1 = p + 1 + size test in let q3 = q1 + 2 + case_size (is_empty first) (size first) + size block + size_cases cases in
    let n1 = round (group.SelectTest i) (Some i) n.test in
    let a = word_of f (act.TestStart i (p + 1)) in let c = word_of f (act.Select i) in
    let (ys4, e4, g4) = lr more (i3 + 1) j q3 q d n sv inside xs f t (omega (arith, hj)) (omega (arith, hq)) p5 hl e in
    let (b, ys2, l, g, starts, e2, g2) = lc (spell rest more) i falls i1 i3 q1 q3 d n sv inside ys4 f t refl refl p2 p3 p4 hl e4 in
    let k1 = spell first (kind.Do ∷ spell block (spell_cases cases (kind.End ∷ spell rest more))) in
    let all = opened b f i1 q1 ys2 in
    let f1 = ahead q3 l g f in
    let (ys1, e1, g1) = lt (kind.Case falls ∷ k1) (i + 1) i1 (p + 1) q1 d n1 (n ∷ sv) inside (c ∷ all) f1 (f ∷ t) refl refl p1 hl (first_case b falls k1 i i1 q1 d n sv ys2 q3 l g f t starts e2) in (
      a ∷ ys1,
      step kind.Select (spell test (kind.Case falls ∷ k1)) (state i p d n) sv (done ys1 f1 (f ∷ t)) e1,
      λ ws h.
          let (l1, h1) = g1 ws (next ws p a ys1 h) in
          let (l2, h2) = g2 ws (next ws q1 c all h1) in
          let (l4, h4) = g4 ws h2 in
          ((q1, g, q3, has ws p a ys1 h, l1, has ws q1 c all h1, l2, l4), h4),
    )

mutual
  pub lays : (b : Text) → Lays b
  lays Nothing = nothing_lays
  lays (Sentence rest) = sentence_lays rest (lays rest)
  lays (If test block otherwise rest) = if_lays test block otherwise rest (lays test) (lays block) (others_lay otherwise) (lays rest)
  lays (Loop looping.While test block rest) = while_lays test block rest (lays test) (lays block) (lays rest)
  lays (Loop looping.Whilst test block rest) = whilst_lays test block rest (lays test) (lays block) (lays rest)
  lays (Loop looping.For test block rest) = for_lays test block rest (lays test) (lays block) (lays rest)
  lays (Select test falls first block cases rest) = select_lays test falls first block cases rest (lays test) (case_lays first block cases (lays first) (lays block) (cases_lay cases)) (lays rest)
  lays (Try block caught rest) = try_lays block caught rest (lays block) (lays caught) (lays rest)
  lays (Assert rest) = assert_lays rest (lays rest)
  lays (Break rest) = break_lays rest (lays rest)
  lays (Continue rest) = continue_lays rest (lays rest)
  lays (Leave rest) = leave_lays rest (lays rest)

  others_lay : (o : Otherwise) → OthersLay o
  others_lay NoElse = no_else_lays
  others_lay (Else block) = else_lays block (lays block)
  others_lay (Elseif test block otherwise) = elseif_lays test block otherwise (lays test) (lays block) (others_lay otherwise)

  cases_lay : (c : Cases) → CasesLay c
  cases_lay NoCase = no_case_lays
  cases_lay (Case falls test block cases) = more_cases_lay falls test block cases (case_lays test block cases (lays test) (lays block) (cases_lay cases))

-- the whole body, whose last prepared word is at place q
pub agrees : (i : ℕ) (kinds : List Kind) → reads kinds [] ≡ true → (text : Text) × (q : ℕ) × IsPlaced false text × (spell text [] ≡ kinds) × (length (prepares i kinds) ≡ q + 1)
    × (slice_get (prepares i kinds) 0 ≡ Some (word_of end_of_body (act.Go 1))) × Laid (prepares i kinds) (block_of i text) (around whole 0 end_of_body) 1 q
    × (slice_get (prepares i kinds) q ≡ Some (word_of end_of_body act.Return))
agrees i kinds h =
    let (text, placed, spelled) = (exact kinds).0 h in
    let q = 1 + size text in let last = word_of end_of_body act.Return in
    let (ys, e, g) = lays text [] i (i + count text) 1 q 0 whole [] false (last ∷ []) end_of_body [] refl refl placed (λ z. absurd (cc)) refl in
    let es : written (spots kinds (start i) []) ≡ done ys end_of_body [] = subst (λ (z : List Kind). written (spots z (start i) []) ≡ done ys end_of_body []) spelled e in
    let ew : word_of end_of_body (act.Go 1) ∷ ys ≡ prepares i kinds = sym (ap (λ (z : Written). word_of end_of_body (act.Go 1) ∷ z.words) es) in
    let from : drop 1 (word_of end_of_body (act.Go 1) ∷ ys) ≡ ys = refl in
    let at = subst (λ (z : List Prepared). drop 1 z ≡ ys) ew from in
    let (l, rest) = g (prepares i kinds) at in
    (text, q, placed, spelled, length_at (prepares i kinds) q last rest, refl, l, has (prepares i kinds) q last [] rest)
