-- Words that agree with a block do what the block means.
use Rattle.std.proofs.Common.{ℕ, zero, suc, ◌≡◌, ◌+◌, ◌++◌, List, [], ◌∷◌, Bool, true, false, cond, Option, Some, None, take, length, get_or, slice_get, refl, sym, ap, subst, ◌∙◌, append_assoc, append-nil, length-append}
use Rattle.std.proofs.Math.Seq.{take-append_seam, get_or-append_seam}
use Rattle.jcontrol.specs.declared.frame.Step.TheVariants as step
use Rattle.jcontrol.specs.declared.frame.Reply.TheVariants.{Told, Fault}
use Rattle.jcontrol.specs.declared.prepared.Prepared.{Prepared}
use Rattle.jcontrol.specs.declared.prepared.Act.TheVariants as act
use Rattle.jcontrol.specs.Program.{Return, Ask}
use Rattle.jcontrol.specs.Block.{Block, Cases}
use Rattle.jcontrol.specs.Block.Block.{Nothing, Sentence, If, While, For, Select, Try, Assert, Break, Continue, Leave}
use Rattle.jcontrol.specs.Block.Cases.{NoCase, Case, Always}
use Rattle.jcontrol.specs.Meaning.{Finished, Faulted, Unfinished, Control, Ways, so_told, goes_on, by_test, asserted, tested, in_round, while_round, while_loop, for_loop, round_after, meaning, selected, fallen, body}
use Rattle.jcontrol.specs.Machine.{chosen, after, refuses, next_round, here, goes, Does, Waits}
use Rattle.jcontrol.specs.Laid.{Around, word_of, Has, in_test, in_loop, Laid, LaidCases, IsBody}

-- the rounds of the open loops are these, and perhaps those of loops that are over follow
abbrev pub Starts : List ℕ → List ℕ → Type 0
Starts rs full = (more : List ℕ) × (full ≡ rs ++ more)

outer : (rs : List ℕ) (i : ℕ) (full : List ℕ) → Starts (rs ++ i ∷ []) full → Starts rs full
outer rs i full (more, e) = (i ∷ more, e ∙ append_assoc rs (i ∷ []) more)

cut : (rs : List ℕ) (depth : ℕ) (full : List ℕ) → depth ≡ length rs → Starts rs full → take depth full ≡ rs
cut rs depth full h (more, e) = rw (h, e) (take-append_seam rs more)

pushed : (rs : List ℕ) (depth i j : ℕ) (full : List ℕ) → depth ≡ length rs → j ≡ i → Starts rs full → Starts (rs ++ i ∷ []) (take depth full ++ j ∷ [])
pushed rs depth i j full h e st = ([], rw (cut rs depth full h st, e) (sym (append-nil (rs ++ i ∷ []))))

deeper : (rs : List ℕ) (depth i : ℕ) → depth ≡ length rs → depth + 1 ≡ length (rs ++ i ∷ [])
deeper rs depth i h = rw (length-append rs (i ∷ []), h) refl

numbered : (rs : List ℕ) (depth i : ℕ) (full : List ℕ) → depth ≡ length rs → Starts (rs ++ i ∷ []) full → next_round full depth ≡ round_after i
numbered rs depth i full h (more, e) =
    let k : get_or full depth 0 ≡ i = rw (h, e, append_assoc rs (i ∷ []) more) (get_or-append_seam rs i more 0) in
    ap round_after k

-- what is there from a place on, while these loops are open
abbrev pub From : List Prepared → List ℕ → Control → ℕ → Type 0
From ws rs c p = (full : List ℕ) → Starts rs full → Does ws c p full

-- each way out of a block leads to a place that does what is meant there
pub record Linked (ws : List Prepared) (loop : Option (ℕ × Prepared)) (catch : Option ℕ) (depth : ℕ) (rs : List ℕ) (broken again caught : Control) : Type 0 where
  pub breaks : (end : ℕ) (w : Prepared) → loop ≡ Some (end, w) → From ws rs broken end
  pub repeats : (end : ℕ) (w : Prepared) → loop ≡ Some (end, w) → (p : ℕ) → slice_get ws p ≡ Some w → From ws rs again p
  pub catches : (c : ℕ) (v : Prepared) → catch ≡ Some c → slice_get ws c ≡ Some v → (t : Option Bool) → (refuses v.act t ≡ false) × From ws rs caught (after v.act c t)
  pub falls : catch ≡ None → caught ≡ Return Faulted
  pub deep : depth ≡ length rs

abbrev pub Link : List Prepared → Around → List ℕ → Ways → Type 0
Link ws a rs ways = Linked ws a.loop a.catch a.depth rs ways.broken ways.again ways.caught

module _ (ws : List Prepared) where
  so : (x y : Control) (p q : ℕ) (full : List ℕ) → Does ws x p full → Does ws y q full → (t : Option Bool) → Does ws (so_told x y t) (chosen t p q) full
  so x y p q full d e (Some true) = d
  so x y p q full d e _ = e

  jump : (c : Control) (p q : ℕ) (full : List ℕ) (w : Prepared) → slice_get ws p ≡ Some w → w.act ≡ act.Go q → Does ws c q full → Does ws c p full
  jump (Return Finished) p q full w h e d = (d.0, d.1, goes p q d.0 w h e d.2, d.3, d.4)
  jump (Return Faulted) p q full w h e d = absurd d
  jump (Return Unfinished) p q full w h e d = tt
  jump (Ask s f) p q full w h e d = (d.0, d.1, goes p q d.0 w h e d.2, d.3, d.4, d.5, d.6, d.7, d.8, d.9)

  module _ (a : Around) (rs : List ℕ) (ways : Ways) (link : Link ws a rs ways) where
    -- a test
    test_from : (w : ℕ) (m : Ways → Control) (next : Control) (p x : ℕ) → Has ws a x (act.TestStart w p) → From ws rs (m (record ways { done = next })) p → From ws rs (tested w m ways next) x
    test_from w m next p x h d full st = (x, word_of a (act.TestStart w p), here x, h, tt, refl, λ t g. d full st, λ t g. absurd (cc), λ c v e k t. ((link.catches c v e k t).0, (link.catches c v e k t).1 full st), link.falls)

    test_ends : (w : ℕ) (x y : Control) (d q : ℕ) → Has ws a d (act.Test w q) → From ws rs x (d + 1) → From ws rs y q → From ws rs (Ask (step.Test w) (by_test ways x y)) d
    test_ends w x y d q h dx dy full st = (d, word_of a (act.Test w q), here d, h, tt, refl, λ t g. so x y (d + 1) q full (dx full st) (dy full st) t, λ t g. absurd (cc), λ c v e k t. ((link.catches c v e k t).0, (link.catches c v e k t).1 full st), link.falls)

    round_from : (w : ℕ) (x : Control) (d : ℕ) → Has ws a d (act.Round w) → From ws rs x (d + 1) → From ws rs (Ask (step.Round w) (goes_on ways x)) d
    round_from w x d h dx full st = (d, word_of a (act.Round w), here d, h, tt, refl, λ t g. dx full st, λ t g. absurd (cc), λ c v e k t. ((link.catches c v e k t).0, (link.catches c v e k t).1 full st), link.falls)

    select_from : (w : ℕ) (x : Control) (d : ℕ) → Has ws a d (act.Select w) → From ws rs x (d + 1) → From ws rs (Ask (step.Select w) (goes_on ways x)) d
    select_from w x d h dx full st = (d, word_of a (act.Select w), here d, h, tt, refl, λ t g. dx full st, λ t g. absurd (cc), λ c v e k t. ((link.catches c v e k t).0, (link.catches c v e k t).1 full st), link.falls)

    holding : (w : ℕ) (x : Control) (q : ℕ) (full : List ℕ) → Does ws x q full → (t : Option Bool) → refuses (act.Assert w) t ≡ false → Does ws (asserted ways x (Told t)) q full
    holding w x q full d None g = d
    holding w x q full d (Some true) g = d
    holding w x q full d (Some false) g = absurd (cc)

    refusing : (w : ℕ) (x : Control) (t : Option Bool) → refuses (act.Assert w) t ≡ true → asserted ways x (Told t) ≡ asserted ways x Fault
    refusing w x None g = absurd (cc)
    refusing w x (Some true) g = absurd (cc)
    refusing w x (Some false) g = refl

    assert_from : (w : ℕ) (x : Control) (d : ℕ) → Has ws a d (act.Assert w) → From ws rs x (d + 1) → From ws rs (Ask (step.Assert w) (asserted ways x)) d
    assert_from w x d h dx full st = (d, word_of a (act.Assert w), here d, h, tt, refl, λ t g. holding w x (d + 1) full (dx full st) t g, λ t g. refusing w x t g, λ c v e k t. ((link.catches c v e k t).0, (link.catches c v e k t).1 full st), link.falls)

    case_ends : (w s : ℕ) (x y : Control) (d q : ℕ) → Has ws a d (act.Case w s q) → From ws rs x (d + 1) → From ws rs y q → From ws rs (Ask (step.Case w s) (by_test ways x y)) d
    case_ends w s x y d q h dx dy full st = (d, word_of a (act.Case w s q), here d, h, tt, refl, λ t g. so x y (d + 1) q full (dx full st) (dy full st) t, λ t g. absurd (cc), λ c v e k t. ((link.catches c v e k t).0, (link.catches c v e k t).1 full st), link.falls)

    -- what stands round the block of a `try.`
    try_link : (c : ℕ) (caught : Control) → Has ws a (c + 1) (act.Go (c + 1 + 1)) → From ws rs caught (c + 1 + 1)
        → Linked ws a.loop (Some (c + 1)) a.depth rs ways.broken ways.again caught
    try_link c caught h d = record {
      breaks = link.breaks;
      repeats = link.repeats;
      catches = λ k v i g t.
          let at : slice_get ws (c + 1) ≡ Some v = let e : c + 1 ≡ k = cc in rw e g in
          let is : word_of a (act.Go (c + 1 + 1)) ≡ v = cc in (
            subst (λ (w : Prepared). refuses w.act t ≡ false) is refl,
            λ full st. subst (λ (w : Prepared). Does ws caught (after w.act k t) full) is (d full st),
          );
      falls = λ e. absurd (cc);
      deep = link.deep;
    }

    -- a loop, from each word that goes round again
    while_from : (w : ℕ) (T B : Ways → Control) (p d e : ℕ)
        → Has ws a d (act.Test w e) → Has ws a (d + 1) (act.Round w)
        → ((next : Control) → From ws rs next d → From ws rs (T (record ways { done = next })) p)
        → ((again : Control) → ((x : ℕ) → Has ws a x (act.TestStart w p) → From ws rs again x) → From ws rs (B (in_round ways again)) (d + 1 + 1))
        → From ws rs ways.done e
        → (k : ℕ) (x : ℕ) → Has ws a x (act.TestStart w p) → From ws rs (while_loop w T B ways k) x
    while_from w T B p d e hd hr t b done zero x h = λ full st. tt
    while_from w T B p d e hd hr t b done (suc k) x h =
        let again = while_loop w T B ways k in
        let round = while_round w B ways again in
        test_from w T (Ask (step.Test w) (by_test ways round ways.done)) p x h
        (t (Ask (step.Test w) (by_test ways round ways.done))
        (test_ends w round ways.done d e hd
        (round_from w (B (in_round ways again)) (d + 1) hr
        (b again (λ y hy. while_from w T B p d e hd hr t b done k y hy)))
        done))

    enter : (skips : Bool) (x y : Control) (w p d q : ℕ) → Has ws a p (cond skips (act.Go d) (act.TestStart w q)) → From ws rs x d → ((z : ℕ) → Has ws a z (act.TestStart w q) → From ws rs y z) → From ws rs (cond skips x y) p
    enter true x y w p d q h dx dy = λ full st. jump x p d full (word_of a (act.Go d)) h refl (dx full st)
    enter false x y w p d q h dx dy = dy p h

    -- a `for.`, from each word that takes the next item
    for_next : (w : ℕ) (B : Ways → Control) (d e : ℕ)
        → ((i : ℕ) (again : Control) → ((x : ℕ) → Has ws a x (act.Next w a.depth d e) → From ws (rs ++ i ∷ []) again x) → From ws (rs ++ i ∷ []) (B (in_round ways again)) d)
        → From ws rs ways.done e
        → (k i x : ℕ) → Has ws a x (act.Next w a.depth d e) → From ws (rs ++ i ∷ []) (for_loop w B ways k (round_after i)) x
    for_next w B d e b done zero i x h = λ full st. tt
    for_next w B d e b done (suc k) i x h = λ full st.
        let again = for_loop w B ways k (round_after (round_after i)) in
        let now = take a.depth full ++ next_round full a.depth ∷ [] in
        let num = numbered rs a.depth i full link.deep st in
        let started = pushed rs a.depth (round_after i) (next_round full a.depth) full link.deep num (outer rs i full st) in
        let before = outer rs (round_after i) now started in (
          x,
          word_of a (act.Next w a.depth d e),
          here x,
          h,
          tt,
          ap (step.Items w) num,
          λ t g. so (B (in_round ways again)) ways.done d e now
              (b (round_after i) again (λ y hy. for_next w B d e b done k (round_after i) y hy) now started) (done now before) t,
          λ t g. absurd (cc),
          λ c v e k t. ((link.catches c v e k t).0, (link.catches c v e k t).1 now before),
          link.falls,
        )

    for_first : (w : ℕ) (B : Ways → Control) (p e : ℕ)
        → ((i : ℕ) (again : Control) → ((x : ℕ) → Has ws a x (act.Next w a.depth (p + 1) e) → From ws (rs ++ i ∷ []) again x) → From ws (rs ++ i ∷ []) (B (in_round ways again)) (p + 1))
        → From ws rs ways.done e
        → (k : ℕ) → Has ws a p (act.First w a.depth e) → From ws rs (for_loop w B ways k 0) p
    for_first w B p e b done zero h = λ full st. tt
    for_first w B p e b done (suc k) h = λ full st.
        let again = for_loop w B ways k (round_after 0) in
        let now = take a.depth full ++ 0 ∷ [] in
        let started = pushed rs a.depth 0 0 full link.deep refl st in
        let before = outer rs 0 now started in (
          p,
          word_of a (act.First w a.depth e),
          here p,
          h,
          tt,
          refl,
          λ t g. so (B (in_round ways again)) ways.done (p + 1) e now
              (b 0 again (λ y hy. for_next w B (p + 1) e b done k 0 y hy) now started) (done now before) t,
          λ t g. absurd (cc),
          λ c v e k t. ((link.catches c v e k t).0, (link.catches c v e k t).1 now before),
          link.falls,
        )

    -- what stands round the block of a loop
    loop_link : (within : List ℕ) (depth : ℕ) (end : ℕ) (w : Prepared) (broken again : Control)
        → ((full : List ℕ) → Starts within full → Starts rs full) → depth ≡ length within
        → From ws within broken end → ((x : ℕ) → slice_get ws x ≡ Some w → From ws within again x)
        → Linked ws (Some (end, w)) a.catch depth within broken again ways.caught
    loop_link within depth end w broken again out deep hb hr = record {
      breaks = λ n v h full st. let e : (end, w) ≡ (n, v) = cc in subst (λ m. Does ws broken m full) (ap (λ (x : ℕ × Prepared). x.0) e) (hb full st);
      repeats = λ n v h x g full st. let e : (end, w) ≡ (n, v) = cc in hr x (g ∙ ap Some (sym (ap (λ (x : ℕ × Prepared). x.1) e))) full st;
      catches = λ c v h g t. ((link.catches c v h g t).0, λ full st. (link.catches c v h g t).1 full (out full st));
      falls = link.falls;
      deep = deep;
    }

    -- the block of a case, by whether the next one is run too
    leaving : (m : Ways → Control) (falls : Bool) (other : Control) (f h e g : ℕ) → Has ws a f (act.Go (cond falls h e))
        → ((next : Control) → From ws rs next f → From ws rs (m (record ways { done = next })) g)
        → From ws rs other h → From ws rs ways.done e
        → From ws rs (m (cond falls (record ways { done = other }) ways)) g
    leaving m true other f h e g hf b ho done = b other (λ full st. jump other f h full (word_of a (act.Go h)) hf refl (ho full st))
    leaving m false other f h e g hf b ho done = b ways.done (λ full st. jump ways.done f e full (word_of a (act.Go e)) hf refl (done full st))

  module _ (n : ℕ) where
    mutual
      pub stands : (b : Block) (a : Around) (rs : List ℕ) (p q : ℕ) (ways : Ways) → Laid ws b a p q → Link ws a rs ways → From ws rs ways.done q → From ws rs (meaning n a.test b ways) p
      stands Nothing a rs p q ways l link done = λ full st. subst (λ m. Does ws ways.done m full) (sym l) (done full st)
      stands (Sentence m rest) a rs p q ways (h, l) link done = λ full st.
          (p, word_of a (act.Sentence m a.test), here p, h, tt, refl, λ t g. stands rest a rs (p + 1) q ways l link done full st, λ t g. absurd (cc), λ c v e k t. ((link.catches c v e k t).0, (link.catches c v e k t).1 full st), link.falls)
      stands (If w test block otherwise rest) a rs p q ways (d, e, f, h1, l1, h2, l2, h3, l3, l4) link done =
          let next = meaning n a.test rest ways in
          let onward = record ways { done = next } in
          let dn = stands rest a rs f q ways l4 link done in
          let x = meaning n a.test block onward in
          let y = meaning n a.test otherwise onward in
          test_from a rs ways link w (meaning n (Some w) test) (Ask (step.Test w) (by_test ways x y)) (p + 1) p h1
          (stands test (in_test a w) rs (p + 1) d (record ways { done = Ask (step.Test w) (by_test ways x y) }) l1 link
          (test_ends a rs ways link w x y d (e + 1) h2
          (stands block a rs (d + 1) e onward l2 link (λ full st. jump next e f full (word_of a (act.Go f)) h3 refl (dn full st)))
          (stands otherwise a rs (e + 1) f onward l3 link dn)))
      stands (While w skips test block rest) a rs p q ways (d, e, h1, l1, h2, h3, l2, h4, l3) link done =
          let onward : Ways = record ways { done = meaning n a.test rest ways } in
          let dn = stands rest a rs (e + 1) q ways l3 link done in
          let T = meaning n (Some w) test in
          let B = meaning n a.test block in
          let again_word = act.TestStart w (p + 1) in
          let round = λ (again : Control) (k : (x : ℕ) → Has ws a x again_word → From ws rs again x).
          stands block (in_loop a (e + 1) again_word a.depth) rs (d + 1 + 1) e (in_round onward again) l2
          (loop_link a rs ways link rs a.depth (e + 1) (word_of a again_word) onward.done again (λ full st. st) link.deep dn k) (k e h4) in
          let again = while_loop w T B onward n in
          let loop = while_from a rs onward link w T B (p + 1) d (e + 1) h2 h3
          (λ next k. stands test (in_test a w) rs (p + 1) d (record onward { done = next }) l1 link k) round dn n in
          enter a rs onward link skips (while_round w B onward again) again w p (d + 1) (p + 1) h1
          (round_from a rs onward link w (B (in_round onward again)) (d + 1) h3 (round again loop)) loop
      stands (For w test block rest) a rs p q ways (d, e, h1, l1, h2, l2, h3, l3) link done =
          let onward = record ways { done = meaning n a.test rest ways } in
          let dn = stands rest a rs (e + 1) q ways l3 link done in
          let again_word = act.Next w a.depth (d + 1) (e + 1) in
          let loop = for_loop w (meaning n a.test block) onward n 0 in
          test_from a rs ways link w (meaning n (Some w) test) loop (p + 1) p h1
          (stands test (in_test a w) rs (p + 1) d (record ways { done = loop }) l1 link
          (for_first a rs onward link w (meaning n a.test block) d (e + 1)
          (λ i again k. stands block (in_loop a (e + 1) again_word (a.depth + 1)) (rs ++ i ∷ []) (d + 1) e (in_round onward again) l2
          (loop_link a rs ways link (rs ++ i ∷ []) (a.depth + 1) (e + 1) (word_of a again_word) onward.done again (outer rs i) (deeper rs a.depth i link.deep) (λ full st. dn full (outer rs i full st)) k) (k e h3))
          dn n h2))
      stands (Select w test cases rest) a rs p q ways (d, g, e, h1, l1, h2, l2, l3) link done =
          let onward = record ways { done = meaning n a.test rest ways } in
          let dn = stands rest a rs e q ways l3 link done in
          let all = selected n a.test w cases onward in
          test_from a rs ways link w (meaning n (Some w) test) (Ask (step.Select w) (goes_on ways all)) (p + 1) p h1
          (stands test (in_test a w) rs (p + 1) d (record ways { done = Ask (step.Select w) (goes_on ways all) }) l1 link
          (select_from a rs ways link w all d h2 (cases_stand cases a rs w (d + 1) g e onward l2 link dn)))
      stands (Try block caught rest) a rs p q ways (c, e, l1, h1, h2, l2, l3) link done =
          let next = meaning n a.test rest ways in
          let onward = record ways { done = next } in
          let dn = stands rest a rs e q ways l3 link done in
          let handler = stands caught a rs (c + 1 + 1) e onward l2 link dn in
          stands block (record a { catch = Some (c + 1) }) rs p c (record onward { caught = meaning n a.test caught onward }) l1
          (try_link a rs ways link c (meaning n a.test caught onward) h2 handler)
          (λ full st. jump next c e full (word_of a (act.Go e)) h1 refl (dn full st))
      stands (Assert w test rest) a rs p q ways (d, h1, l1, h2, l2) link done =
          let next = Ask (step.Assert w) (asserted ways (meaning n a.test rest ways)) in
          test_from a rs ways link w (meaning n (Some w) test) next (p + 1) p h1
          (stands test (in_test a w) rs (p + 1) d (record ways { done = next }) l1 link
          (assert_from a rs ways link w (meaning n a.test rest ways) d h2 (stands rest a rs (d + 1) q ways l2 link done)))
      stands (Break rest) a rs p q ways (end, again, e, h, l) link done = λ full st. jump ways.broken p end full (word_of a (act.Go end)) h refl (link.breaks end again e full st)
      stands (Continue rest) a rs p q ways (end, again, e, h, l) link done = link.repeats end again e p h
      stands (Leave rest) a rs p q ways (h, l) link done = λ full st. (p, word_of a act.Return, here p, h, refl)

      pub cases_stand : (cases : Cases) (a : Around) (rs : List ℕ) (s p g e : ℕ) (ways : Ways) → LaidCases ws cases a s p g e → Link ws a rs ways → From ws rs ways.done e → From ws rs (selected n a.test s cases ways) p
      cases_stand NoCase a rs s p g e ways (h, k) link done = λ full st. subst (λ m. Does ws ways.done m full) (sym h) (done full st)
      cases_stand (Case w test block falls more) a rs s p g e ways (d, f, h, h1, l1, h2, h3, l2, h4, l3) link done =
          let block_from = leaving a rs ways link (meaning n a.test block) falls (fallen n a.test more ways) f h e g h4
          (λ next k. stands block a rs g f (record ways { done = next }) l2 link k)
          (next_stands more a rs s (f + 1) h e ways l3 link done) done in
          let x = meaning n a.test block (cond falls (record ways { done = fallen n a.test more ways }) ways) in
          let y = selected n a.test s more ways in
          test_from a rs ways link w (meaning n (Some w) test) (Ask (step.Case w s) (by_test ways x y)) (p + 1) p h1
          (stands test (in_test a w) rs (p + 1) d (record ways { done = Ask (step.Case w s) (by_test ways x y) }) l1 link
          (case_ends a rs ways link w s x y d (f + 1) h2
          (subst (λ k. From ws rs x k) h3 block_from)
          (cases_stand more a rs s (f + 1) h e ways l3 link done)))
      cases_stand (Always block falls more) a rs s p g e ways (f, h, h1, l1, h2, l2) link done =
          subst (λ k. From ws rs (meaning n a.test block (cond falls (record ways { done = fallen n a.test more ways }) ways)) k) h1
          (leaving a rs ways link (meaning n a.test block) falls (fallen n a.test more ways) f h e g h2
          (λ next k. stands block a rs g f (record ways { done = next }) l1 link k)
          (next_stands more a rs s (f + 1) h e ways l2 link done) done)

      pub next_stands : (cases : Cases) (a : Around) (rs : List ℕ) (s p g e : ℕ) (ways : Ways) → LaidCases ws cases a s p g e → Link ws a rs ways → From ws rs ways.done e → From ws rs (fallen n a.test cases ways) g
      next_stands NoCase a rs s p g e ways (h, k) link done = λ full st. subst (λ m. Does ws ways.done m full) (sym k) (done full st)
      next_stands (Case w test block falls more) a rs s p g e ways (d, f, h, h1, l1, h2, h3, l2, h4, l3) link done =
          leaving a rs ways link (meaning n a.test block) falls (fallen n a.test more ways) f h e g h4
          (λ next k. stands block a rs g f (record ways { done = next }) l2 link k)
          (next_stands more a rs s (f + 1) h e ways l3 link done) done
      next_stands (Always block falls more) a rs s p g e ways (f, h, h1, l1, h2, l2) link done =
          leaving a rs ways link (meaning n a.test block) falls (fallen n a.test more ways) f h e g h2
          (λ next k. stands block a rs g f (record ways { done = next }) l1 link k)
          (next_stands more a rs s (f + 1) h e ways l2 link done) done

    -- a whole body
    pub body_stands : (b : Block) → IsBody ws b → Does ws (body n b) 1 []
    body_stands b (q, h1, l, h2) =
        let a : Around = record { test = None; catch = None; loop = None; depth = 0 } in
        let ways : Ways = record { done = Return Finished; broken = Return Finished; again = Return Finished; caught = Return Faulted } in
        let link : Link ws a [] ways = record {
          breaks = λ m w h. absurd (cc);
          repeats = λ m w h. absurd (cc);
          catches = λ c v h. absurd (cc);
          falls = λ e. refl;
          deep = refl;
        } in
        stands b a [] 1 q ways l link (λ full st. (q, word_of a act.Return, here q, h2, refl)) [] ([], refl)

-- a frame before the first word
pub starts : (n : ℕ) (ws : List Prepared) (b : Block) → IsBody ws b → Waits ws 0 [] (λ t. body n b)
starts n ws b h = record { word = record { act = act.Go 1; catch = None }; at = h.1; on = λ t g. body_stands ws n b h; refused = λ t g. absurd (cc) }
