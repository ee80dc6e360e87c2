-- The quiet law, over any setting with the facts.
use Rattle.std.proofs.Common.{◌≡◌, suc, ◌<◌, ◌≤◌, arith, refl, sym, ap, subst, inl, inr, ◌∙◌, [], ◌∷◌, ◌++◌, Bool, true, false, Option, Some, None, append-nil}
use Rattle.jlaws.proofs.Logs.{keep, Stage, tally}
use Rattle.jlaws.proofs.Setting.{Act, Setting, Entry, Log, own, changed, Works, Faithful, Complete, prints, Quiet, Facts, Serial, is_start}
use Rattle.jlaws.proofs.Counts.{fewer}
use Rattle.jlaws.proofs.Stages.{decide, clash, now, further, nothing, older, ordered, lacks, keep_yes, kept, place, keep_both, keep_stage, keep_split}

pub same_act : {P U R : Type 0} (e f : Act P U R) → e.who ≡ f.who → e.asked ≡ f.asked → e.reply ≡ f.reply → e ≡ f
same_act {P} {U} {R} e f i j k =
    let one : (x y : P) (u : U) (v : R) → x ≡ y → ◌≡◌ {A = Act P U R} (record { who = x; asked = u; reply = v }) (record { who = y; asked = u; reply = v }) = λ x y u v h. ap (λ z. record { who = z; asked = u; reply = v }) h in
    let two : (x : P) (u u' : U) (v : R) → u ≡ u' → ◌≡◌ {A = Act P U R} (record { who = x; asked = u; reply = v }) (record { who = x; asked = u'; reply = v }) = λ x u u' v h. ap (λ z. record { who = x; asked = z; reply = v }) h in
    let three : (x : P) (u : U) (v v' : R) → v ≡ v' → ◌≡◌ {A = Act P U R} (record { who = x; asked = u; reply = v }) (record { who = x; asked = u; reply = v' }) = λ x u v v' h. ap (λ z. record { who = x; asked = u; reply = z }) h in
    one e.who f.who e.asked e.reply i ∙ (two f.who e.asked f.asked e.reply j ∙ three f.who f.asked e.reply f.reply k)

pub same_second : {A B : Type 0} (a : A) (b c : B) → ◌≡◌ {A = Option (A × B)} (Some (a, b)) (Some (a, c)) → b ≡ c
same_second {A} {B} a b c h = ap (λ (o : Option (A × B)). elim o [ None ↦ b | Some z ↦ z.1 ]) h

pub same_some : {A : Type 0} (a b : A) → Some a ≡ Some b → a ≡ b
same_some a b h = cc

pub not_some : {A : Type 0} {P : Type 0} (o : Option A) (a : A) → o ≡ None → o ≡ Some a → P
not_some o a h k = cc

module _ (D : Setting) (Legal : Log D → Type 0) (F : Facts D Legal) where
  pub apart_sym : (a b : D.Path) → D.same a b ≡ false → D.same b a ≡ false
  apart_sym a b h = elim (decide (D.same b a)) [ inr e ↦ e | inl e ↦ clash (D.same a b) (subst (λ v. D.same a v ≡ true) (sym (F.same_true b a e)) (F.same_refl a)) h ]

  pub legal_stage : (s l : Log D) → Stage s l → Legal l → Legal s
  legal_stage s [] e h = subst (λ v. Legal v) (sym e) h
  legal_stage s (x ∷ l) (inl e) h = subst (λ v. Legal v) (sym e) h
  legal_stage s (x ∷ l) (inr k) h = legal_stage s l k (F.earlier x l h)

  pub faithful_stage : (s l : Log D) → Stage s l → Faithful D l → Faithful D s
  faithful_stage s [] e h = subst (λ v. Faithful D v) (sym e) h
  faithful_stage s (x ∷ l) (inl e) h = subst (λ v. Faithful D v) (sym e) h
  faithful_stage s (x ∷ l) (inr k) h = faithful_stage s l k h.0

  pub works_later : (a : D.Path) (w : D.Work) (s l : Log D) → Stage s l → Works D a w s → Works D a w l
  works_later a w s l i (inl h) = inl h
  works_later a w s l i (inr (e, p, k, b)) = inr (e, p, further (e ∷ p) s l k i, b)

  pub one_start : (s t : Entry D) (p q l : Log D) (a : D.Path) (v w : D.Work) → Legal l → Stage (s ∷ p) l → Stage (t ∷ q) l → D.starts s ≡ Some (a, v) → D.starts t ≡ Some (a, w) → ◌≡◌ {A = Log D} (s ∷ p) (t ∷ q)
  one_start s t p q l a v w h i j b c = elim (ordered (s ∷ p) (t ∷ q) l i j) [
    | inl (inl e) ↦ e
    | inl (inr k) ↦ absurd (F.starts_once t s q p a w v (legal_stage (t ∷ q) l j h) k c b)
    | inr (inl e) ↦ sym e
    | inr (inr k) ↦ absurd (F.starts_once s t p q a v w (legal_stage (s ∷ p) l i h) k b c)
  ]

  pub works_once : (a : D.Path) (v w : D.Work) (l : Log D) → Legal l → Works D a v l → Works D a w l → v ≡ w
  works_once a v w l h (inl (i, e)) (inl (j, f)) = e ∙ sym f
  works_once a v w l h (inl (i, e)) (inr (s, p, k, b)) = clash (D.same D.main a) (subst (λ z. D.same z a ≡ true) i (F.same_refl a)) (F.never_main s p a w (legal_stage (s ∷ p) l k h) b)
  works_once a v w l h (inr (s, p, k, b)) (inl (i, e)) = clash (D.same D.main a) (subst (λ z. D.same z a ≡ true) i (F.same_refl a)) (F.never_main s p a v (legal_stage (s ∷ p) l k h) b)
  works_once a v w l h (inr (s, p, i, b)) (inr (t, q, j, c)) =
      let e : ◌≡◌ {A = Log D} (s ∷ p) (t ∷ q) = one_start s t p q l a v w h i j b c in
      let f : s ≡ t = cc in
      same_second a v w (sym b ∙ (ap (λ z. D.starts z) f ∙ c))

  -- the work of a task is that of an entry that starts it
  pub begun : (a : D.Path) (w : D.Work) (l : Log D) → D.same D.main a ≡ false → Works D a w l → (s : Entry D) × (p : Log D) × Stage (s ∷ p) l × (D.starts s ≡ Some (a, w))
  begun a w l n (inl (i, e)) = clash (D.same D.main a) (subst (λ z. D.same z a ≡ true) i (F.same_refl a)) n
  begun a w l n (inr h) = h

  -- each entry's use is the next of its activity's work
  pub own_asks : (a : D.Path) (w : D.Work) (l : Log D) → Legal l → Faithful D l → Works D a w l → (f : Entry D) (o : Log D) → Stage (f ∷ o) (own D a l) → D.next w o ≡ Some f.asked
  own_asks a w l h g works f o j =
      let (q, z, e, m) = place (λ v. D.same a v.who) f o l j in
      let (v, works', asks) = (faithful_stage (f ∷ q) l z g).1 in
      let old : Stage q l = further q (f ∷ q) l (inr (now q)) z in
      let who : a ≡ f.who = F.same_true a f.who m in
      let one : w ≡ v = works_once f.who w v l h (subst (λ x. Works D x w l) who works) (works_later f.who v q l old works') in
      subst (λ x. D.next x o ≡ Some f.asked) (sym one) (subst (λ x. D.next v x ≡ Some f.asked) e (subst (λ x. D.next v (own D x q) ≡ Some f.asked) (sym who) asks))

  -- an activity that has ended has nothing left to ask
  pub over : (w : D.Work) (a : D.Path) (l : Log D) (e : Entry D) (q : Log D) → Legal l → Faithful D l → Works D a w l → Stage (e ∷ q) (own D a l) → D.ends e.asked ≡ true → D.next w (own D a l) ≡ None
  over w a l e q h g works j b = F.ends_last w (own D a l) e q (own_asks a w l h g works) j b

  -- an entry of a task stands after its Start
  pub not_before : (l : Log D) → Legal l → Faithful D l → (s f : Entry D) (p q : Log D) (a : D.Path) (w : D.Work) → D.same D.main a ≡ false → Stage (s ∷ p) l → D.starts s ≡ Some (a, w) → Stage (f ∷ q) (s ∷ p) → D.same a f.who ≡ false
  not_before l h g s f p q a w n i b j = elim (decide (D.same a f.who)) [ inr e ↦ e | inl e ↦ no e ]
    where
      no : D.same a f.who ≡ true → D.same a f.who ≡ false
      no e =
          let who : a ≡ f.who = F.same_true a f.who e in
          let here : Stage (f ∷ q) l = further (f ∷ q) (s ∷ p) l j i in
          let faith : Faithful D (f ∷ q) = faithful_stage (f ∷ q) l here g in
          let (v, works, asks) = faith.1 in
          let (t, o, k, c) = begun a v q n (subst (λ z. Works D z v q) (sym who) works) in
          let there : Stage (t ∷ o) l = further (t ∷ o) (f ∷ q) l (inr k) here in
          let one : ◌≡◌ {A = Log D} (t ∷ o) (s ∷ p) = one_start t s o p l a v w h there i c b in
          older f q (further (f ∷ q) (s ∷ p) q j (subst (λ z. Stage z q) one k))

  started_few : (l : Log D) → Legal l → tally (is_start D) l ≤ D.limit
  started_few [] h = omega arith
  started_few (e ∷ l) h = on (D.starts e) refl (started_few l (F.earlier e l h))
    where
      on : (o : Option (D.Path × D.Work)) → D.starts e ≡ o → tally (is_start D) l ≤ D.limit → tally (is_start D) (e ∷ l) ≤ D.limit
      on None b k = rw (b, is_start) k
      on (Some (t, w)) b k = rw (b, is_start) (F.room e l t w h b)

  module _ (r : Log D) (legal : Legal r) (faithful : Faithful D r) (complete : Complete D r) (serial : Serial D r) (quiet : Quiet D r) where
    -- each activity's entries are its first entries in `r`; each entry stands in `r` after the same of its activity, and after no more of main's
    abbrev pub Follows : Log D → Type 0
    Follows l = ((a : D.Path) → Stage (own D a l) (own D a r)) × ((e : Entry D) (q : Log D) → Stage (e ∷ q) l → (o : Log D) × Stage (e ∷ o) r × Stage (own D D.main (e ∷ o)) (own D D.main (e ∷ q)) × (own D e.who o ≡ own D e.who q))

    -- what changes a key that a task depends on is main's or its own
    unmoved : (x f : Entry D) (o g : Log D) (k : D.Key) → Stage (x ∷ o) r → Stage (f ∷ g) r → D.same D.main x.who ≡ false → D.same D.main f.who ≡ false → D.same x.who f.who ≡ false → D.depends x.asked k ≡ true → D.changes f k ≡ false
    unmoved x f o g k i j m n d dep = elim (decide (D.changes f k)) [ inr e ↦ e | inl e ↦ no e ]
      where
        no : D.changes f k ≡ true → D.changes f k ≡ false
        no e =
            let (v, works, asks) = (faithful_stage (x ∷ o) r i faithful).1 in
            let (s, p, h, b) = begun x.who v o m works in
            let (v', works', asks') = (faithful_stage (f ∷ g) r j faithful).1 in
            let (s', p', h', b') = begun f.who v' g n works' in
            let there : Stage (s' ∷ p') r = further (s' ∷ p') (f ∷ g) r (inr h') j in
            let later : Stage (x ∷ o) (s' ∷ p') → ⊥ = λ z. (quiet.apart s p x.who v b f g j (further (s ∷ p) (s' ∷ p') g (further (s ∷ p) (x ∷ o) (s' ∷ p') (inr h) z) h') d x o i refl).0 k dep e in
            let sooner : Stage (s' ∷ p') o → ⊥ = λ z. (quiet.apart s' p' f.who v' b' x o i z (apart_sym x.who f.who d) f g j refl).1 k dep e in
            absurd (elim (ordered (s' ∷ p') (x ∷ o) r there i) [ inl (inl z) ↦ later (inl (sym z)) | inl (inr z) ↦ sooner z | inr z ↦ later z ])

    -- an entry of main after as many of main's stands after
    before : (s y : Entry D) (o q : Log D) → Stage (s ∷ o) r → Stage (y ∷ q) r → D.same D.main y.who ≡ true → Stage (own D D.main (s ∷ o)) (own D D.main q) → Stage (s ∷ o) q
    before s y o q i j m h =
        let p : Entry D → Bool = λ e. D.same D.main e.who in
        let no : Stage (y ∷ q) (s ∷ o) → ⊥ = λ z. older y (own D D.main q) (further (y ∷ own D D.main q) (own D D.main (s ∷ o)) (own D D.main q) (subst (λ v. Stage v (own D D.main (s ∷ o))) (keep_yes p y q m) (kept p (y ∷ q) (s ∷ o) z)) h) in
        elim (ordered (s ∷ o) (y ∷ q) r i j) [ inl (inl z) ↦ absurd (no (inl (sym z))) | inl (inr z) ↦ z | inr z ↦ absurd (no z) ]

    module _ (l : Log D) (lawful : Legal l) (faith : Faithful D l) (follows : Follows l) where
      -- the changes of the keys that main's next use depends on
      changes_main : (x : Entry D) (o : Log D) (k : D.Key) → Stage (x ∷ o) r → D.main ≡ x.who → own D D.main o ≡ own D D.main l → D.depends x.asked k ≡ true → changed D k l ≡ changed D k o
      changes_main x o k i m h dep =
          let p : Entry D → Bool = λ e. D.same D.main e.who in
          let q : Entry D → Bool = λ e. D.changes e k in
          let m' : D.same D.main x.who ≡ true = subst (λ z. D.same D.main z ≡ true) m (F.same_refl D.main) in
          let theirs : (f s : Entry D) (u g : Log D) (w : D.Work) → Stage (f ∷ g) r → D.same D.main f.who ≡ false → D.starts s ≡ Some (f.who, w) → Stage (s ∷ u) r → Stage (s ∷ u) o → D.changes f k ≡ false = λ f s u g w j n b t z.
          elim (decide (D.changes f k)) [ inr e ↦ e | inl e ↦ absurd ((quiet.apart s u f.who w b x o i z (apart_sym x.who f.who (subst (λ v. D.same v f.who ≡ false) m n)) f g j refl).1 k dep e) ] in
          let mine : changed D k l ≡ keep q (own D D.main l) = keep_both q p l (λ f g j n.
          let (v, works, asks) = (faithful_stage (f ∷ g) l j faith).1 in
          let (s, u, t, b) = begun f.who v g n works in
          let (c, d, e, _) = follows.1 s u (further (s ∷ u) (f ∷ g) l (inr t) j) in
          let (c', d', e', _) = follows.1 f g j in
          let sooner : Stage (own D D.main (s ∷ u)) (own D D.main o) = subst (λ z. Stage (own D D.main (s ∷ u)) z) (sym h) (kept p (s ∷ u) l (further (s ∷ u) (f ∷ g) l (inr t) j)) in
          theirs f s c c' v d' n b d (before s x c o d i m' (further (own D D.main (s ∷ c)) (own D D.main (s ∷ u)) (own D D.main o) e sooner))) in
          let same : changed D k o ≡ keep q (own D D.main o) = keep_both q p o (λ f g j n.
          let there : Stage (f ∷ g) r = further (f ∷ g) (x ∷ o) r (inr j) i in
          let (v, works, asks) = (faithful_stage (f ∷ g) r there faithful).1 in
          let (s, u, t, b) = begun f.who v g n works in
          theirs f s u g v there n b (further (s ∷ u) (f ∷ g) r (inr t) there) (further (s ∷ u) (f ∷ g) o (inr t) j)) in
          mine ∙ (ap (λ z. keep q z) (sym h) ∙ sym same)

      -- and those of a task's next use: main's before the Start, then the task's own
      changes_task : (x : Entry D) (o : Log D) (k : D.Key) (w : D.Work) → Stage (x ∷ o) r → D.same D.main x.who ≡ false → own D x.who o ≡ own D x.who l → Works D x.who w l → D.depends x.asked k ≡ true → changed D k l ≡ changed D k o
      changes_task x o k w i n h works dep =
          let a : D.Path = x.who in
          let p : Entry D → Bool = λ e. D.same D.main e.who in
          let pa : Entry D → Bool = λ e. D.same x.who e.who in
          let q : Entry D → Bool = λ e. D.changes e k in
          let (s, u, t, b) = begun x.who w l n works in
          let (c, d, e, _) = follows.1 s u t in
          let (v', works', asks') = (faithful_stage (x ∷ o) r i faithful).1 in
          let (s', u', t', b') = begun x.who v' o n works' in
          let one : ◌≡◌ {A = Log D} (s' ∷ u') (s ∷ c) = one_start s' s u' c r x.who v' w legal (further (s' ∷ u') (x ∷ o) r (inr t') i) d b' b in
          let start : Stage (s ∷ c) o = subst (λ z. Stage z o) one t' in
          -- what others do after the Start in `r`
          let later : (f : Entry D) (g : Log D) → Stage (f ∷ g) r → Stage (s ∷ c) g → D.same x.who f.who ≡ false → D.changes f k ≡ false = λ f g j z m.
          elim (decide (D.changes f k)) [ inr y ↦ y | inl y ↦ absurd ((quiet.apart s c x.who w b f g j z m x o i refl).0 k dep y) ] in
          let mains : (f : Entry D) (g : Log D) → Stage (f ∷ g) l → D.same D.main f.who ≡ true → Stage (own D D.main (s ∷ c)) (own D D.main g) → D.same x.who f.who ≡ false → D.changes f k ≡ false = λ f g j m z y.
          let (g', j', _, e') = follows.1 f g j in
          let e'' : own D D.main g ≡ own D D.main g' = subst (λ v. own D v g ≡ own D v g') (sym (F.same_true D.main f.who m)) (sym e') in
          later f g' j' (before s f c g' d j' m (subst (λ v. Stage (own D D.main (s ∷ c)) v) e'' z)) y in
          let other : (f : Entry D) (g : Log D) → Stage (f ∷ g) l → D.same D.main f.who ≡ false → D.same x.who f.who ≡ false → D.changes f k ≡ false = λ f g j m y.
          let (g', j', _, _) = follows.1 f g j in
          unmoved x f o g' k i j' n m y dep in
          let apart_main : (f : Entry D) → D.same D.main f.who ≡ true → D.same x.who f.who ≡ false = λ f m.
          subst (λ v. D.same x.who v ≡ false) (F.same_true D.main f.who m) (apart_sym D.main x.who n) in
          let r1 : changed D k o ≡ keep q (own D x.who o) ++ changed D k (s ∷ c) = keep_split q pa (s ∷ c) o start (λ f g j z m. later f g (further (f ∷ g) (x ∷ o) r (inr j) i) z m) (λ f g j. not_before r legal faithful s f c g x.who w n d b j) in
          let r2 : changed D k (s ∷ c) ≡ keep q (own D D.main (s ∷ c)) = keep_both q p (s ∷ c) (λ f g j m. unmoved x f o g k i (further (f ∷ g) (s ∷ c) r j d) n m (not_before r legal faithful s f c g x.who w n d b j) dep) in
          let l1 : changed D k l ≡ keep q (own D x.who l) ++ changed D k (s ∷ u) = keep_split q pa (s ∷ u) l t (λ f g j z m. elim (decide (D.same D.main f.who)) [
            | inl y ↦ mains f g j y (further (own D D.main (s ∷ c)) (own D D.main (s ∷ u)) (own D D.main g) e (kept p (s ∷ u) g z)) m
            | inr y ↦ other f g j y m
          ]) (λ f g j. not_before l lawful faith s f u g x.who w n t b j) in
          let l2 : changed D k (s ∷ u) ≡ keep q (own D D.main (s ∷ u)) = keep_both q p (s ∷ u) (λ f g j m. other f g (further (f ∷ g) (s ∷ u) l j t) m (not_before l lawful faith s f u g x.who w n t b j)) in
          let l3 : keep q (own D D.main (s ∷ u)) ≡ keep q (own D D.main (s ∷ c)) = keep_stage q (own D D.main (s ∷ c)) (own D D.main (s ∷ u)) e (λ f g j z.
          let (v, j', e', m) = place p f g (s ∷ u) j in
          mains f v (further (f ∷ v) (s ∷ u) l j' t) m (subst (λ y. Stage (own D D.main (s ∷ c)) y) (sym e') z) (apart_main f m)) in
          l1 ∙ (ap (λ z. keep q (own D x.who l) ++ z) (l2 ∙ (l3 ∙ sym r2)) ∙ (ap (λ z. keep q z ++ changed D k (s ∷ c)) (sym h) ∙ sym r1))

      -- an activity whose entries are all that it has in `r` has nothing left to ask
      finished : (a : D.Path) (w : D.Work) → Works D a w r → D.next w (own D a r) ≡ None
      finished a w (inl (i, e)) = subst (λ z. D.next w (own D z r) ≡ None) (sym i) (subst (λ z. D.next z (own D D.main r) ≡ None) (sym e) complete.0)
      finished a w (inr (s, p, k, b)) =
          let (e, q, j, x) = complete.1 s p a w k b in
          over w a r e q legal faithful (inr (s, p, k, b)) j x

      works_there : (a : D.Path) (w : D.Work) → Works D a w l → Works D a w r
      works_there a w (inl h) = inl h
      works_there a w (inr (s, p, k, b)) = let (o, j, _, _) = follows.1 s p k in inr (s, o, j, b)

      -- an End is the last entry of its activity
      nothing_after : (t : D.Path) (x y : Entry D) (i j : Log D) → Stage (y ∷ j) (own D t r) → Stage (x ∷ i) j → D.ends x.asked ≡ true → ⊥
      nothing_after t x y i j k h b =
          let (o, z, e, m) = place (λ v. D.same t v.who) y j r k in
          let (w, works, asks) = (faithful_stage (y ∷ o) r z faithful).1 in
          let old : Stage o r = further o (y ∷ o) r (inr (now o)) z in
          let there : Stage (x ∷ i) (own D y.who o) = subst (λ v. Stage (x ∷ i) (own D v o)) (F.same_true t y.who m) (subst (λ v. Stage (x ∷ i) v) (sym e) h) in
          not_some (D.next w (own D y.who o)) y.asked (over w y.who o x i (legal_stage o r old legal) (faithful_stage o r old faithful) works there b) asks

      -- an End in each of two stages of an activity's entries is one and the same
      one_end : (t : D.Path) (x y : Entry D) (i j : Log D) → Stage (x ∷ i) (own D t r) → Stage (y ∷ j) (own D t r) → D.ends x.asked ≡ true → D.ends y.asked ≡ true → x.asked ≡ y.asked
      one_end t x y i j h k b c = elim (ordered (x ∷ i) (y ∷ j) (own D t r) h k) [
        | inl (inl e) ↦ let f : x ≡ y = cc in ap (λ v. v.asked) f
        | inl (inr z) ↦ absurd (nothing_after t x y i j k z b)
        | inr (inl e) ↦ let f : x ≡ y = cc in ap (λ v. v.asked) f
        | inr (inr z) ↦ absurd (nothing_after t y x j i h z c)
      ]

      module _ (x : Entry D) (o : Log D) (w : D.Work) (j : Stage (x ∷ o) r) (mine : own D x.who o ≡ own D x.who l) (works : Works D x.who w l) (k : Stage (x ∷ own D x.who l) (own D x.who r)) where
        -- no more of main's stands before the entry in `r` than before it here
        mains_before : Stage (own D D.main (x ∷ o)) (own D D.main (x ∷ l))
        mains_before = elim (decide (D.same D.main x.who)) [ inl m ↦ main m | inr n ↦ task n ]
          where
            p : Entry D → Bool
            p = λ e. D.same D.main e.who

            main : D.same D.main x.who ≡ true → Stage (own D D.main (x ∷ o)) (own D D.main (x ∷ l))
            main m =
                let e : own D D.main o ≡ own D D.main l = subst (λ v. own D v o ≡ own D v l) (sym (F.same_true D.main x.who m)) mine in
                rw m (inl (ap (λ v. x ∷ v) e))

            task : D.same D.main x.who ≡ false → Stage (own D D.main (x ∷ o)) (own D D.main (x ∷ l))
            task n =
                let (s, u, t, b) = begun x.who w l n works in
                let (c, d, e, _) = follows.1 s u t in
                let (v', works', asks') = (faithful_stage (x ∷ o) r j faithful).1 in
                let (s', u', t', b') = begun x.who v' o n works' in
                let one : ◌≡◌ {A = Log D} (s' ∷ u') (s ∷ c) = one_start s' s u' c r x.who v' w legal (further (s' ∷ u') (x ∷ o) r (inr t') j) d b' b in
                let start : Stage (s ∷ c) o = subst (λ z. Stage z o) one t' in
                let between : own D D.main o ≡ own D D.main (s ∷ c) = keep_stage (λ e. D.same D.main e.who) (s ∷ c) o start (λ y q i z. elim (decide (D.same D.main y.who)) [
                  | inr h ↦ h
                  | inl h ↦ absurd (serial y s x q c o x.who w (further (y ∷ q) (x ∷ o) r (inr i) j) h z b j refl i)
                ]) in
                let goal : Stage (own D D.main o) (own D D.main l) = subst (λ z. Stage z (own D D.main l)) (sym between) (further (own D D.main (s ∷ c)) (own D D.main (s ∷ u)) (own D D.main l) e (kept (λ e. D.same D.main e.who) (s ∷ u) l t)) in
                rw n goal

        goes_on : Follows (x ∷ l)
        goes_on = (each, stands)
          where
            each : (b : D.Path) → Stage (own D b (x ∷ l)) (own D b r)
            each b = elim (decide (D.same b x.who)) [
              | inl m ↦ rw m (subst (λ v. Stage (x ∷ own D v l) (own D v r)) (sym (F.same_true b x.who m)) k)
              | inr n ↦ rw n (follows.0 b)
            ]

            stands : (y : Entry D) (q : Log D) → Stage (y ∷ q) (x ∷ l) → (o : Log D) × Stage (y ∷ o) r × Stage (own D D.main (y ∷ o)) (own D D.main (y ∷ q)) × (own D y.who o ≡ own D y.who q)
            stands y q (inr z) = follows.1 y q z
            stands y q (inl z) =
                let f : x ≡ y = cc in
                let g : l ≡ q = cc in
                subst (λ v. (o : Log D) × Stage (y ∷ o) r × Stage (own D D.main (y ∷ o)) (own D D.main (y ∷ v)) × (own D y.who o ≡ own D y.who v)) g
                (subst (λ v. (o : Log D) × Stage (v ∷ o) r × Stage (own D D.main (v ∷ o)) (own D D.main (v ∷ l)) × (own D v.who o ≡ own D v.who l)) f (o, j, mains_before, mine))

      room_left : (x : Entry D) → Stage (x ∷ own D x.who l) (own D x.who r) → (t : D.Path) (w : D.Work) → D.starts x ≡ Some (t, w) → tally (is_start D) l < D.limit
      room_left x k t w b =
          let all : (a : D.Path) → Stage (own D a (x ∷ l)) (own D a r) = λ a. elim (decide (D.same a x.who)) [
            | inl m ↦ rw m (subst (λ v. Stage (x ∷ own D v l) (own D v r)) (sym (F.same_true a x.who m)) k)
            | inr n ↦ rw n (follows.0 a)
          ] in
          let few : tally (is_start D) (x ∷ l) ≤ tally (is_start D) r = fewer D.same F.same_true F.same_refl (λ (e : Entry D). e.who) (is_start D) r (x ∷ l) all in
          let one : tally (is_start D) (x ∷ l) ≡ suc (tally (is_start D) l) = rw (b, is_start) refl in
          let most : tally (is_start D) r ≤ D.limit = started_few r legal in
          omega arith

      -- the next entry is the one that `r` has next for its activity
      step : (e : Entry D) → Legal (e ∷ l) → Faithful D (e ∷ l) → Follows (e ∷ l)
      step e h f = elim (lacks (own D e.who l) (own D e.who r) (follows.0 e.who)) [
        | inl z ↦ not_some (D.next f.1.0 (own D e.who l)) e.asked (subst (λ v. D.next f.1.0 v ≡ None) (sym z) (finished e.who f.1.0 (works_there e.who f.1.0 f.1.1))) f.1.2
        | inr (x, k) ↦ found x k
      ]
        where
          found : (x : Entry D) → Stage (x ∷ own D e.who l) (own D e.who r) → Follows (e ∷ l)
          found x k =
              let (w, works, asks) = f.1 in
              let (o, j, own_e, m) = place (λ v. D.same e.who v.who) x (own D e.who l) r k in
              let who : e.who ≡ x.who = F.same_true e.who x.who m in
              let (v, works', asks') = (faithful_stage (x ∷ o) r j faithful).1 in
              let old : Stage o r = further o (x ∷ o) r (inr (now o)) j in
              let works_x : Works D x.who w l = subst (λ z. Works D z w l) who works in
              let mine : own D x.who o ≡ own D x.who l = subst (λ z. own D z o ≡ own D z l) who own_e in
              let k_x : Stage (x ∷ own D x.who l) (own D x.who r) = subst (λ z. Stage (x ∷ own D z l) (own D z r)) who k in
              let asks_x : D.next w (own D x.who l) ≡ Some e.asked = subst (λ z. D.next w (own D z l) ≡ Some e.asked) who asks in
              let one : w ≡ v = works_once x.who w v r legal (works_there x.who w works_x) (works_later x.who v o r old works') in
              let asked : e.asked ≡ x.asked = same_some e.asked x.asked (sym asks_x ∙ (ap (λ z. D.next z (own D x.who l)) one ∙ (ap (λ z. D.next v z) (sym mine) ∙ asks'))) in
              let keys : (i : D.Key) → D.depends x.asked i ≡ true → changed D i l ≡ changed D i o = λ i dep. elim (decide (D.same D.main x.who)) [
                | inl y ↦ changes_main x o i j (F.same_true D.main x.who y) (subst (λ z. own D z o ≡ own D z l) (sym (F.same_true D.main x.who y)) mine) dep
                | inr n ↦ changes_task x o i w j n mine works_x dep
              ] in
              let reply : e.reply ≡ x.reply = F.replies e x l o h (legal_stage (x ∷ o) r j legal) (quiet.tame x o j) who asked (subst (λ z. own D e.who l ≡ own D z o) who (sym own_e)) keys
              (λ t y y' z i i' a a' b b'. one_end t y' z i i' (further (y' ∷ i) (own D t l) (own D t r) a (follows.0 t)) (further (z ∷ i') (own D t o) (own D t r) a' (kept (λ c. D.same t c.who) o r old)) b b')
              (λ t v b. room_left x k_x t v b) in
              subst (λ z. Follows (z ∷ l)) (sym (same_act e x who asked reply)) (goes_on x o w j mine works_x k_x)

    -- every legal, faithful history follows `r`
    pub follows : (l : Log D) → Legal l → Faithful D l → Follows l
    follows [] h f = (λ a. none (own D a r), λ e q z. nothing e q z)
      where
        none : (m : Log D) → Stage (let v : Log D = [] in v) m
        none [] = refl
        none (x ∷ m) = inr (none m)
    follows (e ∷ l) h f = step l (F.earlier e l h) f.0 (follows l (F.earlier e l h) f.0) e h f

    prints_main : (l : Log D) → ((e : Entry D) (q : Log D) → Stage (e ∷ q) l → D.same D.main e.who ≡ false → D.printed e.asked ≡ []) → prints D l ≡ prints D (own D D.main l)
    prints_main [] h = refl
    prints_main (e ∷ l) h = on (prints_main l (λ y q z. h y q (inr z)))
      where
        on : prints D l ≡ prints D (own D D.main l) → prints D (e ∷ l) ≡ prints D (own D D.main (e ∷ l))
        on rest = elim (decide (D.same D.main e.who)) [
          | inl m ↦ rw m (ap (λ z. z ++ D.printed e.asked) rest)
          | inr n ↦ rw (n, h e l (inl refl) n, append-nil) rest
        ]

    pub same_prints : (l : Log D) → Legal l → Faithful D l → D.next D.script (own D D.main l) ≡ None → prints D l ≡ prints D r
    same_prints l h f over =
        let g : Follows l = follows l h f in
        let tasks_l : (e : Entry D) (q : Log D) → Stage (e ∷ q) l → D.same D.main e.who ≡ false → D.printed e.asked ≡ [] = λ e q z n. let (o, j, _, _) = g.1 e q z in F.tasks_print_nothing e (quiet.tame e o j) n in
        let tasks_r : (e : Entry D) (q : Log D) → Stage (e ∷ q) r → D.same D.main e.who ≡ false → D.printed e.asked ≡ [] = λ e q z n. F.tasks_print_nothing e (quiet.tame e q z) n in
        let mains : own D D.main l ≡ own D D.main r = elim (lacks (own D D.main l) (own D D.main r) (g.0 D.main)) [ inl e ↦ e | inr (x, k) ↦ more x k ] in
        prints_main l tasks_l ∙ (ap (λ z. prints D z) mains ∙ sym (prints_main r tasks_r))
      where
        more : (x : Entry D) → Stage (x ∷ own D D.main l) (own D D.main r) → own D D.main l ≡ own D D.main r
        more x k =
            let (o, j, e, m) = place (λ v. D.same D.main v.who) x (own D D.main l) r k in
            let (w, works, asks) = (faithful_stage (x ∷ o) r j faithful).1 in
            let who : D.main ≡ x.who = F.same_true D.main x.who m in
            let old : Stage o r = further o (x ∷ o) r (inr (now o)) j in
            let one : D.script ≡ w = works_once x.who D.script w r legal (inl (sym who, refl)) (works_later x.who w o r old works) in
            let asks' : D.next D.script (own D D.main l) ≡ Some x.asked = subst (λ z. D.next D.script z ≡ Some x.asked) e (subst (λ z. D.next D.script (own D z o) ≡ Some x.asked) (sym who) (subst (λ z. D.next z (own D x.who o) ≡ Some x.asked) (sym one) asks)) in
            not_some (D.next D.script (own D D.main l)) x.asked over asks'

  -- the quiet law
  pub quiet_law : (r l : Log D) → Legal r → Faithful D r → Complete D r → Serial D r → Quiet D r → Legal l → Faithful D l → Complete D l → prints D l ≡ prints D r
  quiet_law r l a b c d q h f e = same_prints r a b c d q l h f e.0
