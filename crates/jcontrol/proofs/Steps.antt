-- One word at a time.
use Rattle.std.proofs.Common.{ℕ, ◌≡◌, ◌≢◌, ◌<◌, ◌+◌, List, Bool, true, false, Option, Some, length, get_or, slice_get, refl, sym, ap, subst, ◌∙◌}
use Rattle.std.proofs.lemmas.Option.{slice_get-get_or}
use Rattle.jcontrol.specs.declared.frame.Step.{Step}
use Rattle.jcontrol.specs.declared.frame.Step.TheVariants as step
use Rattle.jcontrol.specs.declared.prepared.Prepared.{Prepared}
use Rattle.jcontrol.specs.declared.prepared.Act.{Act}
use Rattle.jcontrol.specs.declared.prepared.Act.TheVariants as act
use Rattle.jcontrol.specs.Program.{Return, Ask}
use Rattle.jcontrol.specs.declared.frame.Reply.TheVariants.{Told, Fault}
use Rattle.jcontrol.specs.Meaning.{Finished, Faulted, Unfinished, Control}
use Rattle.jcontrol.specs.Machine.{after, asked, counted, refuses, IsRefused, IsAsking, Leads, here, goes, Does, Lands, Waits, Falls, Comes, IsSound, LeadsInside, chosen}

abbrev pub IsNoGo : Act → Type 0
IsNoGo a = (x : ℕ) → a ≡ act.Go x → ⊥

asks_no_return : (a : Act) (rs : List ℕ) → IsAsking a → asked a rs ≢ step.Return
asks_no_return (act.Go to) rs h e = absurd h
asks_no_return act.Return rs h e = absurd h
asks_no_return _ rs h e = cc

module _ (ws : List Prepared) where
  lead_end : (p r : ℕ) (w : Prepared) → slice_get ws p ≡ Some w → IsNoGo w.act → Leads ws p r → p ≡ r
  lead_end p r w h fixed (here q) = refl
  lead_end p r w h fixed (goes q x y v g e l) = absurd (fixed x (let k : w ≡ v = cc in ap (λ (z : Prepared). z.act) k ∙ e))

  lead_on : (p q r : ℕ) (w v : Prepared) → slice_get ws p ≡ Some w → w.act ≡ act.Go q → slice_get ws r ≡ Some v → IsNoGo v.act → Leads ws p r → Leads ws q r
  lead_on p q r w v h e g fixed (here x) = absurd (fixed q (let k : v ≡ w = cc in ap (λ (z : Prepared). z.act) k ∙ e))
  lead_on p q r w v h e g fixed (goes s x y u i f l) = let k : w ≡ u = cc in let m : w.act ≡ u.act = ap (λ (z : Prepared). z.act) k in let n : x ≡ q = cc in subst (λ z. Leads ws z r) n l

  is_no_go : (a : Act) → IsAsking a → IsNoGo a
  is_no_go a h x e = subst IsAsking e h

  return_no_go : (a : Act) → a ≡ act.Return → IsNoGo a
  return_no_go a h x e = absurd (cc)

  -- behind a word that only leads onward
  pub passes : (c : Control) (p q : ℕ) (full : List ℕ) (w : Prepared) → slice_get ws p ≡ Some w → w.act ≡ act.Go q → Does ws c p full → Does ws c q full
  passes (Return Finished) p q full w h e (r, v, l, g, f) = (r, v, lead_on p q r w v h e g (return_no_go v.act f) l, g, f)
  passes (Return Faulted) p q full w h e d = absurd d
  passes (Return Unfinished) p q full w h e d = tt
  passes (Ask s f) p q full w h e (r, v, l, g, i, k, on, refused, catches, falls) = (r, v, lead_on p q r w v h e g (is_no_go v.act i) l, g, i, k, on, refused, catches, falls)

  stops : (p : ℕ) (full : List ℕ) (v : Prepared) → v.act ≡ act.Return → Comes ws p (counted v.act full) (asked v.act full) (Return Finished)
  stops p full v e = ap (λ (a : Act). asked a full) e

  moved : (p r : ℕ) (full : List ℕ) (w v : Prepared) (c : Control) → p ≡ r → slice_get ws p ≡ Some w → slice_get ws r ≡ Some v → Comes ws r (counted v.act full) (asked v.act full) c → Comes ws p (counted w.act full) (asked w.act full) c
  moved p r full w v c e h g d =
      let k : v ≡ w = cc in
      let P : ℕ → Type 0 = λ x. Comes ws x (counted v.act full) (asked v.act full) c in
      subst (λ (x : Prepared). Comes ws p (counted x.act full) (asked x.act full) c) k (subst P (sym e) d)

  -- at a word that asks or ends
  pub arrives : IsSound ws → (c : Control) (p : ℕ) (full : List ℕ) (w : Prepared) → slice_get ws p ≡ Some w → IsNoGo w.act → Does ws c p full → Comes ws p (counted w.act full) (asked w.act full) c
  arrives sound (Return Finished) p full w h fixed (r, v, l, g, f) = moved p r full w v (Return Finished) (lead_end p r w h fixed l) h g (stops r full v f)
  arrives sound (Return Faulted) p full w h fixed d = absurd d
  arrives sound (Return Unfinished) p full w h fixed d = tt
  arrives sound (Ask s f) p full w h fixed (r, v, l, g, i, k, on, refused, catches, falls) =
      let faults : Falls ws r (counted v.act full) (f Fault) = record {
        word = v;
        at = g;
        on = λ c e.
            let u = get_or ws c v in
            let at : slice_get ws c ≡ Some u = slice_get-get_or ws c v (sound.catches r v c g e) in
            record { word = u; at = at; free = λ t. (catches c u e at t).0; on = λ t. (catches c u e at t).1 };
        off = falls;
      } in
      let waits : Waits ws r (counted v.act full) (λ t. f (Told t)) = record {
        word = v;
        at = g;
        on = on;
        refused = λ t e. subst (λ x. Falls ws r (counted v.act full) x) (sym (refused t e)) faults;
      } in
      moved p r full w v (Ask s f) (lead_end p r w h fixed l) h g (k, asks_no_return v.act full i, waits, faults)

  pub resumes : (p : ℕ) (rs : List ℕ) (told : Option Bool → Control) (w : Prepared) (t : Option Bool) → slice_get ws p ≡ Some w → refuses w.act t ≡ false → Waits ws p rs told → Does ws (told t) (after w.act p t) rs
  resumes p rs told w t h e waits =
      let at = waits.at in
      let k : waits.word ≡ w = cc in
      subst (λ (x : Prepared). refuses x.act t ≡ false → Does ws (told t) (after x.act p t) rs) k (waits.on t) e

  pub refusing : (p : ℕ) (rs : List ℕ) (told : Option Bool → Control) (w : Prepared) (t : Option Bool) → slice_get ws p ≡ Some w → refuses w.act t ≡ true → Waits ws p rs told → Falls ws p rs (told t)
  refusing p rs told w t h e waits =
      let at = waits.at in
      let k : waits.word ≡ w = cc in
      subst (λ (x : Prepared). refuses x.act t ≡ true → Falls ws p rs (told t)) k (waits.refused t) e

  -- where a fault was caught, the frame goes on whatever it is told
  pub lands_waits : (p : ℕ) (rs : List ℕ) (c : Control) → Lands ws p rs c → Waits ws p rs (λ t. c)
  lands_waits p rs c l = record { word = l.word; at = l.at; on = λ t e. l.on t; refused = λ t e. let f = l.free t in absurd (cc) }

module _ (ws : List Prepared) (d : Prepared) where
  at : (p : ℕ) → p < length ws → slice_get ws p ≡ Some (get_or ws p d)
  at p h = slice_get-get_or ws p d h

  pub inside_go : IsSound ws → (p q : ℕ) → p < length ws → (get_or ws p d).act ≡ act.Go q → (p < q) × (q < length ws)
  inside_go sound p q h e = subst (LeadsInside (length ws) p) e (sound.acts p (get_or ws p d) (at p h))

  pub does_go : (c : Control) (p q : ℕ) (full : List ℕ) → p < length ws → (get_or ws p d).act ≡ act.Go q → Does ws c p full → Does ws c q full
  does_go c p q full h e does = passes ws c p q full (get_or ws p d) (at p h) e does

  pub does_start : (p : ℕ) (rs : List ℕ) (told : Option Bool → Control) (t : Option Bool) → p < length ws → refuses (get_or ws p d).act t ≡ false → Waits ws p rs told → Does ws (told t) (after (get_or ws p d).act p t) rs
  does_start p rs told t h e waits = resumes ws p rs told (get_or ws p d) t (at p h) e waits

  pub falls_start : (p : ℕ) (rs : List ℕ) (told : Option Bool → Control) (t : Option Bool) → p < length ws → refuses (get_or ws p d).act t ≡ true → Waits ws p rs told → Falls ws p rs (told t)
  falls_start p rs told t h e waits = refusing ws p rs told (get_or ws p d) t (at p h) e waits

  pub is_refused : (p : ℕ) (t : Option Bool) → p < length ws → refuses (get_or ws p d).act t ≡ true → IsRefused ws p t
  is_refused p t h e = (get_or ws p d, at p h, e)

  pub not_refused : (p : ℕ) (t : Option Bool) → p < length ws → refuses (get_or ws p d).act t ≡ false → IsRefused ws p t → ⊥
  not_refused p t h e (w, g, f) =
      let k = at p h in
      let same : get_or ws p d ≡ w = cc in
      let no : refuses w.act t ≡ false = subst (λ (x : Prepared). refuses x.act t ≡ false) same e in
      absurd (cc)

  chosen_inside : (t : Option Bool) (n x y : ℕ) → x < n → y < n → chosen t x y < n
  chosen_inside (Some true) n x y h k = h
  chosen_inside _ n x y h k = k

  after_inside : (a : Act) (n p : ℕ) (t : Option Bool) → p < n → LeadsInside n p a → after a p t < n
  after_inside (act.Test w q) n p t h k = chosen_inside t n (p + 1) q k.0 k.1
  after_inside (act.First w x q) n p t h k = chosen_inside t n (p + 1) q k.0 k.1
  after_inside (act.Next w x y q) n p t h k = chosen_inside t n y q k.0 k.1
  after_inside (act.Case w s q) n p t h k = chosen_inside t n (p + 1) q k.0 k.1
  after_inside (act.Go to) n p t h k = k.1
  after_inside act.Return n p t h k = h
  after_inside _ n p t h k = k

  pub inside_start : IsSound ws → (p : ℕ) (t : Option Bool) → p < length ws → after (get_or ws p d).act p t < length ws
  inside_start sound p t h = after_inside (get_or ws p d).act (length ws) p t h (sound.acts p (get_or ws p d) (at p h))

  pub comes_of : IsSound ws → (c : Control) (p r : ℕ) (full now : List ℕ) (s : Step) → p < length ws → IsNoGo (get_or ws p d).act → Does ws c p full
      → r ≡ p → s ≡ asked (get_or ws p d).act full → now ≡ counted (get_or ws p d).act full → Comes ws r now s c
  comes_of sound c p r full now s h k does e f g = rw (e, f, g) (arrives ws sound c p full (get_or ws p d) (at p h) k does)
