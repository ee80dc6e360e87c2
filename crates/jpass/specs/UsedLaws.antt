-- No use, and uses one after another.
use Rattle.std.specs.Prelude.{ℕ, List, [], ◌∷◌, ◌++◌, refl}
use Rattle.std.proofs.Common.{inl, inr, sym, ap, subst, ◌∙◌, append_assoc}
use Rattle.std.proofs.lemmas.List.{append-nil}
use Rattle.jturn.specs.Laws.{grew_none, grew_on}
use Rattle.jturn.specs.Pass.{Pass, Grew}
use Rattle.juses.specs.Told.{Passed, nothing, ◌followed_by◌}
use Rattle.juses.specs.declared.uses.Cause.{Cause}
use Rattle.juses.specs.declared.uses.Entry.{Entry}
use Rattle.jpass.specs.Stood.{newest}
use Rattle.jpass.specs.Timed.{Timed, made, helped_after}
use Rattle.jpass.specs.TimedLaws.{once_self, made_both, helped_both, timed_joins}
use Rattle.jpass.specs.Used.{Used, Taken, Leads, ForWriteFault, IsClosedBy, out_of, workers_of}

more_faults : (cs es : List Cause) → ForWriteFault cs → ForWriteFault (cs ++ es)
more_faults [] es f = absurd f
more_faults (c ∷ cs) es (inl is) = inl is
more_faults (c ∷ cs) es (inr f) = inr (more_faults cs es f)

later_faults : (cs es : List Cause) → ForWriteFault es → ForWriteFault (cs ++ es)
later_faults [] es f = f
later_faults (c ∷ cs) es f = inr (later_faults cs es f)

closed_on : (k m n : ℕ) (cs es : List Cause) → IsClosedBy k cs m → IsClosedBy m es n → IsClosedBy k (cs ++ es) n
closed_on k m n cs es (inl a) (inl b) = inl (b ∙ a)
closed_on k m n cs es (inl a) (inr b) = inr (sym a ∙ b.0, later_faults cs es b.1, b.2)
closed_on k m n cs es (inr a) (inl b) = inr (a.0, more_faults cs es a.1, b ∙ a.2)
closed_on k m n cs es (inr a) (inr b) = inr (a.0, more_faults cs es a.1, b.2)

pub used_none : (thread : ℕ) (helped : List (List ℕ)) (p : Pass Entry) → Used thread helped p nothing p
used_none thread helped p = record {
  grew = grew_none p;
  timed = ([], sym (append-nil p.own), (refl, once_self (newest p.seen)));
  out = λ m c. (c, sym (append-nil (out_of p)));
  none_out = λ m. refl;
  closing = λ m. inl refl;
}

pub used_on : (thread : ℕ) (helped : List (List ℕ)) (p q r : Pass Entry) (x y : Passed) → Used thread helped p x q → Used thread (helped_after helped x.told) q y r → Used thread helped p (x followed_by y) r
used_on thread helped p q r x y h k =
    let w : ℕ = workers_of p.constant in
    let both : List Entry → Type 0 = λ es. Grew p es r in
    let one = h.timed in
    let two = k.timed in
    let later : Timed w thread (newest q.seen) (helped_after helped x.told) y.told two.0 (newest r.seen) = subst (λ c. Timed (workers_of c) thread (newest q.seen) (helped_after helped x.told) y.told two.0 (newest r.seen)) h.grew.constant two.2 in
    record {
      grew = subst both (sym (made_both x.told y.told)) (grew_on p q r (made x.told) (made y.told) h.grew k.grew);
      timed = (
        one.0 ++ two.0,
        two.1 ∙ (ap (λ l. l ++ two.0) one.1 ∙ append_assoc p.own one.0 two.0),
        timed_joins w thread (newest p.seen) helped x.told one.0 (newest q.seen) y.told two.0 (newest r.seen) one.2 later,
      );
      out = λ m c. let one = h.out m c in let two = k.out (h.grew.is_marker ∙ m) one.0 in (two.0, two.1 ∙ (ap (λ l. l ++ y.handed) one.1 ∙ append_assoc (out_of p) x.handed y.handed));
      none_out = λ m. ap (λ l. l ++ y.handed) (h.none_out m) ∙ k.none_out (h.grew.is_marker ∙ m);
      closing = λ m. closed_on p.mark.1 q.mark.1 r.mark.1 x.closed y.closed (h.closing m) (k.closing (h.grew.is_marker ∙ m));
    }

pub leads_none : (s : Taken) → Leads s nothing s
leads_none s = (used_none s.thread s.helped s.pass, refl, refl)

pub leads_on : (s t u : Taken) (x y : Passed) → Leads s x t → Leads t y u → Leads s (x followed_by y) u
leads_on s t u x y h k =
    let P : ℕ × List (List ℕ) → Type 0 = λ z. Used z.0 z.1 t.pass y u.pass in (
      used_on s.thread s.helped s.pass t.pass u.pass x y h.0 (subst P (λ i. (h.1 i, h.2 i)) k.0),
      k.1 ∙ h.1,
      k.2 ∙ (ap (λ l. helped_after l y.told) h.2 ∙ sym (helped_both s.helped x.told y.told)),
    )
