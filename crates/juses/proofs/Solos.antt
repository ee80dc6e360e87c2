-- What one answer of a desk on one thread leads to.
use Rattle.std.proofs.Common.{◌≡◌, refl, sym, ap, subst, ◌∙◌, ℕ, zero, suc, ◌≤◌, false, List, [], ◌∷◌, ◌++◌, length, take, Option, Some, None, append-nil}
use Rattle.std.proofs.lemmas.List.{take-append-le}
use Rattle.jdata.specs.declared.path.PyxId.{PyxId}
use Rattle.juses.specs.Desk.{State, moved, waiting_work, pyx_work, begin_reply, bytes_of, has_unended}
use Rattle.juses.specs.Entries.{entry, pyx_of}
use Rattle.juses.specs.Keeping.{after_begin}
use Rattle.juses.specs.Leading.{Leads, LeadsFrom}
use Rattle.juses.specs.Standing.{Kept, Stands, Answers, OnlyMoves, phase_in, closed_by}
use Rattle.juses.specs.Told.{replied, asked_for, closed_with, nothing}
use Rattle.juses.specs.declared.kept.Phase.{Phase}
use Rattle.juses.specs.declared.kept.Phase.TheVariants.{Waiting, Running, Over}
use Rattle.juses.specs.declared.uses.Cause.{Cause}
use Rattle.juses.specs.declared.uses.Use.{Use}
use Rattle.juses.specs.declared.uses.Use.TheVariants.{Begin}
use Rattle.juses.specs.declared.uses.Reply.{Reply}
use Rattle.juses.specs.declared.uses.Reply.TheVariants.{Done}
use Rattle.juses.specs.declared.uses.Why.TheVariants.{Started, Opening, Working, Ending}
use Rattle.juses.specs.declared.uses.Work.{Work}
use Rattle.juses.proofs.Desks.{stands_after, only_so}

-- what was handed out isn't touched by what is printed
same_out : (d d' : Kept) (s : State) (bytes : List ℕ) → Stands d s → d'.handed ≡ d.handed → take d'.handed (s.printed ++ bytes) ≡ take d.handed s.printed ++ []
same_out d d' s bytes st is = ap (λ n. take n (s.printed ++ bytes)) is ∙ (take-append-le d.handed s.printed bytes st.handed ∙ sym (append-nil (take d.handed s.printed)))

pub leads_reply : (d d' : Kept) (who : List ℕ) (u : Use) (r : Reply) → Answers d who 0 u r d' → OnlyMoves d d' → Leads d (replied (entry who 0 u r)) d'
leads_reply d d' who u r a o = record {
  from = λ s st. record { tells = ((refl, (a s st).0), tt); stands = (a s st).1; out = same_out d d' s (bytes_of u) st o.handed };
  closed = o.closed;
}

pub leads_same : (d d' : Kept) → d' ≡ d → Leads d nothing d'
leads_same d d' is = subst (λ x. Leads d nothing x) (sym is) (record { from = λ s st. record { tells = tt; stands = st; out = sym (append-nil (take d.handed s.printed)) }; closed = refl })

begins : (p : Option Phase) (work : Work) → waiting_work p ≡ Some work → begin_reply p ≡ Some Done
begins (Some (Waiting pool w)) work e = refl
begins (Some (Running pool th)) work e = cc
begins (Some (Over o)) work e = cc
begins None work e = cc

stays : (d : Kept) (task : List ℕ) (p : Option Phase) → waiting_work p ≡ None → after_begin d task 0 p ≡ d
stays d task (Some (Waiting pool w)) e = cc
stays d task (Some (Running pool th)) e = refl
stays d task (Some (Over o)) e = refl
stays d task None e = refl

-- a task that was just started is handed out
pub leads_handed : (d d' : Kept) (task : List ℕ) (work : Work) (pyx : PyxId) → pyx ≡ pyx_of task → Some work ≡ waiting_work (phase_in d.tasks task) → d' ≡ after_begin d task 0 (phase_in d.tasks task)
    → Leads d (asked_for 0 (Started pyx) (Some (task, work))) d'
leads_handed d d' task work pyx is waits after =
    let o = only_so d d' task 0 Begin after in
    record {
      from = λ s st. record {
        tells = ((refl, is, ap waiting_work (st.phase task) ∙ sym waits), tt);
        stands = subst (λ x. Stands x (moved s (entry task 0 Begin Done))) (sym after) (stands_after d s st task 0 Begin Done (begins (phase_in d.tasks task) work (sym waits)));
        out = same_out d d' s [] st o.handed;
      };
      closed = o.closed;
    }

pub leads_none : (d d' : Kept) (pyx : PyxId) → ((s : State) → Stands d s → pyx_work pyx.number (s.phase pyx.path) ≡ None) → d' ≡ d → Leads d (asked_for 0 (Started pyx) None) d'
leads_none d d' pyx none is =
    subst (λ x. Leads d (asked_for 0 (Started pyx) None) x) (sym is) (record { from = λ s st. record { tells = (none s st, tt); stands = st; out = sym (append-nil (take d.handed s.printed)) }; closed = refl })

-- a task that doesn't wait
pub leads_not_waiting : (d d' : Kept) (pyx : PyxId) → pyx.number ≡ 0 → None ≡ waiting_work (phase_in d.tasks pyx.path) → d' ≡ after_begin d pyx.path 0 (phase_in d.tasks pyx.path) → Leads d (asked_for 0 (Started pyx) None) d'
leads_not_waiting d d' pyx zeroth waits after =
    leads_none d d' pyx (λ s st. ap (λ n. pyx_work n (s.phase pyx.path)) zeroth ∙ (ap waiting_work (st.phase pyx.path) ∙ sym waits)) (after ∙ stays d pyx.path (phase_in d.tasks pyx.path) (sym waits))

pub leads_opening : (d : Kept) (pyx : PyxId) → Leads d (asked_for 0 (Opening pyx) None) d
leads_opening d pyx = record { from = λ s st. record { tells = (tt, tt); stands = st; out = sym (append-nil (take d.handed s.printed)) }; closed = refl }

pub leads_working : (d : Kept) (thread : ℕ) → Leads d (asked_for 0 (Working thread) None) d
leads_working d thread = record { from = λ s st. record { tells = (tt, tt); stands = st; out = sym (append-nil (take d.handed s.printed)) }; closed = refl }

pub leads_ended : (d : Kept) → has_unended (phase_in d.tasks) d.order ≡ false → Leads d (asked_for 0 Ending None) d
leads_ended d none = record {
  from = λ s st. record { tells = ((λ i. has_unended (λ t. st.phase t i) (st.tasks i)) ∙ none, tt); stands = st; out = sym (append-nil (take d.handed s.printed)) };
  closed = refl;
}
