-- What leads from one desk to another, on one thread.
use Rattle.std.specs.Prelude.{◌≡◌, ℕ, List, [], ◌∷◌, ◌++◌, take, Option}
use Rattle.std.proofs.Common.{refl, sym, subst, ap, ◌∙◌, append_assoc, append-nil}
use Rattle.juses.specs.Desk.{State}
use Rattle.juses.specs.OldestFirst.{moved_by, taken, Tells}
use Rattle.juses.specs.Standing.{Kept, Stands, first_cause}
use Rattle.juses.specs.Told.{Told, Passed, nothing, ◌followed_by◌}
use Rattle.juses.specs.declared.uses.Cause.{Cause}

-- the printed bytes that were handed out
abbrev pub out_of : Kept → State → List ℕ
out_of d s = take d.handed s.printed

-- why a desk is closed, if it is, after closings with these causes
abbrev pub closed_after : Option Cause → List Cause → Option Cause
closed_after closed [] = closed
closed_after closed (cause ∷ causes) = closed_after (first_cause closed cause) causes

-- each reply is the definition's, the second desk stands for the state that what is told leads to, and the bytes are what
-- was handed out since
pub record LeadsFrom (d : Kept) (s : State) (p : Passed) (d' : Kept) : Type 0 where
  pub tells : Tells 0 s p.told
  pub stands : Stands d' (taken s p.told)
  pub out : out_of d' (taken s p.told) ≡ out_of d s ++ p.handed

-- so from each state that the first desk stands for; and it was closed as is told, and not otherwise
pub record Leads (d : Kept) (p : Passed) (d' : Kept) : Type 0 where
  pub from : (s : State) → Stands d s → LeadsFrom d s p d'
  pub closed : d'.closed ≡ closed_after d.closed p.closed

pub leads_nowhere : (d : Kept) → Leads d nothing d
leads_nowhere d = record { from = λ s st. record { tells = tt; stands = st; out = sym (append-nil (out_of d s)) }; closed = refl }

pub taken-append : (s : State) (xs ys : List Told) → taken s (xs ++ ys) ≡ taken (taken s xs) ys
taken-append s [] ys = refl
taken-append s (x ∷ xs) ys = taken-append (moved_by s x) xs ys

pub both_tell : (s : State) (xs ys : List Told) → Tells 0 s xs → Tells 0 (taken s xs) ys → Tells 0 s (xs ++ ys)
both_tell s [] ys one other = other
both_tell s (x ∷ xs) ys one other = (one.0, both_tell (moved_by s x) xs ys one.1 other)

closed_after-append : (closed : Option Cause) (cs es : List Cause) → closed_after closed (cs ++ es) ≡ closed_after (closed_after closed cs) es
closed_after-append closed [] es = refl
closed_after-append closed (c ∷ cs) es = closed_after-append (first_cause closed c) cs es

pub leads_on : (d c b : Kept) (p q : Passed) → Leads d p c → Leads c q b → Leads d (p followed_by q) b
leads_on d c b p q one other =
    record {
      from = on;
      closed = other.closed ∙ ap (λ o. closed_after o q.closed) one.closed ∙ sym (closed_after-append d.closed p.closed q.closed);
    }
  where
    on : (s : State) → Stands d s → LeadsFrom d s (p followed_by q) b
    on s st =
        let half = one.from s st in
        let rest = other.from (taken s p.told) half.stands in
        let P : State → Type 0 = Stands b in
        record {
          tells = both_tell s p.told q.told half.tells rest.tells;
          stands = subst P (sym (taken-append s p.told q.told)) rest.stands;
          out = ap (out_of b) (taken-append s p.told q.told) ∙ rest.out ∙ ap (λ xs. xs ++ q.handed) half.out ∙ append_assoc (out_of d s) p.handed q.handed;
        }
