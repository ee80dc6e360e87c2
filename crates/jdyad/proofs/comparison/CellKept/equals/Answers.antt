use Rattle.std.proofs.Common.{sym, true≢false}
use Rattle.std.proofs.lemmas.Bool.Decides.{Decides-at}
use Rattle.jdata.proofs.Names.{pyxes_decide}
use Rattle.jdata.proofs.Matching.{boxes_match, pyxes_match, box_is_no_pyx}
use Rattle.jdyad.proofs.Comparing.{equal_when}
use Rattle.jdyad.proofs.comparison.CellKept.equals.Goals as goal

pub returns-in-Boxed-Boxed : goal.returns-in-Boxed-Boxed
returns-in-Boxed-Boxed c =
    let both = boxes_match c.in-Boxed-Boxed.left c.in-Boxed-Boxed.right in
    rw (c.in-Boxed-Boxed.is-0, c.in-Boxed-Boxed.is-1) (equal_when _ _ _ c.same.ensures both.1 both.0)

pub returns-in-Pyx-Pyx : goal.returns-in-Pyx-Pyx
returns-in-Pyx-Pyx c =
    let both = pyxes_match c.in-Pyx-Pyx.left c.in-Pyx-Pyx.right in
    rw (c.in-Pyx-Pyx.is-0, c.in-Pyx-Pyx.is-1) (equal_when _ _ _ (Decides-at _ _ c.eq.ensures (pyxes_decide c.in-Pyx-Pyx.left c.in-Pyx-Pyx.right)) both.1 both.0)

pub returns-in-Boxed-Pyx : goal.returns-in-Boxed-Pyx
returns-in-Boxed-Pyx c =
    rw (c.in-Boxed-Pyx.is-0, c.in-Boxed-Pyx.is-1) (equal_when {P = ⊥} _ _ _ (λ h. true≢false (sym h), λ h. absurd h) (λ h. absurd h) (box_is_no_pyx _ _))

pub returns-in-Pyx-Boxed : goal.returns-in-Pyx-Boxed
returns-in-Pyx-Boxed c =
    rw (c.in-Pyx-Boxed.is-0, c.in-Pyx-Boxed.is-1) (equal_when {P = ⊥} _ _ _ (λ h. true≢false (sym h), λ h. absurd h) (λ h. absurd h) (λ e. box_is_no_pyx _ _ (sym e)))
