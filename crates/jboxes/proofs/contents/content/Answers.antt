use Rattle.std.proofs.Common.{sym, ap, ◌∙◌}
use Rattle.std.proofs.lemmas.Result.{IfOk-weaker}
use Rattle.jdata.specs.Trees.{atom_of}
use Rattle.jboxes.specs.Monads.{content_of}
use Rattle.jboxes.proofs.Opened.{content_of_box, content_of_pyx}
use Rattle.jboxes.proofs.contents.content.Goals as goal

pub returns-in-Boxed : goal.returns-in-Boxed
returns-in-Boxed c = sym (ap (λ x. content_of (atom_of x)) c.in-Boxed.is ∙ content_of_box c.in-Boxed.tree)

pub returns-in-Pyx : goal.returns-in-Pyx
returns-in-Pyx c =
    IfOk-weaker c.no_content.result _ _ (λ tree h. h ∙ sym (ap (λ x. content_of (atom_of x)) c.in-Pyx.is ∙ content_of_pyx c.in-Pyx.field-0)) c.no_content.ensures
