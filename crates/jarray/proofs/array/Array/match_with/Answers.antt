use Rattle.std.proofs.Common.{sym, ap}
use Rattle.jdata.specs.Match.{plain}
use Rattle.jarray.proofs.Atoms.{alone_match, only_itself}
use Rattle.jarray.proofs.array.Array.match_with.Goals as goal

pub returns-in-Atom-Atom : goal.returns-in-Atom-Atom
returns-in-Atom-Atom c =
    let both = alone_match c.in-Atom-Atom.left c.in-Atom-Atom.right in
    rw (← c.self.view_is, ← c.other.view_is) (rw (c.in-Atom-Atom.is-0, c.in-Atom-Atom.is-1) (λ h. both.1 (c.equal.ensures.0 h), λ e. c.equal.ensures.1 (both.0 e)))

pub returns-in-Atom-Own : goal.returns-in-Atom-Own
returns-in-Atom-Own c =
    rw (← c.self.view_is, ← c.other.view_is) (rw (c.in-Atom-Own.is-0, c.in-Atom-Own.is-1) (λ h. ap plain (sym (c.is_atom.ensures.0 h)), λ e. c.is_atom.ensures.1 (only_itself c.in-Atom-Own.right c.in-Atom-Own.left (sym e))))

pub returns-in-Own-Atom : goal.returns-in-Own-Atom
returns-in-Own-Atom c =
    rw (← c.self.view_is, ← c.other.view_is) (rw (c.in-Own-Atom.is-0, c.in-Own-Atom.is-1) (λ h. ap plain (c.is_atom-in-Own-Atom.ensures.0 h), λ e. c.is_atom-in-Own-Atom.ensures.1 (only_itself c.in-Own-Atom.left c.in-Own-Atom.right e)))
