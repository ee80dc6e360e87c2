-- What callers see of a pass, from what it knows.
use Rattle.std.proofs.Common.{◌≡◌, ℕ, ◌<◌, Bool, true, false, cond, List, [], ◌∷◌, ◌++◌, length, sym, refl, ap, ◌∙◌, subst}
use Rattle.std.proofs.lemmas.Bool.{ltb-true}
use Rattle.atomic_table.specs.Seated.{TableId}
use Rattle.jturn.specs.declared.board.View.{View}
use Rattle.jturn.specs.Pass.{Pass, Enters, StartsWith, entries, entries_at}
use Rattle.jturn.specs.Turned.{IsInside}
use Rattle.jturn.specs.Steps.{known, waits, enters, glued, is_shorter}
use Rattle.jturn.specs.Laws.{starts_self}
use Rattle.jturn.proofs.Entries.{entries_begin, entries_joined, entries_more}

module _ {E : Type 0} where
  enters_known : (z : TableId) (v : View E) (t : ℕ) (log : List E) (marked : ℕ × ℕ) → StartsWith log v.seen → (0 < v.marks → marked ≡ v.mark) → IsInside v → Enters (known z v) (known z (enters log marked t (waits t v)))
  enters_known z v t log marked begins marks inside = record {
    turn = refl;
    seen = begins;
    own = refl;
    entries = entries_begin log v.seen v.own begins inside;
    parts = refl;
    is_marker = refl;
    mark = λ e. marks (ltb-true 0 v.marks e);
    constant = refl;
  }

  pub enters_pass : (z z' : TableId) (v v' w : View E) (pass : Pass E) (t : ℕ) (log : List E) (marked : ℕ × ℕ) → known z v ≡ pass → z' ≡ z → v' ≡ waits t v → w ≡ enters log marked t v'
      → StartsWith log v'.seen → (0 < v'.marks → marked ≡ v'.mark) → IsInside v → Enters pass (known z' w)
  enters_pass z z' v v' w pass t log marked is same drawn entered begins marks inside =
      let begins' : StartsWith log v.seen = subst (λ (u : View E). StartsWith log u.seen) drawn begins in
      let marks' : 0 < v.marks → marked ≡ v.mark = subst (λ (u : View E). 0 < u.marks → marked ≡ u.mark) drawn marks in
      let is' : enters log marked t (waits t v) ≡ w = sym (entered ∙ ap (λ (u : View E). enters log marked t u) drawn) in
      subst (λ (q : Pass E × Pass E). Enters q.0 q.1) (λ i. (is i, known (sym same i) (is' i))) (enters_known z v t log marked begins' marks' inside)

  pub commits_entry : (z : TableId) (v w : View E) (pass : Pass E) (e : E) → known z v ≡ pass → w.seen ≡ v.seen ++ e ∷ [] → w.own ≡ v.own ++ length v.seen ∷ [] → IsInside v → entries_at w.seen w.own ≡ entries pass ++ e ∷ []
  commits_entry z v w pass e is s o inside = (λ i. entries_at (s i) (o i)) ∙ (entries_more v.seen v.own e inside ∙ ap (λ (p : Pass E). entries p ++ e ∷ []) is)

  both_begin : (b : Bool) (xs ys : List E) → StartsWith (cond b ys xs) (cond b xs ys) → StartsWith (cond b ys xs) xs × StartsWith (cond b ys xs) ys
  both_begin true xs ys h = (h, starts_self ys)
  both_begin false xs ys h = (starts_self xs, h)

  pub joins_entries : (z z' : TableId) (v w u : View E) (one other : Pass E) → known z v ≡ one → known z' w ≡ other → u ≡ glued v w → StartsWith (glued v w).seen (glued v w).told → IsInside v → IsInside w
      → entries_at u.seen u.own ≡ entries one ++ entries other
  joins_entries z z' v w u one other is is' joined told inside inside' = let begin = both_begin (is_shorter v.seen w.seen) v.seen w.seen told in
      ap (λ (q : View E). entries_at q.seen q.own) joined ∙ (entries_joined (glued v w).seen v.seen w.seen v.own w.own begin.0 begin.1 inside inside' ∙ (λ i. entries (is i) ++ entries (is' i)))
