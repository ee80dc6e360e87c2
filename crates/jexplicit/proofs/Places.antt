-- The control words and sentences of a definition stand in its lines.
use Rattle.std.proofs.Common.{◌≡◌, ℕ, zero, suc, ◌+◌, ◌<◌, ◌≤◌, ◌==◌, Bool, true, false, cond, List, [], ◌∷◌, ◌++◌, length, take, drop, refl, sym, subst, arith, Some, None, Result, Ok, Err, zero-add}
use Rattle.std.specs.List.{All, slice_get}
use Rattle.std.proofs.lemmas.List.Elements.{All-append, All-push}
use Rattle.jdata.specs.declared.fault.Fault.{Fault}
use Rattle.jwords.specs.declared.word.Word.{Word}
use Rattle.jexplicit.specs.Body.{all_paired, cut_lines, dyad_lines, is_refused, monad_lines, parts_of, split_of}
use Rattle.jexplicit.specs.Meant.{Meaning, Stands, both, definition_of, kinds, of_lines, of_parts, of_split}
use Rattle.jexplicit.specs.Parting.{begun, begun_after, ended_by, parted, role_of, sentence_before, stretch, stretches}
use Rattle.jexplicit.specs.Reading.{reads}
use Rattle.jexplicit.specs.declared.body.CutLine.{CutLine}
use Rattle.jexplicit.specs.declared.body.Form.{Form}
use Rattle.jexplicit.specs.declared.body.Split.{Split}
use Rattle.jexplicit.specs.declared.kind.Kind.{Kind}
use Rattle.jexplicit.specs.declared.kind.Kind.TheVariants as kind
use Rattle.jexplicit.specs.declared.stretch.Begun.{Begun}
use Rattle.jexplicit.specs.declared.stretch.Role.{Role}
use Rattle.jexplicit.specs.declared.stretch.Role.TheVariants as role
use Rattle.jexplicit.specs.declared.stretch.Stretch.{Stretch}
use Rattle.jexplicit.specs.declared.valence.Valence.{Valence}

-- a stretch of the line with this number, which has so many words
pub record InLine (number total : ℕ) (s : Stretch) : Type 0 where
  pub same : s.line ≡ number
  pub some : s.from < s.to
  pub within : s.to ≤ total

none : (P : Stretch → Type 0) → All P []
none P = λ k d h. absurd (omega (arith, h))

one : (P : Stretch → Type 0) (s : Stretch) → P s → All P (s ∷ [])
one P s h = All-push P [] s (none P) h

by_full : (full : Bool) (number total first at : ℕ) → at ≤ total → (full ≡ true → first < at)
    → All (InLine number total) (cond full (stretch kind.Sentence number first at ∷ []) [])
by_full true number total first at h f =
    one (InLine number total) (stretch kind.Sentence number first at) (record { same = refl; some = f refl; within = h })
by_full false number total first at h f = none (InLine number total)

by_depth : (top : Bool) (k : Kind) (number total at : ℕ) (before : List Stretch) → at + 1 ≤ total → All (InLine number total) before
    → All (InLine number total) (cond top (before ++ stretch k number at (at + 1) ∷ []) [])
by_depth true k number total at before h f =
    All-push (InLine number total) before (stretch k number at (at + 1)) f (record { same = refl; some = omega arith; within = h })
by_depth false k number total at before h f = none (InLine number total)

ended_in : (r : Role) (number total at : ℕ) (b : Begun) → at + 1 ≤ total → (b.full ≡ true → b.from < at) → All (InLine number total) (ended_by r number at b)
ended_in (role.Control k) number total at b h f = by_depth (b.depth == 0) k number total at (sentence_before number at b) h (by_full b.full number total b.from at (omega (arith, h)) f)
ended_in role.Open number total at b h f = none (InLine number total)
ended_in role.Close number total at b h f = none (InLine number total)
ended_in role.Comment number total at b h f = none (InLine number total)
ended_in role.Other number total at b h f = none (InLine number total)

-- a stretch begins at most at this place, and before it if it is full
pub record BeginsBy (at : ℕ) (b : Begun) : Type 0 where
  pub first : b.from ≤ at
  pub full : b.full ≡ true → b.from < at

after_control : (top : Bool) (at : ℕ) (b : Begun) → BeginsBy at b → BeginsBy (at + 1) (cond top (begun 0 (at + 1) false) (begun b.depth b.from true))
after_control true at b h = record { first = omega arith; full = λ e. absurd (cc e) }
after_control false at b h = record { first = omega (arith, h.first); full = λ e. omega (arith, h.first) }

after_in : (r : Role) (at : ℕ) (b : Begun) → BeginsBy at b → BeginsBy (at + 1) (begun_after r at b)
after_in (role.Control k) at b h = after_control (b.depth == 0) at b h
after_in role.Open at b h = record { first = omega (arith, h.first); full = λ e. omega (arith, h.first) }
after_in role.Close at b h = record { first = omega (arith, h.first); full = λ e. omega (arith, h.first) }
after_in role.Comment at b h = record { first = omega (arith, h.first); full = λ e. omega (arith, h.first) }
after_in role.Other at b h = record { first = omega (arith, h.first); full = λ e. omega (arith, h.first) }

parted_in : (number : ℕ) (line : List ℕ) (ws : List Word) (at total : ℕ) (b : Begun) → at + length ws ≡ total → BeginsBy at b
    → All (InLine number total) (parted number line ws at b)
parted_in number line [] at total b e h = by_full b.full number total b.from at (omega (arith, e)) h.full
parted_in number line (w ∷ ws) at total b e h =
    All-append (InLine number total) (ended_by (role_of line w) number at b) (parted number line ws (at + 1) (begun_after (role_of line w) at b))
    (ended_in (role_of line w) number total at b (omega (arith, e)) h.full)
    (parted_in number line ws (at + 1) total (begun_after (role_of line w) at b) (omega (arith, e)) (after_in (role_of line w) at b h))

in_line : (number : ℕ) (line : List ℕ) (words : List Word) → All (InLine number (length words)) (stretches number line words)
in_line number line words = parted_in number line words 0 (length words) (begun 0 0 false) (omega arith) (record { first = omega arith; full = λ e. absurd (cc e) })

get_take : (xs : List CutLine) (m k : ℕ) (x : CutLine) → slice_get (take m xs) k ≡ Some x → slice_get xs k ≡ Some x
get_take [] zero k x h = h
get_take [] (suc m) k x h = h
get_take (y ∷ xs) zero k x h = absurd (cc h)
get_take (y ∷ xs) (suc m) zero x h = h
get_take (y ∷ xs) (suc m) (suc k) x h = get_take xs m k x h

get_drop : (xs : List CutLine) (d k : ℕ) (x : CutLine) → slice_get (drop d xs) k ≡ Some x → slice_get xs (d + k) ≡ Some x
get_drop [] zero k x h = h
get_drop [] (suc d) k x h = h
get_drop (y ∷ xs) zero k x h = subst (λ (n : ℕ). slice_get (y ∷ xs) n ≡ Some x) (sym (zero-add k)) h
get_drop (y ∷ xs) (suc d) k x h =
    let e : suc (d + k) ≡ suc d + k = omega arith in
    subst (λ (n : ℕ). slice_get (y ∷ xs) n ≡ Some x) e (get_drop xs d k x h)

stands : (all : List CutLine) (number : ℕ) (line : CutLine) (s : Stretch) → slice_get all number ≡ Some line → InLine number (length line.words) s → Stands all s
stands all number line s there i = record {
  line = line;
  there = subst (λ (n : ℕ). slice_get all n ≡ Some line) (sym i.same) there;
  some = i.some;
  within = i.within;
}

parts_in : (all : List CutLine) (number : ℕ) (lines : List CutLine) → ((k : ℕ) (x : CutLine) → slice_get lines k ≡ Some x → slice_get all (number + k) ≡ Some x)
    → All (Stands all) (parts_of number lines)
parts_in all number [] h = none (Stands all)
parts_in all number (line ∷ rest) h =
    let z : number + 0 ≡ number = omega arith in
    let there : slice_get all number ≡ Some line = subst (λ (n : ℕ). slice_get all n ≡ Some line) z (h 0 line refl) in
    All-append (Stands all) (stretches number line.text line.words) (parts_of (number + 1) rest)
    (λ k d l. stands all number line _ there (in_line number line.text line.words k d l))
    (parts_in all (number + 1) rest (λ k x g. let e : number + suc k ≡ (number + 1) + k = omega arith in subst (λ (n : ℕ). slice_get all n ≡ Some x) e (h (suc k) x g)))

both_stand : (p q : Bool) (lines : List CutLine) (s : Split) (v w : Valence) (m : Meaning) → both lines s (cond p (Some v) None) (cond q (Some w) None) ≡ Ok m
    → All (Stands lines) v.parts → All (Stands lines) w.parts → All (Stands m.lines) (m.monad.parts ++ m.dyad.parts)
both_stand true true lines s v w m h a b =
    let e : record { lines = lines; split = s; monad = v; dyad = w } ≡ m = cc h in
    subst (λ (n : Meaning). All (Stands n.lines) (n.monad.parts ++ n.dyad.parts)) e (All-append (Stands lines) v.parts w.parts a b)
both_stand true false lines s v w m h a b = absurd (cc h)
both_stand false q lines s v w m h a b = absurd (cc h)

parts_stand : (lines : List CutLine) (s : Split) (m : Meaning) → of_parts lines s (parts_of 0 (monad_lines s lines)) (parts_of s.dyad_from (dyad_lines s lines)) ≡ Ok m
    → All (Stands m.lines) (m.monad.parts ++ m.dyad.parts)
parts_stand lines s m h =
    both_stand (reads (kinds (parts_of 0 (monad_lines s lines))) []) (reads (kinds (parts_of s.dyad_from (dyad_lines s lines))) []) lines s _ _ m h
    (parts_in lines 0 (monad_lines s lines) (λ k x g. subst (λ (n : ℕ). slice_get lines n ≡ Some x) (sym (zero-add k)) (get_take lines s.monad_to k x g)))
    (parts_in lines s.dyad_from (dyad_lines s lines) (get_drop lines s.dyad_from))

was_right : (b : Bool) (r : Result Meaning Fault) (why : Fault) (m : Meaning) → cond b r (Err why) ≡ Ok m → r ≡ Ok m
was_right true r why m h = h
was_right false r why m h = absurd (cc h)

was_left : (b : Bool) (r : Result Meaning Fault) (why : Fault) (m : Meaning) → cond b (Err why) r ≡ Ok m → r ≡ Ok m
was_left true r why m h = absurd (cc h)
was_left false r why m h = h

split_stands : (lines : List CutLine) (s : Split) (m : Meaning) → of_split lines s ≡ Ok m → All (Stands m.lines) (m.monad.parts ++ m.dyad.parts)
split_stands lines s m h = parts_stand lines s m (was_right (all_paired lines) _ _ m h)

lines_stand : (f : Form) (text : List ℕ) (r : Result (List CutLine) Fault) (m : Meaning) → of_lines f text r ≡ Ok m → All (Stands m.lines) (m.monad.parts ++ m.dyad.parts)
lines_stand f text (Ok lines) m h = split_stands lines (split_of f lines) m (was_left (is_refused f text lines) _ _ m h)
lines_stand f text (Err why) m h = absurd (cc h)

pub each_part_stands : (f : Form) (text : List ℕ) (m : Meaning) → definition_of f text ≡ Ok m → All (Stands m.lines) (m.monad.parts ++ m.dyad.parts)
each_part_stands f text m h = lines_stand f text (cut_lines text) m h
