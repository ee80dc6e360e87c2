use Rattle.std.proofs.Common.{rules, arith, ◌≡◌, ◌≢◌, ◌≤◌, ◌<◌, length, sym, ◌∙◌, ap, ◌+◌}
use Rattle.jwords.specs.declared.naming.Place.TheVariants.{Inside}
use Rattle.jwords.proofs.NameParts.{progress_start, progress_more, progress_stuck, progress_end, progress_unfinished}
use Rattle.jwords.proofs.naming.joined_names.Goals as goal

pub loop-byte-init : goal.loop-byte-init
loop-byte-init c = record { read = progress_start c.args.names.now; few = omega arith }

pub loop-byte-preserved : goal.loop-byte-preserved
loop-byte-preserved c = record {
  read = progress_more c.loop-byte.place c.in-Some.next c.loop-byte.count _ c.args.names.now c.args.names.now c.loop-byte.byte-index
      (omega arith) c.loop-byte.invariant.read (sym c.next_place.ensures ∙ c.in-Some.is) (ap (λ n. c.loop-byte.count + n) c.starts-count.ensures.starts);
  few = omega arith;
}

pub returns-in_default-clause-none : goal.returns-in_default-clause-none
returns-in_default-clause-none c = progress_stuck c.loop-byte.place c.loop-byte.count c.args.names.now c.args.names.now c.loop-byte.byte-index
    (omega arith) c.loop-byte.invariant.read (sym c.next_place.ensures ∙ c.in_default.is)

pub returns-in-Inside-clause-some : goal.returns-in-Inside-clause-some
returns-in-Inside-clause-some c =
    progress_end c.loop-byte.place c.loop-byte.count c.args.names.now c.args.names.now c.loop-byte.byte-index (omega arith) c.loop-byte.invariant.read c.in-Inside.is

pub returns-in_default-place : goal.returns-in_default-place
returns-in_default-place c = record {
  some = tt;
  none = progress_unfinished c.loop-byte.place c.loop-byte.count c.args.names.now c.args.names.now c.loop-byte.byte-index (omega arith)
      c.loop-byte.invariant.read c.in_default-place.not-Inside;
}
