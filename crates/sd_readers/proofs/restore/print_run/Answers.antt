use Rattle.std.proofs.Common.{Err, ℕ, List, sym, arith, subst}
use Rattle.std.specs.List.{flat_map}
use Rattle.std.specs.Io.KnownBytes.{Appends}
use Rattle.std.proofs.KnownBytes.{Appends-nil, Appends-trans}
use Rattle.sd_disk.specs.Reads.{nothing_read, reads_join}
use Rattle.sd_restore.proofs.RunLemmas.{first_pages}
use Rattle.sd_readers.specs.Texts.{part_of_run, placed_text}
use Rattle.std.proofs.lemmas.Result.{err_from_is_err_and}
use Rattle.sd_readers.proofs.BreakLemmas.{run_broken}
use Rattle.sd_readers.proofs.PageLemmas.{first_more, none_of_run}
use Rattle.sd_readers.proofs.restore.print_run.Goals as goal

pub loop-done-init : goal.loop-done-init
loop-done-init g c = record {
  few = omega arith;
  reads = nothing_read g.D.Disk c.args.disk.now;
  printed = λ honest.
      let from = g.W.Write.contents c.args.out.now.writer in
      subst (Appends from from) (sym (none_of_run (g.D.Disk.contents c.args.disk.now) c.args.run.now)) (Appends-nil from);
}

pub loop-done-preserved : goal.loop-done-preserved
loop-done-preserved g c =
    let was = c.loop-done.invariant in
    let now = c.in_ok-print_some.ensures in
    let contents : List (List ℕ) = g.D.Disk.contents c.args.disk.now in
    let run = c.args.run.now in
    let done : ℕ = c.loop-done.done in
    let count : ℕ = c.min-count.result in
    let from = g.W.Write.contents c.args.out.now.writer in
    let mid = g.W.Write.contents c.loop-done.out.writer in
    let to = g.W.Write.contents c.print_some.new.out.writer in
    record {
      few = let least = c.min-count.ensures in let left = c.loop-done-test.true in omega (arith, least, left);
      reads = reads_join g.D.Disk c.args.disk.now c.loop-done.disk c.print_some.new.disk was.reads now.reads;
      printed = λ honest.
          subst (Appends from to) (sym (first_more contents run done count))
          (Appends-trans from mid to (flat_map (placed_text contents) (first_pages run done)) (part_of_run contents run done count) (was.printed (now.reads.honest honest))
          (subst (λ contents. Appends mid to (part_of_run contents run done count)) was.reads.same (now.text honest)));
    }

pub returns-in_err-print_some-clause-begins : goal.returns-in_err-print_some-clause-begins
returns-in_err-print_some-clause-begins g c = λ honest.
    let was = c.loop-done.invariant in
    let now = c.in_err-print_some.ensures in
    let contents : List (List ℕ) = g.D.Disk.contents c.args.disk.now in
    let run = c.args.run.now in
    let done : ℕ = c.loop-done.done in
    let count : ℕ = c.min-count.result in
    let from = g.W.Write.contents c.args.out.now.writer in
    let mid = g.W.Write.contents c.loop-done.out.writer in
    let to = g.W.Write.contents c.print_some.new.out.writer in
    let p = err_from_is_err_and c.from_residual.result c.from_residual.ensures.1 in
    rw (p.1, p.2)
    (run_broken contents run done count (Err c.in_err-print_some.field-0.0) from mid to (let least = c.min-count.ensures in let left = c.loop-done-test.true in omega (arith, least, left))
    (was.printed (now.reads.honest honest)) (rw was.reads.same at (now.begins honest)))
