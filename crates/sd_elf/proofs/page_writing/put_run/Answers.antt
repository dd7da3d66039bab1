use Rattle.std.proofs.Common.{ℕ, List, sym, arith, subst}
use Rattle.std.specs.List.{flat_map}
use Rattle.std.specs.Io.KnownBytes.{Appends}
use Rattle.std.proofs.KnownBytes.{Appends-nil, Appends-trans}
use Rattle.sd_disk.specs.Reads.{nothing_read, reads_join}
use Rattle.sd_restore.proofs.RunLemmas.{first_pages}
use Rattle.sd_elf.specs.Texts.{placed_bytes, run_part_bytes}
use Rattle.sd_elf.proofs.PageLemmas.{first_more, none_of_run}
use Rattle.sd_elf.proofs.page_writing.put_run.Goals as goal

pub loop-done-init : goal.loop-done-init
loop-done-init g c = record {
  few = omega arith;
  reads = nothing_read g.D.Disk c.args.disk.now;
  written = λ honest.
      let from = g.O.CoreOutput.contents c.args.out.now in
      subst (Appends from from) (sym (none_of_run (g.D.Disk.contents c.args.disk.now) c.args.run.now)) (Appends-nil from);
}

pub loop-done-preserved : goal.loop-done-preserved
loop-done-preserved g c =
    let was = c.loop-done.invariant in
    let now = c.in_ok-put_some.ensures in
    let contents : List (List ℕ) = g.D.Disk.contents c.args.disk.now in
    let run = c.args.run.now in
    let done : ℕ = c.loop-done.done in
    let count : ℕ = c.min-count.result in
    let from = g.O.CoreOutput.contents c.args.out.now in
    let mid = g.O.CoreOutput.contents c.loop-done.out in
    let to = g.O.CoreOutput.contents c.put_some.new.out in
    record {
      few = let least = c.min-count.ensures in let left = c.loop-done-test.true in omega (arith, least, left);
      reads = reads_join g.D.Disk c.args.disk.now c.loop-done.disk c.put_some.new.disk was.reads now.reads;
      written = λ honest.
          subst (Appends from to) (sym (first_more contents run done count))
          (Appends-trans from mid to (flat_map (placed_bytes contents) (first_pages run done)) (run_part_bytes contents run done count) (was.written (now.reads.honest honest))
          (subst (λ contents. Appends mid to (run_part_bytes contents run done count)) was.reads.same (now.text honest)));
    }
