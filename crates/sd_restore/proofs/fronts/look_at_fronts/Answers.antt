use Rattle.std.proofs.Common.{rules, arith, refl, ◌∙◌}
use Rattle.sd_disk.specs.Reads.{nothing_read, reads_join}
use Rattle.sd_restore.proofs.CallLemmas.{none_failed}
use Rattle.sd_restore.proofs.fronts.look_at_fronts.Goals as goal

pub loop-init : goal.loop-init
loop-init g c = record {
  within = omega arith;
  reads = nothing_read g.D.Disk c.args.disk.now;
  stays = refl;
  calls = omega arith;
}

pub loop-preserved : goal.loop-preserved
loop-preserved g c =
    let was = c.loop.invariant in
    let now = c.in_ok-look_at_front.ensures in
    record {
      within = omega (arith, c.loop-test.true);
      reads = reads_join g.D.Disk c.args.disk.now c.loop.disk c.look_at_front.new.disk was.reads now.reads;
      stays = none_failed c.in_ok-look_at_front.field-0 (g.D.Disk.failed c.loop.disk) (g.D.Disk.failed c.look_at_front.new.disk) now.reads.failures now.stops ∙ was.stays;
      calls = let before = was.calls in let one = now.calls in omega (arith, before, one);
    }
