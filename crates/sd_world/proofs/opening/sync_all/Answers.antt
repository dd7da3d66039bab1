use Rattle.std.proofs.Common.{rules, arith, subst}
use Rattle.sd_disk.specs.Contents.{file_at}
use Rattle.sd_disk.specs.Crash.{OnlyAt}
use Rattle.sd_disk.specs.Reads.{nothing_read, reads_join}
use Rattle.sd_world.proofs.OpenLemmas.{synced_more}
use Rattle.sd_world.proofs.opening.sync_all.Goals as goal

pub loop-slot-init : goal.loop-slot-init
loop-slot-init g c = record {
  reads = nothing_read g.D.Disk c.args.disk.now;
  count = search rules;
  synced = λ slot within. absurd (omega (arith, within));
}

pub loop-slot-preserved : goal.loop-slot-preserved
loop-slot-preserved g c =
    let was = c.loop-slot.invariant in
    let now = c.in_ok-sync_slot.ensures in
    record {
      reads = reads_join g.D.Disk c.args.disk.now c.loop-slot.disk c.sync_slot.new.disk was.reads now.reads;
      count = was.count;
      synced = synced_more (g.D.Disk.contents c.args.disk.now) c.loop-slot.slot (g.D.Disk.may_leave c.loop-slot.disk) (g.D.Disk.may_leave c.sync_slot.new.disk)
          was.synced now.reads.crash
          (subst (λ contents. OnlyAt c.loop-slot.slot (file_at contents c.loop-slot.slot) (g.D.Disk.may_leave c.sync_slot.new.disk)) was.reads.same now.durable);
    }
