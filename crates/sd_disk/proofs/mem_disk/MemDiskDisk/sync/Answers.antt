use Rattle.std.proofs.Common.{refl, sym, ap, ◌∙◌}
use Rattle.std.proofs.Math.Seq.{map-set_same}
use Rattle.sd_disk.specs.Contents.{file_at}
use Rattle.sd_disk.specs.Events.{failures_in}
use Rattle.sd_disk.specs.Slots.{held}
use Rattle.sd_disk.proofs.CallLemmas.{crash_noted}
use Rattle.sd_disk.proofs.MemoryLemmas.{rooms_kept}
use Rattle.sd_disk.proofs.TrackLemmas.{replayed_after, sync_tracked}
use Rattle.sd_disk.proofs.mem_disk.MemDiskDisk.sync.Goals as goal

pub invariant_of-self-2 : goal.invariant_of-self-2
invariant_of-self-2 c = record {
  replayed = replayed_after c.args.self.now.slots.items _ _ _ _ _ _ c.spend.ensures.outside c.in_ok-spend.ensures.noted c.args.self.now.replayed
      (λ left. sym (map-set_same held c.args.self.now.slots.items c.args.slot c.sync.new.self c.index_mut.result.now (c.sync.ensures.same ∙ ap held c.index_mut.ensures.value)));
  tracked = sync_tracked _ _ c.index_mut.result.now _ c.requires c.index_mut.ensures.value _ _ _ _
      c.spend.ensures.outside c.in_ok-spend.ensures.noted c.args.self.now.replayed c.sync.ensures.tracks c.args.self.now.tracked;
}

pub returns-clause-durable : goal.returns-clause-durable
returns-clause-durable c = λ after left.
    (crash_noted _ _ _ _ _ c.spend.ensures.outside c.in_ok-spend.ensures.noted after left).2.1 ∙ ap (λ files. file_at files c.args.slot) c.args.self.now.replayed

pub returns-clause-done : goal.returns-clause-done
returns-clause-done c = record {
  calls = c.in_ok-spend.ensures.spent;
  failures = ap failures_in c.in_ok-spend.ensures.noted;
  rooms = rooms_kept _ _ c.index_mut.result.now _ c.requires c.index_mut.ensures.value c.sync.ensures.room;
  reads = refl;
}
