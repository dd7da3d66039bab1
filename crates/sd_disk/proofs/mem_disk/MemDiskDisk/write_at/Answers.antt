use Rattle.std.proofs.Common.{length, refl, sym, ap, subst}
use Rattle.sd_disk.specs.Contents.{file_after_write, Torn}
use Rattle.sd_disk.specs.Events.{failures_in}
use Rattle.sd_disk.specs.Slots.{held}
use Rattle.sd_disk.proofs.CallLemmas.{crash_noted, reach_noted}
use Rattle.sd_disk.proofs.MemoryLemmas.{slot_changed, slot_stepped, rooms_kept}
use Rattle.sd_disk.proofs.StepLemmas.{torn_written}
use Rattle.sd_disk.proofs.TrackLemmas.{replayed_after, write_tracked}
use Rattle.sd_disk.proofs.mem_disk.MemDiskDisk.write_at.Goals as goal

pub invariant_of-self-2 : goal.invariant_of-self-2
invariant_of-self-2 c = record {
  replayed = replayed_after c.args.self.now.slots.items _ _ _ _ _ _ c.spend.ensures.outside c.in_ok-spend.ensures.noted c.args.self.now.replayed
      (λ left. sym (slot_changed _ _ c.index_mut-file.result.now _ c.requires.slot c.index_mut-file.ensures.value
      (λ file. file_after_write file c.args.at c.args.bytes.now) c.write.ensures.written));
  tracked = write_tracked _ _ c.index_mut-file.result.now _ c.requires.slot c.index_mut-file.ensures.value _ _ _ _ c.args.at c.args.bytes.now
      c.spend.ensures.outside c.in_ok-spend.ensures.noted (c.write.ensures.tracks _) c.args.self.now.tracked;
}

pub returns-clause-written : goal.returns-clause-written
returns-clause-written c =
    slot_changed _ _ c.index_mut-file.result.now _ c.requires.slot c.index_mut-file.ensures.value
    (λ file. file_after_write file c.args.at c.args.bytes.now) c.write.ensures.written

pub returns-clause-torn : goal.returns-clause-torn
returns-clause-torn c =
    let old = held c.index_mut-file.result.now in
    slot_stepped _ _ c.index_mut-file.result.now c.write.new.self c.requires.slot c.index_mut-file.ensures.value (Torn c.args.at (length c.args.bytes.now))
    (subst (Torn c.args.at (length c.args.bytes.now) old) (sym c.write.ensures.written) (torn_written old c.args.bytes.now c.args.at))

pub returns-clause-crash : goal.returns-clause-crash
returns-clause-crash c = crash_noted _ _ _ _ _ c.spend.ensures.outside c.in_ok-spend.ensures.noted

pub returns-clause-reached : goal.returns-clause-reached
returns-clause-reached c = λ after before left stepped.
    reach_noted _ _ _ _ _ c.spend.ensures.outside c.in_ok-spend.ensures.noted after (before, left, stepped)

pub returns-clause-done : goal.returns-clause-done
returns-clause-done c = record {
  calls = c.in_ok-spend.ensures.spent;
  failures = ap failures_in c.in_ok-spend.ensures.noted;
  rooms = rooms_kept _ _ c.index_mut-file.result.now _ c.requires.slot c.index_mut-file.ensures.value c.write.ensures.room;
  reads = refl;
}
