use Rattle.std.proofs.Common.{take, refl, sym, ap, subst}
use Rattle.sd_disk.specs.Contents.{Cut}
use Rattle.sd_disk.specs.Events.{failures_in}
use Rattle.sd_disk.specs.Slots.{held}
use Rattle.sd_disk.proofs.CallLemmas.{crash_noted, reach_noted}
use Rattle.sd_disk.proofs.MemoryLemmas.{slot_changed, slot_stepped, rooms_kept}
use Rattle.sd_disk.proofs.StepLemmas.{cut_taken}
use Rattle.sd_disk.proofs.TrackLemmas.{replayed_after, cut_tracked}
use Rattle.sd_disk.proofs.mem_disk.MemDiskDisk.cut.Goals as goal

pub invariant_of-self-2 : goal.invariant_of-self-2
invariant_of-self-2 c = record {
  replayed = replayed_after c.args.self.now.slots.items _ _ _ _ _ _ c.spend.ensures.outside c.in_ok-spend.ensures.noted c.args.self.now.replayed
      (λ left. sym (slot_changed _ _ c.index_mut-file.result.now _ c.requires.slot c.index_mut-file.ensures.value (take c.args.len) c.cut.ensures.cut));
  tracked = cut_tracked _ _ c.index_mut-file.result.now _ c.requires.slot c.index_mut-file.ensures.value _ _ _ _ c.args.len
      c.spend.ensures.outside c.in_ok-spend.ensures.noted c.args.self.now.replayed (c.cut.ensures.tracks _) c.args.self.now.tracked;
}

pub returns-clause-cut : goal.returns-clause-cut
returns-clause-cut c = slot_changed _ _ c.index_mut-file.result.now _ c.requires.slot c.index_mut-file.ensures.value (take c.args.len) c.cut.ensures.cut

pub returns-clause-torn : goal.returns-clause-torn
returns-clause-torn c =
    let old = held c.index_mut-file.result.now in
    slot_stepped _ _ c.index_mut-file.result.now c.cut.new.self c.requires.slot c.index_mut-file.ensures.value (Cut c.args.len)
    (subst (Cut c.args.len old) (sym c.cut.ensures.cut) (cut_taken old c.args.len))

pub returns-clause-crash : goal.returns-clause-crash
returns-clause-crash c = crash_noted _ _ _ _ _ c.spend.ensures.outside c.in_ok-spend.ensures.noted

pub returns-clause-reached : goal.returns-clause-reached
returns-clause-reached c = λ after before left stepped.
    reach_noted _ _ _ _ _ c.spend.ensures.outside c.in_ok-spend.ensures.noted after (before, left, stepped)

pub returns-clause-done : goal.returns-clause-done
returns-clause-done c = record {
  calls = c.in_ok-spend.ensures.spent;
  failures = ap failures_in c.in_ok-spend.ensures.noted;
  rooms = rooms_kept _ _ c.index_mut-file.result.now _ c.requires.slot c.index_mut-file.ensures.value c.cut.ensures.room;
  reads = refl;
}
