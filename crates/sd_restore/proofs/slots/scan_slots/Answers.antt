use Rattle.std.proofs.Common.{rules, List, ℕ, length, arith, refl, ◌∙◌}
use Rattle.sd_disk.specs.Reads.{nothing_read, reads_join}
use Rattle.sd_restore.specs.Faulty.{FaultNames, IsFirstFaulty}
use Rattle.sd_restore.proofs.CallLemmas.{none_failed, slot_last, slot_more}
use Rattle.sd_restore.proofs.ScanLemmas.{first_faulty}
use Rattle.sd_restore.proofs.slots.scan_slots.Goals as goal

pub loop-slot-init : goal.loop-slot-init
loop-slot-init g c = record {
  reads = nothing_read g.D.Disk c.args.disk.now;
  count = search rules;
  room = omega (arith, c.new-scanned.ensures.none);
  read = c.new-scanned.ensures.read (length (g.D.Disk.contents c.args.disk.now));
  scanned = λ honest. c.new-scanned.ensures.scanned (g.D.Disk.contents c.args.disk.now);
  stays = refl;
  calls = λ honest. omega arith;
}

pub loop-slot-preserved : goal.loop-slot-preserved
loop-slot-preserved g c =
    let was = c.loop-slot.invariant in
    let now = c.in_ok-scan_slot.ensures in
    record {
      reads = reads_join g.D.Disk c.args.disk.now c.loop-slot.disk c.scan_slot.new.disk was.reads now.reads;
      count = was.count;
      room = now.room;
      read = (rw was.reads.same at now.read) was.read;
      scanned = λ honest. (rw was.reads.same at (now.scanned honest)) (was.scanned (now.reads.honest honest));
      stays = none_failed c.in_ok-scan_slot.field-0 (g.D.Disk.failed c.loop-slot.disk) (g.D.Disk.failed c.scan_slot.new.disk) now.reads.failures now.stops ∙ was.stays;
      calls = λ honest. slot_more (g.D.Disk.contents c.args.disk.now) c.loop-slot.slot (g.D.Disk.calls c.args.disk.now) (g.D.Disk.calls c.loop-slot.disk) (g.D.Disk.calls c.scan_slot.new.disk)
          (let count = was.count in omega (arith, count, c.loop-slot-test.true)) (was.calls (now.reads.honest honest)) (rw was.reads.same at (now.calls honest));
    }

pub returns-in_err-scan_slot-clause-faulty : goal.returns-in_err-scan_slot-clause-faulty
returns-in_err-scan_slot-clause-faulty g c = λ honest.
    let was = c.loop-slot.invariant in
    let contents : List (List ℕ) = g.D.Disk.contents c.args.disk.now in
    let first : FaultNames (IsFirstFaulty contents) c.in_err-scan_slot.field-0.0 =
    first_faulty contents c.loop-slot.slot c.in_err-scan_slot.field-0.0 (was.scanned (c.in_err-scan_slot.ensures.reads.honest honest)).readable (rw was.reads.same at (c.in_err-scan_slot.ensures.faulty honest)) in
    search rules

pub returns-in_err-scan_slot-clause-calls : goal.returns-in_err-scan_slot-clause-calls
returns-in_err-scan_slot-clause-calls g c = λ honest.
    let was = c.loop-slot.invariant in
    let now = c.in_err-scan_slot.ensures in
    slot_last (g.D.Disk.contents c.args.disk.now) c.loop-slot.slot (g.D.Disk.calls c.args.disk.now) (g.D.Disk.calls c.loop-slot.disk) (g.D.Disk.calls c.scan_slot.new.disk)
    (let count = was.count in omega (arith, count, c.loop-slot-test.true)) (was.calls (now.reads.honest honest)) (rw was.reads.same at (now.calls honest))

pub returns-in_err-scan_slot-clause-wanted : goal.returns-in_err-scan_slot-clause-wanted
returns-in_err-scan_slot-clause-wanted g c = λ honest out.
    let was = c.loop-slot.invariant in
    let count = was.count in (
      c.loop-slot.slot,
      record {
        within = omega (arith, count, c.loop-slot-test.true);
        here = (rw was.reads.same at (c.in_err-scan_slot.ensures.wanted honest)) (search rules);
        before = (was.scanned (c.in_err-scan_slot.ensures.reads.honest honest)).readable;
      },
    )
