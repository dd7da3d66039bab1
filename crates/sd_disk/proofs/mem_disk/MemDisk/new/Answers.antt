use Rattle.std.proofs.Common.{map, ap, ◌∙◌}
use Rattle.sd_disk.specs.Slots.{held, room_of}
use Rattle.sd_disk.proofs.CrashLemmas.{alike_pushed, empty_pushed}
use Rattle.sd_disk.proofs.mem_disk.MemDisk.new.Goals as goal

pub loop-preserved : goal.loop-preserved
loop-preserved c =
    let slots = c.loop.files.items in
    let new = c.in_ok-new.field-0 in
    let fresh = c.in_ok-new.ensures in
    let now = c.loop.invariant in
    let pushed = c.in_ok-push.ensures.items in
    record {
      empty = ap (map held) pushed ∙ alike_pushed slots new held c.loop.counter _ now.empty fresh.empty;
      rooms = ap (map room_of) pushed ∙ alike_pushed slots new room_of c.loop.counter _ now.rooms fresh.room;
      rest = empty_pushed slots new _ pushed fresh.empty fresh.rest now.rest;
    }
