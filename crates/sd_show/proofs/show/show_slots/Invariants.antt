use Rattle.std.proofs.Common.{◌≡◌, ℕ, List, Option, drop, take, length}
use Rattle.std.specs.List.{enumerate_from, flat_map, list_any}
use Rattle.std.specs.Io.KnownBytes.{Appends}
use Rattle.sd_disk.specs.Reads.{OnlyReads}
use Rattle.sd_show.specs.Slots.{is_damaged}
use Rattle.sd_show.specs.Texts.{slot_lines, slots_text}
use Rattle.sd_show.proofs.show.show_slots.Given as goal

-- the slots so far were only read; what is printed of those that are left makes the text of all whole
abbrev pub invariant-loop-slot : goal.invariant-loop-slot
invariant-loop-slot g l = record {
  reads : OnlyReads g.D.Disk l.fn.disk l.disk;
  stays : g.D.Disk.failed l.disk ≡ g.D.Disk.failed l.fn.disk;
  count : l.slot-end ≡ length (g.D.Disk.contents l.fn.disk);
  text : g.D.Disk.is_honest l.disk → (after : Option (List ℕ)) → Appends (g.W.Write.contents l.out) after (flat_map (λ (slot : ℕ × List ℕ). slot_lines slot.0 slot.1) (enumerate_from l.slot (drop l.slot (g.D.Disk.contents l.fn.disk))))
      → Appends (g.W.Write.contents l.fn.out) after (slots_text (g.D.Disk.contents l.fn.disk));
  damaged : g.D.Disk.is_honest l.disk → l.damaged ≡ list_any is_damaged (take l.slot (g.D.Disk.contents l.fn.disk));
}
