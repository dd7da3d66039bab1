use Rattle.std.proofs.Common.{◌≡◌, ℕ, ◌<◌, false, List, length, slice_index, slice_index_or}
use Rattle.sd_disk.specs.Contents.{file_at}
use Rattle.sd_disk.specs.Outcomes.{Unsynced, Leaves}
use Rattle.sd_disk.specs.Slots.{ShadowTracks}
use Rattle.sd_disk.proofs.slot_file.SlotFile.crash.Given as goal

-- the places so far have their synced bytes where they have to, and those that are aimed at
abbrev pub invariant-loop-at : goal.invariant-loop-at
invariant-loop-at g l = record {
  size : length l.room.items ≡ length l.self.room.items;
  kept : (place : ℕ) → place < l.at → slice_index_or l.self.shadow.touched.items place false ≡ false → place < l.self.shadow.synced_len
      → slice_index l.room.items place ≡ slice_index l.self.shadow.synced.items place;
  aimed : (known : Unsynced) (c : List (List ℕ)) → ShadowTracks l.self.shadow known → g.P.Pick.aims l.fn.pick c → Leaves known (file_at c l.number)
      → g.P.Pick.aims l.pick c × (l.len ≡ length (file_at c l.number))
      × ((place : ℕ) → place < l.at → slice_index l.room.items place ≡ slice_index (file_at c l.number) place);
}
