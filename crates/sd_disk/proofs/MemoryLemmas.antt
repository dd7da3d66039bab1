-- One slot of a disk in memory changes.
use Rattle.std.proofs.Common.{◌≡◌, ℕ, ◌<◌, List, length, map, slice_index_or, slice_set, sym, ap, ◌∙◌, subst, arith}
use Rattle.std.proofs.lemmas.List.{get_or-map, map-set, length-map}
use Rattle.std.proofs.Math.Seq.{map-set_same}
use Rattle.sd_disk.specs.Contents.{file_at, AtSlot}
use Rattle.sd_disk.specs.Slots.{held, room_of}
use Rattle.sd_disk.specs.declared.slot_file.SlotFile.{SlotFile}
use Rattle.sd_disk.proofs.StepLemmas.{at_slot}

module _ (slots : List SlotFile) (i : ℕ) (old new : SlotFile) (is_slot : i < length (map held slots)) (is : old ≡ slice_index_or slots i old) where
  pub file_read : file_at (map held slots) i ≡ held old
  file_read = grind (arith, length-map, get_or-map)

  pub slot_changed : (change : List ℕ → List ℕ) → held new ≡ change (held old)
      → map held (slice_set slots i new) ≡ slice_set (map held slots) i (change (file_at (map held slots) i))
  slot_changed change changed =
      map-set held slots i new ∙ ap (slice_set (map held slots) i) (changed ∙ sym (ap change file_read))

  pub slot_stepped : (step : List ℕ → List ℕ → Type 0) → step (held old) (held new)
      → AtSlot i step (map held slots) (map held (slice_set slots i new))
  slot_stepped step stepped =
      let P : List (List ℕ) → Type 0 = AtSlot i step (map held slots) in
      subst P (sym (map-set held slots i new)) (at_slot step (map held slots) i (held new) is_slot (subst (λ file. step file (held new)) (sym file_read) stepped))

  pub rooms_kept : room_of new ≡ room_of old → map room_of (slice_set slots i new) ≡ map room_of slots
  rooms_kept kept = map-set_same room_of slots i new old (kept ∙ ap room_of is)
