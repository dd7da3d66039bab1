-- What one more event in a record says of what a crash may leave.
use Rattle.std.proofs.Common.{inl, inr, ℕ, cond, nat_eq, List, [], ◌∷◌, length, slice_set, refl, sym, subst, arith}
use Rattle.std.proofs.lemmas.Bool.{cases_lt}
use Rattle.std.proofs.lemmas.List.{set_past}
use Rattle.sd_disk.specs.Contents.{file_at, Torn, Cut, AtSlot}
use Rattle.sd_disk.specs.Events.{Outside, DiskEvent, failures_in, files_after}
use Rattle.sd_disk.specs.Outcomes.{Unsynced, Leaves, MayLeave, at_rest, with_write, with_cut, unsynced_after}
use Rattle.sd_disk.specs.declared.call.Call.TheVariants.{Written, Cut as Cuts, Synced, WriteFailed, CutFailed}
use Rattle.sd_disk.proofs.LeaveLemmas.{Covers, rest_leaves, rest_covers}
use Rattle.sd_disk.proofs.OutcomeLemmas.{chosen}
use Rattle.sd_disk.proofs.StepLemmas.{at_slot, at_slot_same, torn_same, cut_same, torn_written, cut_taken, torn_by_write, torn_by_cut}

-- the rules allow the file as read, and each place from the least length on may hold any byte
pub record IsSound (slot : Unsynced) (file : List ℕ) : Type 0 where
  pub left : Leaves slot file
  pub covers : Covers slot

rest_sound : (file : List ℕ) → IsSound (at_rest file) file
rest_sound file = record { left = rest_leaves file; covers = rest_covers file }

write_sound : (at n : ℕ) (slot : Unsynced) (old new : List ℕ) → IsSound slot old → Torn at n old new → IsSound (with_write at n slot) new
write_sound at n slot old new sound torn = grind arith

cut_sound : (n : ℕ) (slot : Unsynced) (old new : List ℕ) → IsSound slot old → Cut n old new → IsSound (with_cut (length old) n slot) new
cut_sound n slot old new sound cut = grind arith

-- one slot gets another file, or there is no such slot
changes : (step : List ℕ → List ℕ → Type 0) (files : List (List ℕ)) (number : ℕ) (file : List ℕ) → ((same : List ℕ) → step same same)
    → step (file_at files number) file → AtSlot number step files (slice_set files number file)
changes step files number file still stepped =
    elim (cases_lt number (length files)) [
      | inl within ↦ at_slot step files number file within stepped
      | inr past ↦ subst (AtSlot number step files) (sym (set_past files number file past)) (at_slot_same step files number (still (file_at files number)))
    ]

sound_at : (number slot : ℕ) (step : List ℕ → List ℕ → Type 0) (old new : List (List ℕ)) (known changed : Unsynced)
    → AtSlot number step old new → IsSound known (file_at old slot)
    → (step (file_at old slot) (file_at new slot) → IsSound changed (file_at new slot))
    → IsSound (cond (nat_eq number slot) changed known) (file_at new slot)
sound_at number slot step old new known changed stepped sound there = grind arith

pub sound : (outside : Outside) (events : List DiskEvent) (slot : ℕ) → IsSound (unsynced_after outside events slot) (file_at (files_after outside events) slot)
sound outside [] slot = rest_sound (file_at outside.found slot)
sound outside ((Written number at, bytes) ∷ earlier) slot =
    let files = files_after outside earlier in
    let known = unsynced_after outside earlier slot in
    sound_at number slot (Torn at (length bytes)) files (files_after outside ((Written number at, bytes) ∷ earlier)) known (with_write at (length bytes) known)
    (changes (Torn at (length bytes)) files number _ (torn_same at (length bytes)) (torn_written (file_at files number) bytes at))
    (sound outside earlier slot)
    (λ torn. write_sound at (length bytes) known _ _ (sound outside earlier slot) torn)
sound outside ((Cuts number len, bytes) ∷ earlier) slot =
    let files = files_after outside earlier in
    let known = unsynced_after outside earlier slot in
    sound_at number slot (Cut len) files (files_after outside ((Cuts number len, bytes) ∷ earlier)) known (with_cut (length (file_at files slot)) len known)
    (changes (Cut len) files number _ (cut_same len) (cut_taken (file_at files number) len))
    (sound outside earlier slot)
    (λ cut. cut_sound len known _ _ (sound outside earlier slot) cut)
sound outside ((Synced number, bytes) ∷ earlier) slot =
    let files = files_after outside earlier in
    chosen (λ u. IsSound u (file_at files slot)) number slot (at_rest (file_at files slot)) (unsynced_after outside earlier slot)
    (λ same. rest_sound (file_at files slot)) (λ apart. sound outside earlier slot)
sound outside ((WriteFailed number at, bytes) ∷ earlier) slot =
    let files = files_after outside earlier in
    let known = unsynced_after outside earlier slot in
    let left = file_at outside.left (failures_in earlier) in
    sound_at number slot (Torn at (length bytes)) files (files_after outside ((WriteFailed number at, bytes) ∷ earlier)) known (with_write at (length bytes) known)
    (changes (Torn at (length bytes)) files number _ (torn_same at (length bytes)) (torn_by_write at (length bytes) (file_at files number) left))
    (sound outside earlier slot)
    (λ torn. write_sound at (length bytes) known _ _ (sound outside earlier slot) torn)
sound outside ((CutFailed number len, bytes) ∷ earlier) slot =
    let files = files_after outside earlier in
    let known = unsynced_after outside earlier slot in
    let left = file_at outside.left (failures_in earlier) in
    sound_at number slot (Cut len) files (files_after outside ((CutFailed number len, bytes) ∷ earlier)) known (with_cut (length (file_at files slot)) len known)
    (changes (Cut len) files number _ (cut_same len) (torn_by_cut len (file_at files number) left))
    (sound outside earlier slot)
    (λ cut. cut_sound len known _ _ (sound outside earlier slot) cut)
sound outside ((_, bytes) ∷ earlier) slot = sound outside earlier slot

-- the files as read are one of what a crash may leave
pub as_read : (outside : Outside) (events : List DiskEvent) → MayLeave outside events (files_after outside events)
as_read outside events = record { count = refl; each = λ slot near was. (sound outside events slot).left }
