-- What one more event in a record says of the files.
use Rattle.std.proofs.Common.{◌≡◌, ℕ, ◌<◌, List, [], ◌∷◌, length, refl, sym, ◌∙◌, subst}
use Rattle.std.proofs.Math.ListN.{length-set}
use Rattle.sd_disk.specs.Contents.{file_at, Torn, Cut, AtSlot}
use Rattle.sd_disk.specs.Events.{Outside, DiskEvent, files_after_call, failures_in, files_after}
use Rattle.sd_disk.specs.declared.call.Call as call
use Rattle.sd_disk.specs.declared.call.Call.TheVariants.{Measured, Read, Written, Cut as Cuts, Synced, Failed, WriteFailed, CutFailed}
use Rattle.sd_disk.proofs.StepLemmas.{at_slot, torn_written, cut_taken, torn_by_write, torn_by_cut}

length_after : (call : call.Call) (bytes left : List ℕ) (files : List (List ℕ)) → length (files_after_call call bytes left files) ≡ length files
length_after (Measured slot len) bytes left files = refl
length_after (Read slot at) bytes left files = refl
length_after (Written slot at) bytes left files = length-set files slot _
length_after (Cuts slot len) bytes left files = length-set files slot _
length_after (Synced slot) bytes left files = refl
length_after Failed bytes left files = refl
length_after (WriteFailed slot at) bytes left files = length-set files slot _
length_after (CutFailed slot len) bytes left files = length-set files slot _

pub length_files : (outside : Outside) (events : List DiskEvent) → length (files_after outside events) ≡ length outside.found
length_files outside [] = refl
length_files outside (event ∷ earlier) =
    length_after event.0 event.1 (file_at outside.left (failures_in earlier)) (files_after outside earlier) ∙ length_files outside earlier

module _ (outside outside' : Outside) (events events' : List DiskEvent) (event : DiskEvent) (same : outside' ≡ outside) (noted : events' ≡ event ∷ events) where
  files_noted : files_after outside' events' ≡ files_after_call event.0 event.1 (file_at outside.left (failures_in events)) (files_after outside events)
  files_noted = rw (same, noted) refl

  pub noted_at : (slot : ℕ) (step : List ℕ → List ℕ → Type 0)
      → AtSlot slot step (files_after outside events) (files_after_call event.0 event.1 (file_at outside.left (failures_in events)) (files_after outside events))
      → AtSlot slot step (files_after outside events) (files_after outside' events')
  noted_at slot step stepped =
      let P : List (List ℕ) → Type 0 = AtSlot slot step (files_after outside events) in
      subst P (sym files_noted) stepped

module _ (outside outside' : Outside) (events events' : List DiskEvent) (slot : ℕ) (known : slot < length (files_after outside events)) (same : outside' ≡ outside) where
  abbrev files : List (List ℕ)
  files = files_after outside events

  abbrev left : List ℕ
  left = file_at outside.left (failures_in events)

  pub written_at : (at : ℕ) (bytes : List ℕ) → events' ≡ (Written slot at, bytes) ∷ events
      → AtSlot slot (Torn at (length bytes)) files (files_after outside' events')
  written_at at bytes noted =
      noted_at outside outside' events events' (Written slot at, bytes) same noted slot (Torn at (length bytes))
      (at_slot (Torn at (length bytes)) files slot _ known (torn_written (file_at files slot) bytes at))

  pub write_failed_at : (at : ℕ) (bytes : List ℕ) → events' ≡ (WriteFailed slot at, bytes) ∷ events
      → AtSlot slot (Torn at (length bytes)) files (files_after outside' events')
  write_failed_at at bytes noted =
      noted_at outside outside' events events' (WriteFailed slot at, bytes) same noted slot (Torn at (length bytes))
      (at_slot (Torn at (length bytes)) files slot _ known (torn_by_write at (length bytes) (file_at files slot) left))

  pub cut_at : (len : ℕ) → events' ≡ (Cuts slot len, []) ∷ events → AtSlot slot (Cut len) files (files_after outside' events')
  cut_at len noted =
      noted_at outside outside' events events' (Cuts slot len, []) same noted slot (Cut len)
      (at_slot (Cut len) files slot _ known (cut_taken (file_at files slot) len))

  pub cut_failed_at : (len : ℕ) → events' ≡ (CutFailed slot len, []) ∷ events → AtSlot slot (Cut len) files (files_after outside' events')
  cut_failed_at len noted =
      noted_at outside outside' events events' (CutFailed slot len, []) same noted slot (Cut len)
      (at_slot (Cut len) files slot _ known (torn_by_cut len (file_at files slot) left))
