-- Laws of what a crash may leave.
use Rattle.std.specs.Prelude.{◌≡◌, ◌↔◌, ℕ, List, ◌∷◌, length}
use Rattle.sd_disk.specs.Contents.{file_at, Torn, Cut, AtSlot}
use Rattle.sd_disk.specs.Events.{Outside, DiskEvent, files_after}
use Rattle.sd_disk.specs.Outcomes.{MayLeave}
use Rattle.sd_disk.specs.declared.call.Call.{Call}
use Rattle.sd_disk.specs.declared.call.Call.TheVariants.{Measured, Read, Written, Cut as Cuts, Synced, Failed}
use Rattle.sd_disk.specs.declared.call.Call.TheVariants.{WriteFailed, CutFailed}

-- the outcomes after a call are those before it, with any bytes where it wrote or cut
abbrev pub CallLeadsTo : Call → List ℕ → List (List ℕ) → List (List ℕ) → List (List ℕ) → Type 0
CallLeadsTo (Measured slot len) bytes files before c = before ≡ c
CallLeadsTo (Read slot at) bytes files before c = before ≡ c
CallLeadsTo (Written slot at) bytes files before c = AtSlot slot (Torn at (length bytes)) before c
CallLeadsTo (Cuts slot len) bytes files before c = AtSlot slot (Cut len) before c
CallLeadsTo (Synced slot) bytes files before c = (before ≡ c) × (file_at c slot ≡ file_at files slot)
CallLeadsTo Failed bytes files before c = before ≡ c
CallLeadsTo (WriteFailed slot at) bytes files before c = AtSlot slot (Torn at (length bytes)) before c
CallLeadsTo (CutFailed slot len) bytes files before c = AtSlot slot (Cut len) before c

-- The rules, call by call, in both directions.
abbrev pub CrashOutcomes : Type 0
CrashOutcomes = (outside : Outside) (event : DiskEvent) (earlier : List DiskEvent) (c : List (List ℕ))
    → MayLeave outside (event ∷ earlier) c ↔
    ((before : List (List ℕ)) × MayLeave outside earlier before
    × CallLeadsTo event.0 event.1 (files_after outside earlier) before c)
