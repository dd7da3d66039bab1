-- What came of showing slots of the store in a folder.
use Rattle.std.specs.Prelude.{◌≡◌, ℕ, nat_lt, Bool, true, false, List, [], length, Option, None, Some, Result, Ok, Err}
use Rattle.std.specs.Prelude.{IfOk, OnOk, if◌then◌else◌}
use Rattle.std.specs.Global.{Vec}
use Rattle.std.specs.List.{list_any}
use Rattle.std.specs.Io.KnownBytes.{Appends}
use Rattle.sd_disk.specs.declared.dir_disk.DirDisk.{DirDisk}
use Rattle.sd_disk.specs.declared.found.Found.{Found}
use Rattle.sd_disk.specs.Folder.{IsFolderHonest, folder_files, outside_of}
use Rattle.sd_exit.specs.declared.stop.Stop.{Stop}
use Rattle.sd_exit.specs.declared.stop.Stop.TheVariants as stop
use Rattle.sd_exit.specs.Ending.{ExitsAs}
use Rattle.sd_restore.specs.declared.fault.Fault.TheVariants as fault
use Rattle.sd_disk.specs.Contents.{file_at}
use Rattle.sd_show.specs.declared.stop.Stop.{Stop as ShowStop}
use Rattle.sd_show.specs.declared.stop.Stop.TheVariants as show
use Rattle.sd_show.specs.Slots.{is_damaged}
use Rattle.sd_show.specs.Texts.{slot_lines, slots_text}

-- the text of one slot, or nothing where the store has no such slot; or that of all
abbrev pub shown_text : Option ℕ → List (List ℕ) → List ℕ
shown_text (Some slot) contents = if nat_lt slot (length contents) then slot_lines slot (file_at contents slot) else []
shown_text None contents = slots_text contents

-- that slot is damaged, or any is
abbrev pub has_damage : Option ℕ → List (List ℕ) → Bool
has_damage (Some slot) contents = if nat_lt slot (length contents) then is_damaged (file_at contents slot) else false
has_damage None contents = list_any is_damaged contents

-- how the program ends: a damaged slot was shown, and is a failure
abbrev pub shown_end : Result Bool ShowStop → Result Unit Stop
shown_end (Ok false) = Ok tt
shown_end (Ok true) = Err stop.Refused
shown_end (Err show.Device) = Err (stop.Fault fault.Device)
shown_end (Err show.OutOfMemory) = Err (stop.Fault fault.OutOfMemory)
shown_end (Err (show.Writer error)) = Err (stop.Writer error)

-- The slots of some disk over the folder's files were shown.
pub record ShowsFolder (found : Found) (slot : Option ℕ) (as_json : Bool) (shown : Result Bool ShowStop)
    (before after : Option (List ℕ)) : Type 0 where
  pub left : DirDisk
  pub files : folder_files left ≡ (outside_of found).found
  pub text : IsFolderHonest left → as_json ≡ false
      → OnOk shown (Appends before after (shown_text slot (folder_files left)))
  pub damaged : IsFolderHonest left → IfOk shown (λ damaged. damaged ≡ has_damage slot (folder_files left))

-- the same, held back
abbrev pub ShowsHeld : Found → Option ℕ → Bool → DirDisk × Result Bool ShowStop × Vec ℕ → Type 0
ShowsHeld found slot as_json held = ShowsFolder found slot as_json held.1 (Some []) (Some held.2.items)

-- The same to its exit.
pub record EndsShowing (found : Found) (slot : Option ℕ) (as_json : Bool) (status : ℕ) (before after : Option (List ℕ))
    (refused : Bool) : Type 0 where
  pub shown : Result Bool ShowStop
  pub printed : Option (List ℕ)
  pub shows : ShowsFolder found slot as_json shown before printed
  pub exits : ExitsAs (shown_end shown) printed after refused status
