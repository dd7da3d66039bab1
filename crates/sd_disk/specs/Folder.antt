-- What a disk over files holds, by its record of calls.
use Rattle.std.specs.Prelude.{ℕ, List, length}
use Rattle.sd_disk.specs.Events.{DiskEvent, Outside, files_after, failures_in, AreAnswers}
use Rattle.sd_disk.specs.Outcomes.{MayLeave}
use Rattle.sd_disk.specs.Moments.{LeftSince}
use Rattle.sd_disk.specs.declared.dir_disk.DirDisk.{DirDisk}
use Rattle.sd_disk.specs.declared.folder.Folder.{Folder}
use Rattle.sd_disk.specs.declared.found.Found.{Found}

-- what a program finds in the files of a folder, and what a failed call will leave of them
abbrev pub outside_of : Found → Outside
outside_of found = found.log.log.trace.outside

-- how many files it has
abbrev pub folder_slots : Folder → ℕ
folder_slots folder = length folder.images.items

-- the calls on it, the last first
abbrev pub folder_events : DirDisk → List DiskEvent
folder_events disk = disk.log.log.trace.events

-- its files
abbrev pub folder_files : DirDisk → List (List ℕ)
folder_files disk = files_after disk.log.log.trace.outside (folder_events disk)

-- what a crash now may leave of them
abbrev pub folder_may_leave : DirDisk → List (List ℕ) → Type 0
folder_may_leave disk = MayLeave disk.log.log.trace.outside (folder_events disk)

-- how many calls were made on it
abbrev pub folder_called : DirDisk → ℕ
folder_called disk = length (folder_events disk)

-- the moment, by the number of calls
abbrev pub folder_moment : DirDisk → ℕ
folder_moment disk = length (folder_events disk)

-- what a crash since a moment might have left
abbrev pub folder_left_since : DirDisk → ℕ → List (List ℕ) → Type 0
folder_left_since disk = LeftSince disk.log.log.trace.outside (folder_events disk)

-- how often it has failed
abbrev pub folder_failures : DirDisk → ℕ
folder_failures disk = failures_in (folder_events disk)

-- what came back so far was that of these files
abbrev pub IsFolderHonest : DirDisk → Type 0
IsFolderHonest disk = AreAnswers disk.log.log.trace.outside (folder_events disk)
