-- What came of a query to the store in a folder.
use Rattle.std.specs.Prelude.{◌≡◌, ℕ, Bool, List, Option}
use Rattle.sd_disk.specs.declared.dir_disk.DirDisk.{DirDisk}
use Rattle.sd_disk.specs.declared.found.Found.{Found}
use Rattle.sd_disk.specs.Folder.{IsFolderHonest, folder_failures, folder_files, outside_of}
use Rattle.sd_queries.specs.Printing.{Answers}
use Rattle.sd_queries.specs.declared.queries.Query.{Query}

-- A program answered a query from a folder with the files that are found, and exits with this status.
pub record AnswersFound (found : Found) (query : Query) (read : DirDisk × ℕ) (before after : Option (List ℕ))
    (refused : Bool) : Type 0 where
  pub files : folder_files read.0 ≡ (outside_of found).found
  pub answers : Answers query (IsFolderHonest read.0) (folder_files read.0) 0 (folder_failures read.0) before after
      refused read.1

-- the same where some disk is left
abbrev pub EndsReading : Found → Query → ℕ → Option (List ℕ) → Option (List ℕ) → Bool → Type 0
EndsReading found query status before after refused =
    (left : DirDisk) × AnswersFound found query (left, status) before after refused
