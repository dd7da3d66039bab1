-- What is sent as it is asked for.
use Rattle.std.specs.Prelude.{◌≡◌, ℕ, false, List, Option}
use Rattle.sd_disk.specs.declared.disk.Disk.{Ghosts}
use Rattle.sd_send.specs.declared.send.SendAsked.{SendAsked}
use Rattle.sd_send.specs.Sending.{SendsFiles}

-- But where it follows a run, all of a disk with these files was sent: a writer that had this has the stream after it.
abbrev pub SendsAsked : {D : Type 0} → Ghosts D → List (List ℕ) → SendAsked → Option (List ℕ) → Type 0
SendsAsked g files asked before =
    asked.follow ≡ false → (after : Option (List ℕ)) × SendsFiles g files asked.since before after
