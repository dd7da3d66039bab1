-- The stream of the files that are found.
use Rattle.std.proofs.Common.{◌≡◌, ℕ, List, Option, Result, Ok, Err, IfOk}
use Rattle.sd_disk.specs.Reads.{OnlyReads}
use Rattle.sd_disk.specs.declared.disk.Disk.{Ghosts}
use Rattle.sd_send.specs.Sending.{SendsFiles, SendsStream}

-- what was sent of a disk with these files is what was sent of these
pub sends_files : {D X E : Type 0} (g : Ghosts D) (files : List (List ℕ)) (since : Option ℕ) (before : Option (List ℕ)) (text : X → Option (List ℕ)) (old new : D)
    (result : Result X E) → g.contents old ≡ files → OnlyReads g old new
    → (g.is_honest new → IfOk result (λ sent. SendsStream (g.contents old) since before (text sent)))
    → IfOk result (λ sent. SendsFiles g files since before (text sent))
sends_files g files since before text old new (Ok sent) opened reads stream =
    record { old = old; new = new; opened = opened; reads = reads; stream = stream }
sends_files g files since before text old new (Err error) opened reads stream = tt
