use Rattle.sd_disk.proofs.CallLemmas.{crash_noted}
use Rattle.sd_disk.proofs.FolderLemmas.{write_failed_at}
use Rattle.sd_disk.proofs.dir_disk.DirDiskDisk.write_at.Goals as goal

pub returns-in-Err-clause-torn : goal.returns-in-Err-clause-torn
returns-in-Err-clause-torn c =
    write_failed_at _ _ _ _ c.args.slot c.requires.slot c.note-in-Err.ensures.outside c.args.at c.args.bytes.now (rw c.in-Err.ensures at c.note-in-Err.ensures.events)

pub returns-in-Ok-clause-crash : goal.returns-in-Ok-clause-crash
returns-in-Ok-clause-crash c = crash_noted _ _ _ _ _ c.note.ensures.outside (rw c.in-Ok.ensures at c.note.ensures.events)

pub returns-in-Err-clause-crash : goal.returns-in-Err-clause-crash
returns-in-Err-clause-crash c = crash_noted _ _ _ _ _ c.note-in-Err.ensures.outside (rw c.in-Err.ensures at c.note-in-Err.ensures.events)
