use Rattle.sd_disk.proofs.SoundLemmas.{as_read}
use Rattle.sd_disk.proofs.call_log.CallLog.note.Goals as goal

pub invariant_of-self-clause-as_read : goal.invariant_of-self-clause-as_read
invariant_of-self-clause-as_read c = as_read _ _
