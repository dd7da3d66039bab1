use Rattle.sd_shared.specs.Turns.{taken_of}
use Rattle.sd_shared.proofs.relayed_dump.RelayedDump.go_on.Goals as goal

pub returns-clause-told : goal.returns-clause-told
returns-clause-told g c = λ over. (taken_of c.take_up-next.result, c.take_up-next.ensures, c.told.ensures.told over)
