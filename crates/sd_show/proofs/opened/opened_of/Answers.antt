use Rattle.std.proofs.Common.{refl}
use Rattle.sd_show.proofs.TableLemmas.{opened_is}
use Rattle.sd_show.proofs.opened.opened_of.Goals as goal

pub returns : goal.returns
returns c = λ file front len is digest.
    opened_is file _ c.args.judged c.fault_of-fault.result front digest refl is c.fault_of-fault.ensures.kept (c.fault_of-fault.ensures.named file front len digest is.fault) c.shown_of-table.ensures
