use Rattle.std.proofs.Common.{IfErr, reverse, subst}
use Rattle.sd_journal.specs.Marked.{entries_of}
use Rattle.sd_journal.specs.Receipts.{IsFault}
use Rattle.sd_receipts.specs.InTime.{in_time}
use Rattle.sd_settling.proofs.settling.check_core.Goals as goal

pub returns-clause-fault : goal.returns-clause-fault
returns-clause-fault c =
    let result = c.check_receipts.result in
    subst (λ items. IfErr result (IsFault c.args.core.now.base.folded (reverse (entries_of items)) c.args.receipts.now c.args.acks.now)) c.journal.ensures.items
    (subst (λ first. IfErr result (IsFault first (in_time c.journal.result.now) c.args.receipts.now c.args.acks.now)) c.journal.ensures.first
    c.check_receipts.ensures.fault)
