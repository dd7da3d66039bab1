use Rattle.std.proofs.Common.{IfErr, List, subst}
use Rattle.sd_journal.specs.declared.entry.Entry.{Entry}
use Rattle.sd_journal.specs.Receipts.{IsFault}
use Rattle.sd_receipts.proofs.folded.Folded.check.Goals as goal

pub returns-clause-fault : goal.returns-clause-fault
returns-clause-fault c =
    subst (λ (entries : List Entry). IfErr c.check_entries.result (IsFault c.args.self.now.first entries c.args.receipts.now c.args.acks.now)) c.deref.ensures.value
    c.check_entries.ensures.fault
