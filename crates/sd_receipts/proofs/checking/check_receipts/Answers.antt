use Rattle.std.proofs.Common.{ℕ, IfErr, List, subst}
use Rattle.sd_journal.specs.declared.entry.Entry.{Entry}
use Rattle.sd_journal.specs.Receipts.{IsFault}
use Rattle.sd_receipts.specs.InTime.{in_time}
use Rattle.sd_receipts.proofs.checking.check_receipts.Goals as goal

pub returns-clause-fault : goal.returns-clause-fault
returns-clause-fault c =
    subst (λ (first : ℕ). IfErr c.check_entries.result (IsFault first (in_time c.args.journal.now) c.args.receipts.now c.args.acks.now)) c.first.ensures
    (subst (λ (entries : List Entry). IfErr c.check_entries.result (IsFault c.first.result entries c.args.receipts.now c.args.acks.now)) c.entries.ensures
    c.check_entries.ensures.fault)
