use Rattle.std.proofs.Common.{reverse}
use Rattle.sd_crash_safety.specs.View.{history_of}
use Rattle.sd_journal.specs.Receipts.{Accounts, IsFault}
use Rattle.sd_shared.proofs.CloseLemmas.{of_given_back, of_some}
use Rattle.sd_shared.proofs.shared.Shared.close.Goals as goal

pub returns-clause-fault : goal.returns-clause-fault
returns-clause-fault g c =
    of_some (λ core. IsFault core.base.folded (reverse (history_of core)) c.args.receipts.now c.args.acks.now) c.settle.result c.into_core.result c.settle.ensures.fault

pub returns-clause-accounts : goal.returns-clause-accounts
returns-clause-accounts g c =
    of_given_back (λ core. Accounts core.base.folded (reverse (history_of core)) c.args.receipts.now c.args.acks.now) c.settle.result c.into_core.result
    (λ ok. c.settle.ensures.exact.0 ok) c.settle.ensures.core
