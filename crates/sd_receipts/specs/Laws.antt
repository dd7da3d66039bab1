-- What holds of every fault.
use Rattle.std.specs.Prelude.{◌≡◌, ℕ, List}
use Rattle.sd_journal.specs.declared.close_fault.CloseFault.{CloseFault}
use Rattle.sd_journal.specs.declared.entry.Entry.{Entry}
use Rattle.sd_journal.specs.declared.receipt.Receipt.{Receipt}
use Rattle.sd_journal.specs.Receipts.{Accounts, IsFault}

pub record FaultLaws : Type 0 where
  -- there is at most one
  pub one : (first : ℕ) (journal : List Entry) (receipts : List Receipt) (acks : List ℕ) (fault other : CloseFault)
      → IsFault first journal receipts acks fault → IsFault first journal receipts acks other → fault ≡ other
  -- a journal with one doesn't account
  pub apart : (first : ℕ) (journal : List Entry) (receipts : List Receipt) (acks : List ℕ) (fault : CloseFault)
      → IsFault first journal receipts acks fault → Accounts first journal receipts acks → ⊥
