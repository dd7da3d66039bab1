use Rattle.std.proofs.Common.{◌≡◌, ◌≤◌, length, take}
use Rattle.sd_journal.specs.Receipts.{acked_numbers}
use Rattle.sd_receipts.proofs.checking.is_acked.Given as goal

-- the acknowledgements so far are the first of those that are asked for
abbrev pub invariant-loop-entry : goal.invariant-loop-entry
invariant-loop-entry l = record {
  within : l.found ≤ length l.acks;
  so_far : acked_numbers (take l.entry-index l.entries) ≡ take l.found l.acks;
}
