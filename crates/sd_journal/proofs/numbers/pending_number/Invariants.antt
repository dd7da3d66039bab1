use Rattle.std.proofs.Common.{◌≡◌, reverse, take}
use Rattle.sd_journal.specs.History.{pending}
use Rattle.sd_journal.proofs.numbers.pending_number.Given as goal

-- the pending checkpoint of the entries so far
abbrev pub invariant-loop-entry : goal.invariant-loop-entry
invariant-loop-entry l = l.found ≡ pending (reverse (take l.entry-index l.entries))
