use Rattle.std.proofs.Common.{◌≡◌, reverse, take}
use Rattle.sd_journal.specs.History.{Base, last}
use Rattle.sd_journal.proofs.numbers.last_number.Given as goal

-- the last checkpoint of the entries so far
abbrev pub invariant-loop-entry : goal.invariant-loop-entry
invariant-loop-entry l = (base : Base) → base.number ≡ l.fn.number → l.found ≡ last base (reverse (take l.entry-index l.entries))
