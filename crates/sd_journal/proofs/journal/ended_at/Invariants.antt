use Rattle.std.proofs.Common.{◌≡◌, reverse, take}
use Rattle.sd_journal.specs.History.{pending}
use Rattle.sd_journal.proofs.FrontLemmas.{NoneUpTo}
use Rattle.sd_journal.proofs.journal.ended_at.Given as goal

-- the checkpoint that is pending after the entries so far, of which none ended the one that is looked for
abbrev pub invariant-loop-place : goal.invariant-loop-place
invariant-loop-place l = record {
  found : l.found ≡ pending (reverse (take l.place l.entries));
  none : NoneUpTo l.checkpoint l.entries l.place;
}
