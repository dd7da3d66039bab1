use Rattle.std.proofs.Common.{◌≡◌, ◌++◌}
use Rattle.sd_restore.proofs.RunLemmas.{first_pages}
use Rattle.sd_receive.specs.Merged.{pages_seen}
use Rattle.sd_receive.proofs.mapped.push_run.Given as goal

-- the first pages of the run were put
abbrev pub invariant-loop-k : goal.invariant-loop-k
invariant-loop-k l = pages_seen l.pages.items ≡ pages_seen l.fn.pages.items ++ first_pages l.run l.k
