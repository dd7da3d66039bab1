use Rattle.std.proofs.Common.{◌≡◌, take}
use Rattle.sd_json.proofs.CountLemmas.{counts_of}
use Rattle.sd_json.proofs.memory.count_all.Given as goal

-- the runs so far are counted
abbrev pub invariant-loop-run : goal.invariant-loop-run
invariant-loop-run l = l.counts ≡ counts_of (take l.run-index l.runs)
