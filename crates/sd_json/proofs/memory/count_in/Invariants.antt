use Rattle.std.proofs.Common.{◌≡◌, take}
use Rattle.sd_json.specs.Documents.{runs_of}
use Rattle.sd_json.proofs.CountLemmas.{counts_of}
use Rattle.sd_json.proofs.memory.count_in.Given as goal

-- the runs so far are counted
abbrev pub invariant-loop-run : goal.invariant-loop-run
invariant-loop-run l = l.counts ≡ counts_of (runs_of l.space (take l.run-index l.runs))
