use Rattle.std.proofs.Common.{◌≡◌, ◌++◌, drop}
use Rattle.sd_chain.specs.Placed.{places_of, after_runs}
use Rattle.sd_chain.proofs.placed.places_before.Given as goal

-- the places so far and those of what is left are the places of all
abbrev pub invariant-loop-run : goal.invariant-loop-run
invariant-loop-run l = record {
  row : l.row.items ++ places_of l.next (drop l.run-index l.runs) ≡ places_of l.before l.runs;
  end : after_runs l.next (drop l.run-index l.runs) ≡ after_runs l.before l.runs;
}
