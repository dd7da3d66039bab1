use Rattle.std.proofs.Common.{◌≡◌, ℕ, List, Option, drop}
use Rattle.std.specs.Io.KnownBytes.{Appends}
use Rattle.sd_show.specs.Items.{place_after_runs}
use Rattle.sd_show.specs.Texts.{runs_text}
use Rattle.sd_show.proofs.table_text.print_runs.Given as goal

-- what is printed of the runs that are left makes the text of all whole
abbrev pub invariant-loop-run : goal.invariant-loop-run
invariant-loop-run g l = record {
  text : (after : Option (List ℕ)) → Appends (g.W.Write.contents l.out) after (runs_text l.next (drop l.run-index l.runs))
      → Appends (g.W.Write.contents l.fn.out) after (runs_text l.fn.at l.runs);
  behind : place_after_runs l.next (drop l.run-index l.runs) ≡ place_after_runs l.fn.at l.runs;
}
