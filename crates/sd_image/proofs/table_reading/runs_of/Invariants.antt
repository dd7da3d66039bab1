use Rattle.std.proofs.Common.{◌≡◌, ◌-◌, None, Some}
use Rattle.sd_image.specs.Reading.{many, run_at}
use Rattle.sd_image.proofs.Many.{with_front, last_of}
use Rattle.sd_image.proofs.table_reading.runs_of.Given as goal

abbrev pub invariant-loop : goal.invariant-loop
invariant-loop l = with_front l.runs.items (many (run_at l.parent) Some (l.count - l.counter) (last_of l.runs.items) l.rest) ≡ many (run_at l.parent) Some l.count None l.bytes
