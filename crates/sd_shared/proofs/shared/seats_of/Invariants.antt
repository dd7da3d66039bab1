use Rattle.std.proofs.Common.{◌≡◌, ◌≤◌}
use Rattle.sd_shared.specs.Told.{seats_from_0}
use Rattle.sd_shared.proofs.shared.seats_of.Given as goal

-- the seats so far are the first
abbrev pub invariant-loop-number : goal.invariant-loop-number
invariant-loop-number l = record {
  within : l.number ≤ l.count;
  so_far : l.seats.items ≡ seats_from_0 l.number;
}
