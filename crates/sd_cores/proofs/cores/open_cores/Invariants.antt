-- Nothing is printed while each is a core.
use Rattle.std.proofs.Common.{◌≡◌}
use Rattle.sd_cores.proofs.cores.open_cores.Given as goal

abbrev pub invariant-loop-name : goal.invariant-loop-name
invariant-loop-name g l = l.out ≡ l.initial.out
