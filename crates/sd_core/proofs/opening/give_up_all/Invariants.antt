use Rattle.std.proofs.Common.{◌≡◌}
use Rattle.sd_core.proofs.GiveUp.{given_of}
use Rattle.sd_core.proofs.opening.give_up_all.Given as goal

abbrev pub invariant-loop-phase : goal.invariant-loop-phase
invariant-loop-phase l = l.phase-items ≡ given_of l.phase-index l.fn.phases.items
