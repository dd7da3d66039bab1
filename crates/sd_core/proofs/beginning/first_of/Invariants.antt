use Rattle.std.proofs.Common.{◌≡◌, drop}
use Rattle.sd_core.specs.Beginning.{first_of}
use Rattle.sd_core.proofs.beginning.first_of.Given as goal

abbrev pub invariant-loop-holds : goal.invariant-loop-holds
invariant-loop-holds l = first_of l.fn.refusals ≡ first_of (drop l.holds-index l.fn.refusals)
