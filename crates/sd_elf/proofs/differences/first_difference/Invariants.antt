use Rattle.sd_elf.specs.Pieces.{AreSame}
use Rattle.sd_elf.proofs.differences.first_difference.Given as goal

-- none so far differs
abbrev pub invariant-loop-k : goal.invariant-loop-k
invariant-loop-k l = AreSame l.old l.new l.from l.k
