use Rattle.std.proofs.Common.{◌≡◌, ◌+◌}
use Rattle.sd_pagetable.specs.Contents.{plain_of}
use Rattle.sd_rounds.specs.Left.{pages_ahead}
use Rattle.sd_rounds.proofs.left.pages_ahead.Given as goal

abbrev pub invariant-loop-next : goal.invariant-loop-next
invariant-loop-next l = l.count + pages_ahead l.after (plain_of l.memory) ≡ pages_ahead l.fn.cursor (plain_of l.fn.memory)

abbrev pub decreases-loop-next : goal.decreases-loop-next
decreases-loop-next l = pages_ahead l.after (plain_of l.memory)
