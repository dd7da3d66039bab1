use Rattle.std.proofs.Common.{◌<◌, ◌≤◌, ℕ}
use Rattle.std.specs.Prelude.{IsSome}
use Rattle.sd_pagetable.specs.Nested.{value_at}
use Rattle.sd_pagetable.specs.Contents.{IsSound}
use Rattle.sd_pagetable.proofs.memory.Memory.first_page.Given as goal

-- no space that came so far has a page above
abbrev pub invariant-loop-number : goal.invariant-loop-number
invariant-loop-number l = record {
  none : (space page : ℕ) → 1 ≤ space → space < l.number → l.above < space → IsSome (value_at l.self.spaces space page) → ⊥;
  sound : 1 < l.number → IsSound l.self;
}
