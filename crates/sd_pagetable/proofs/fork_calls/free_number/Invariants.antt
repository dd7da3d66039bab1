use Rattle.std.proofs.Common.{◌≡◌, ◌≤◌, ◌<◌, ℕ, true}
use Rattle.sd_pagetable.specs.Nested.{is_alive}
use Rattle.sd_pagetable.proofs.fork_calls.free_number.Given as goal

-- every number before this one is alive
abbrev pub invariant-loop-number : goal.invariant-loop-number
invariant-loop-number l = record {
  alive : (q : ℕ) → 1 ≤ q → q < l.number → is_alive l.paging.spaces q ≡ true;
}
