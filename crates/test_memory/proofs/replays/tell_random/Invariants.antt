use Rattle.test_memory.specs.Told.{TellsMemory}
use Rattle.test_memory.proofs.replays.tell_random.Given as goal

-- the entries so far led to the memory
abbrev pub invariant-loop : goal.invariant-loop
invariant-loop l = TellsMemory l.entries.items l.memory
