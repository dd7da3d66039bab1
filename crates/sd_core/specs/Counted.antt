-- How many outcomes were handed in since the memory was frozen.
use Rattle.std.specs.Prelude.{ℕ, ◌+◌, ◌&&◌, Bool, not, if◌then◌else◌, is_some}
use Rattle.sd_gate.specs.declared.worker.Worker.{Worker}
use Rattle.sd_gate.specs.declared.worker.Worker.TheVariants.{Dumper, Merger, Opener}
use Rattle.sd_journal.specs.History.{pending}
use Rattle.sd_crash_safety.specs.View.{CoreView, history_of}

-- a checkpoint is pending: the memory is frozen
abbrev pub is_frozen : CoreView → Bool
is_frozen core = is_some (pending (history_of core))

-- after a step: 0 at the one that freezes the memory
abbrev pub counted_by_step : CoreView → CoreView → ℕ
counted_by_step old new = if not (is_frozen old) && is_frozen new then 0 else old.dumper.since_freeze

-- after an outcome of a job: one more for each of the dumper's while the memory is frozen
abbrev pub counted_by_outcome : CoreView → Worker → ℕ
counted_by_outcome core Dumper = if is_frozen core then core.dumper.since_freeze + 1 else core.dumper.since_freeze
counted_by_outcome core Merger = core.dumper.since_freeze
counted_by_outcome core Opener = core.dumper.since_freeze
