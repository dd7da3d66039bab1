-- How many free slots a request needs.
use Rattle.std.specs.Prelude.{ℕ, ◌+◌, ◌-◌, ◌^◌, min, Option, None, Some}
use Rattle.sd_program.specs.declared.few_slots.FewSlots.{FewSlots}
use Rattle.sd_script.specs.declared.line.Line.{Line}
use Rattle.sd_script.specs.declared.line.Line.TheVariants.{Begin, BeginMerge, Checkpoint, Merge}

-- a checkpoint needs one for each round and two more
abbrev pub of_checkpoint : ℕ → ℕ → FewSlots
of_checkpoint free rounds = record { free = free; wanted = min (rounds + 2) (2 ^ 64 - 1) }

-- so many are free, where a request needs some
abbrev pub slots_wanted : Line → ℕ → Option FewSlots
slots_wanted (Begin rounds) free = Some (of_checkpoint free rounds)
slots_wanted (Checkpoint rounds) free = Some (of_checkpoint free rounds)
slots_wanted BeginMerge free = Some (record { free = free; wanted = 1 })
slots_wanted Merge free = Some (record { free = free; wanted = 1 })
slots_wanted _ free = None
