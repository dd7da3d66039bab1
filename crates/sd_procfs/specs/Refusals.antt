-- Refusals of a write to `clear_refs`, beside those of calls on memory.
use Rattle.std.specs.Prelude.{ℕ, List, codes}
use Rattle.sd_areas.specs.Refusals.{numbered_text}
use Rattle.sd_pagetable.specs.declared.memory_refusal.MemoryRefusal.TheVariants.{NoSuchSpace as NoSuchSpaceRefusal}
use Rattle.sd_pagetable.specs.Refusals.{memory_refusal_number, memory_refusal_name}
use Rattle.sd_procfs.specs.declared.clear_error.ClearError.{ClearError}
use Rattle.sd_procfs.specs.declared.clear_error.ClearError.TheVariants.{NoSuchSpace, UnsupportedValue}

abbrev pub clear_error_number : ClearError → ℕ
clear_error_number NoSuchSpace = memory_refusal_number NoSuchSpaceRefusal
clear_error_number UnsupportedValue = 9

abbrev pub clear_error_name : ClearError → List ℕ
clear_error_name NoSuchSpace = memory_refusal_name NoSuchSpaceRefusal
clear_error_name UnsupportedValue = codes "unsupported-value"

-- the number and the name, separated by a space
abbrev pub clear_error_text : ClearError → List ℕ
clear_error_text error = numbered_text (clear_error_number error) (clear_error_name error)
