-- What a refused call on areas is to a memory.
use Rattle.sd_areas.specs.declared.errno.AreaError.{AreaError}
use Rattle.sd_areas.specs.declared.errno.AreaError.TheVariants.{Refused as AreaRefused, OutOfMemory as AreaOutOfMemory}
use Rattle.sd_pagetable.specs.declared.memory_error.MemoryError.{MemoryError}
use Rattle.sd_pagetable.specs.declared.memory_error.MemoryError.TheVariants.{Denied as DeniedError, OutOfMemory}
use Rattle.sd_pagetable.specs.RefusalOrder.{errno_refusal}

abbrev pub error_of : AreaError → MemoryError
error_of (AreaRefused errno) = DeniedError (errno_refusal errno)
error_of AreaOutOfMemory = OutOfMemory
