-- Why bytes are no core that a space can have.
use Rattle.std.specs.Prelude.{Bool, true, false}
use Rattle.sd_elf.specs.declared.fault.CoreFault.{CoreFault}
use Rattle.sd_elf.specs.declared.fault.CoreFault.TheVariants.{Segment}
use Rattle.sd_elf.specs.declared.fault.SegmentFault.{SegmentFault}
use Rattle.sd_elf.specs.declared.fault.SegmentFault.TheVariants.{Above, TooManyAreas, TooManyPages}

-- a segment is more than a space can have
abbrev pub is_too_much : SegmentFault → Bool
is_too_much Above = true
is_too_much TooManyPages = true
is_too_much TooManyAreas = true
is_too_much _ = false

-- the file is a core, but has more than a space can have
abbrev pub has_too_much : CoreFault → Bool
has_too_much (Segment number fault) = is_too_much fault
has_too_much _ = false
