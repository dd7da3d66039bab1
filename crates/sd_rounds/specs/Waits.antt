-- When an outcome is awaited before the next step.
use Rattle.std.specs.Prelude.{Bool, false, ◌==◌, ◌&&◌, ◌||◌, Option, Some, None, is_none, is_some}
use Rattle.sd_areas.specs.PlainMemory.{PlainMemory}
use Rattle.sd_rounds.specs.Dumper.{Running}
use Rattle.sd_rounds.specs.Left.{pages_ahead}
use Rattle.sd_rounds.specs.Making.{Making, out_of}
use Rattle.sd_rounds.specs.Pass.{Pass}
use Rattle.sd_gate.specs.Lanes.{is_any_out}
use Rattle.sd_rounds.specs.Writes.{are_all_out}

-- no page is mapped above the cursor, and none is being taken
abbrev pub is_over : Pass → PlainMemory → Bool
is_over pass memory = is_none pass.taking && (pages_ahead pass.after memory == 0)

-- that of the plan's call, that of one of eight writes, or those of all writes where the pass is over
abbrev pub maker_must_wait : Making → PlainMemory → Bool
maker_must_wait image memory =
    is_some (out_of image.stage) || are_all_out image.writes || (is_any_out image.writes && is_over image.pass memory)

abbrev pub image_must_wait : Option Making → PlainMemory → Bool
image_must_wait None memory = false
image_must_wait (Some image) memory = maker_must_wait image memory

-- by the checkpoint that runs, if one does
abbrev pub dumper_must_wait : Option Running → PlainMemory → Bool
dumper_must_wait None memory = false
dumper_must_wait (Some running) memory = image_must_wait running.image memory
