-- How many steps and outcomes an opener has before it, at most.
use Rattle.std.specs.Prelude.{ℕ, zero, suc, ◌+◌, ◌*◌, ◌-◌, ◌<◌, length}
use Rattle.sd_gate.specs.Plans.{steps_left}
use Rattle.sd_opener.specs.declared.opener_step.OpenerStep.{OpenerStep}
use Rattle.sd_opener.specs.declared.opener_step.OpenerStep.TheVariants.{Call, Decoded, Damaged, AllRead}
use Rattle.sd_opener.specs.declared.stage.Stage.{Stage}
use Rattle.sd_opener.specs.declared.stage.Stage.TheVariants.{Asking, Read, Broken}
use Rattle.sd_opener.specs.Looking.{Looking}

-- the slot that it looks at: its calls with their outcomes, and the step that decodes it
abbrev pub slot_left : Stage → ℕ
slot_left (Asking plan) = steps_left plan + 1
slot_left (Read header table) = 1
slot_left (Broken reason) = 1

-- each slot after it has four calls at most, and the last step says that all were read
abbrev pub slots_left : ℕ → Stage → ℕ
slots_left zero stage = 1
slots_left (suc others) stage = 9 * others + slot_left stage + 1

-- how many steps and outcomes an opener has left at most
abbrev pub looking_left : Looking → ℕ
looking_left opener = slots_left (opener.slots - length opener.told) opener.stage

-- the opener has less left than before
abbrev pub LowersLooking : Looking → Looking → Type 0
LowersLooking old new = looking_left new < looking_left old

-- a step that doesn't end the opener lowers it
abbrev pub LowersByStep : OpenerStep → Looking → Looking → Type 0
LowersByStep (Call request) old new = LowersLooking old new
LowersByStep Decoded old new = LowersLooking old new
LowersByStep (Damaged slot reason) old new = Unit {0}
LowersByStep AllRead old new = Unit {0}
