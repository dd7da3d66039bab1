-- What is left of an opener gets less.
use Rattle.std.proofs.Common.{◌≡◌, ℕ, zero, suc, ◌+◌, ◌-◌, ◌<◌, length, Some, refl, arith}
use Rattle.sd_opener.specs.declared.stage.Stage.{Stage}
use Rattle.sd_gate.specs.declared.request_id.RequestId.{RequestId}
use Rattle.sd_opener.specs.Left.{slot_left, slots_left}
use Rattle.sd_opener.specs.Looking.{IsLooking, Looking, out_of_look}
use Rattle.sd_opener.specs.Sees.{IsOpenStage}

pub some_left : (stage : Stage) → 0 < slot_left stage
some_left stage = grind arith

pub open_left : (stage : Stage) → IsOpenStage stage → slot_left stage ≡ 1
open_left stage is = grind arith

-- an opener with a request out has a slot to look at
pub within_slots : (opener : Looking) (capacity : ℕ) (id : RequestId) → IsLooking opener.slots opener.told capacity opener.stage opener.scanned
    → out_of_look opener.stage ≡ Some id → length opener.told < opener.slots
within_slots opener capacity id is out = grind arith

-- the slot that it looks at goes on
pub stage_lowers : (slots told : ℕ) (old new : Stage) → told < slots → slot_left new < slot_left old
    → slots_left (slots - told) new < slots_left (slots - told) old
stage_lowers slots told old new within less = by_count (slots - told) refl
  where
    by_count : (n : ℕ) → slots - told ≡ n → slots_left n new < slots_left n old
    by_count zero is = absurd (omega (arith, within, is))
    by_count (suc n) is = omega (arith, less)

-- it has come to the next slot
pub slot_lowers : (slots told now : ℕ) (old new : Stage) → told < slots → now ≡ told + 1 → slot_left new ≡ 9
    → slots_left (slots - now) new < slots_left (slots - told) old
slot_lowers slots told now old new within next first = by_count (slots - told) (slots - now) refl refl
  where
    some : 0 < slot_left old
    some = some_left old

    by_count : (n m : ℕ) → slots - told ≡ n → slots - now ≡ m → slots_left m new < slots_left n old
    by_count n m is then_is = grind arith
