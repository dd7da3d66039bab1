-- What a journal allows a store to show: the last checkpoint with the memory at its freeze, or the pending one.
use Rattle.std.specs.Prelude.{◌≡◌, ◌⊎◌, ℕ, Option, Some, None}
use Rattle.std.specs.Option.{option_map}
use Rattle.sd_areas.specs.PlainMemory.{PlainMemory}
use Rattle.sd_journal.specs.History.{Base, History, at_freeze, last, pending}

-- a checkpoint's number with the memory at its freeze; or nothing was saved
abbrev pub Shown : Type 0
Shown = Option (ℕ × PlainMemory)

-- the checkpoint's number
abbrev pub shown_number : Shown → Option ℕ
shown_number = option_map (λ pair. pair.0)

-- the last checkpoint and the memory at its freeze, or nothing where there is none
abbrev pub IsLastPair : Base → History → Shown → Type 0
IsLastPair base history None = last base history ≡ None
IsLastPair base history (Some pair) = (last base history ≡ Some pair.0) × (at_freeze base history pair.0 ≡ Some pair.1)

-- the pending checkpoint and the memory at its freeze
abbrev pub IsPendingPair : Base → History → Shown → Type 0
IsPendingPair base history None = ⊥
IsPendingPair base history (Some pair) = (pending history ≡ Some pair.0) × (at_freeze base history pair.0 ≡ Some pair.1)

-- the one, or the other
abbrev pub IsAllowed : Base → History → Shown → Type 0
IsAllowed base history shown = IsLastPair base history shown ⊎ IsPendingPair base history shown
