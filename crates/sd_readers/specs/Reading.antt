-- What came of a program that reads a store.
use Rattle.std.specs.Prelude.{◌≡◌, ◌⊎◌, ℕ, Bool, true, List, Option, None, Result, OnOk, IfErr}
use Rattle.sd_image.specs.declared.reason.Reason.{Reason}
use Rattle.sd_image.specs.Shows.{Shows}
use Rattle.sd_restore.specs.declared.fault.Fault.TheVariants.{EmptyChain, Damaged}
use Rattle.sd_restore.specs.Faulty.{IsBrokenChain, IsDamage}
use Rattle.sd_exit.specs.declared.stop.Stop.{Stop}
use Rattle.sd_exit.specs.declared.stop.Stop.TheVariants as stop
use Rattle.sd_exit.specs.Ending.{ExitsAs, OnFault, OnWriter}
use Rattle.sd_readers.specs.declared.steady.Reader.{Reader}
use Rattle.sd_readers.specs.declared.steady.Reader.TheVariants as reader
use Rattle.sd_readers.specs.Ending.{IsBreak, StandsAlone}
use Rattle.sd_readers.specs.Printed.{BeginsToPrint, Prints}

-- what a program that reads a store says of a slot: it is damaged, as `scan` finds it; `list` walks no chain, and the
-- others also find the first that breaks
abbrev pub IsBlamed : Reader → List (List ℕ) → ℕ → Reason → Type 0
IsBlamed reader.List contents slot reason = IsDamage contents slot reason
IsBlamed _ contents slot reason = IsDamage contents slot reason ⊎ IsBrokenChain contents slot reason

-- Why it was stopped: nothing was saved, which `restore` alone reports; this slot is damaged, for this reason; or its
-- printing was broken off.
abbrev pub IsWhy : Reader → List (List ℕ) → ℕ → ℕ → Stop → Type 0
IsWhy by contents failed now (stop.Fault EmptyChain) = (by ≡ reader.Restore) × Shows contents None
IsWhy by contents failed now (stop.Fault (Damaged slot reason)) = IsBlamed by contents slot reason
IsWhy by contents failed now why = IsBreak failed now why

-- A program read a store with these contents, on a device that had failed so often before and so often now. At its end
-- the whole text of what they show is written; where a fault stopped it, a beginning of that text, if anything. What is
-- wrong with the store is reported alone, and what is reported is the fault that is there.
pub record ReadsStore (by : Reader) (IsHonest : Type 0) (contents : List (List ℕ)) (failed now : ℕ)
    (ended : Result Unit Stop) (before after : Option (List ℕ)) : Type 0 where
  pub text : IsHonest → OnOk ended (Prints by contents before after)
  pub begins : IsHonest → OnFault ended (BeginsToPrint by contents before after)
  pub alone : IfErr ended (StandsAlone before after)
  pub why : IsHonest → IfErr ended (IsWhy by contents failed now)

-- The same to its exit: what was printed, and after it why it was stopped, if it was; and the status. A writer's
-- failure stops it only where the output refused something.
pub record ReaderEnds (by : Reader) (IsHonest : Type 0) (contents : List (List ℕ)) (failed now : ℕ)
    (before after : Option (List ℕ)) (refused : Bool) (status : ℕ) : Type 0 where
  pub ended : Result Unit Stop
  pub printed : Option (List ℕ)
  pub reads : ReadsStore by IsHonest contents failed now ended before printed
  pub writer : OnWriter ended (refused ≡ true)
  pub exits : ExitsAs ended printed after refused status
