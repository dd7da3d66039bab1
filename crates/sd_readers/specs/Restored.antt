-- What `restore` makes of contents that show a checkpoint's memory, or that nothing was saved.
use Rattle.std.specs.Prelude.{◌≡◌, ℕ, Bool, List, Option, MatchOption, None, Result, Ok, Err}
use Rattle.std.specs.Io.KnownBytes.{Appends}
use Rattle.sd_areas.specs.PlainMemory.{PlainMemory}
use Rattle.sd_restore.specs.declared.fault.Fault.TheVariants.{EmptyChain, Damaged}
use Rattle.sd_exit.specs.declared.stop.Stop.{Stop}
use Rattle.sd_exit.specs.declared.stop.Stop.TheVariants as stop
use Rattle.sd_exit.specs.Ending.{ExitsAs}
use Rattle.sd_readers.specs.Ending.{IsBreak}
use Rattle.sd_readers.specs.Texts.{memory_text}

-- The text of that checkpoint and its memory, whole; or that the chain is empty, where nothing was saved. No damage is
-- reported. A call of the device that failed, memory that was refused, and the writer, may break it off.
abbrev pub RestoresAs : Option (ℕ × PlainMemory) → ℕ → ℕ → Option (List ℕ) → Option (List ℕ) → Result Unit Stop → Type 0
RestoresAs shown failed now before printed (Ok _) =
    MatchOption shown ⊥ (λ moment. Appends before printed (memory_text moment))
RestoresAs shown failed now before printed (Err (stop.Fault EmptyChain)) = shown ≡ None
RestoresAs shown failed now before printed (Err (stop.Fault (Damaged slot reason))) = ⊥
RestoresAs shown failed now before printed (Err why) = IsBreak failed now why

-- The same to the exit: after what was printed stands why it was stopped, if it was, and the status comes with that.
pub record IsRestored (shown : Option (ℕ × PlainMemory)) (failed now : ℕ) (before after : Option (List ℕ))
    (refused : Bool) (status : ℕ) : Type 0 where
  pub ended : Result Unit Stop
  pub printed : Option (List ℕ)
  pub restores : RestoresAs shown failed now before printed ended
  pub exits : ExitsAs ended printed after refused status
