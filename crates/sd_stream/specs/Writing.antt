-- What a writer of a stream has written, and what it refuses.
use Rattle.std.specs.Prelude.{◌≡◌, ◌⊎◌, ℕ, ◌<◌, ◌≤◌, ◌^◌, Bool, true, false, List, Option, None, Some}
use Rattle.std.specs.Io.KnownBytes.{Appends}
use Rattle.sd_stream.specs.declared.base.Base.{Base}
use Rattle.sd_stream.specs.declared.tally.Tally.{Tally}
use Rattle.sd_stream.specs.declared.write_error.WriteError.{WriteError}
use Rattle.sd_stream.specs.declared.write_error.WriteError.TheVariants as write
use Rattle.sd_stream.specs.declared.writer.StreamWriter.{StreamWriter}
use Rattle.sd_stream.specs.Progress.{Progress, progress_text}
use Rattle.sd_stream.specs.Tallies.{HasTaken}

-- on its output stands what stood there before, and then a stream that has come so far
pub record HasWritten {W : Type 0} (contents : W → Option (List ℕ)) (before : Option (List ℕ))
    (p : Progress) (writer : StreamWriter W) : Type 0 where
  pub text : Appends before (contents writer.out) (progress_text p writer.tally.left)
  pub taken : HasTaken writer.tally p

-- the output failed
abbrev pub IsOutput : WriteError → Type 0
IsOutput (write.Output _) = Unit {0}
IsOutput _ = ⊥

-- a call that is refused for this reason changes nothing; after an error of the output each is refused
abbrev pub OnRefusal : {W : Type 0} → StreamWriter W → StreamWriter W → (WriteError → Type 0) → WriteError → Type 0
OnRefusal old new Refuses (write.Output _) = new.failed ≡ true
OnRefusal old new Refuses error = (new ≡ old) × Refuses error

-- a base that has the number 0
abbrev pub LacksNumber : Option Base → Type 0
LacksNumber None = ⊥
LacksNumber (Some base) = base.number ≡ 0

-- a base that has another, or none
abbrev pub HasNumber : Option Base → Type 0
HasNumber None = Unit {0}
HasNumber (Some base) = 0 < base.number

-- when a base is refused
abbrev pub RefusesBase : Option Base → WriteError → Type 0
RefusesBase base write.BaseWithoutNumber = LacksNumber base
RefusesBase base (write.Output _) = Unit {0}
RefusesBase base _ = ⊥

-- when each call but of bytes is refused
abbrev pub IsUnready : Bool → Tally → WriteError → Type 0
IsUnready failed tally write.Failed = failed ≡ true
IsUnready failed tally write.BytesLeft = 0 < tally.left
IsUnready failed tally _ = ⊥

-- when an image is refused
abbrev pub RefusesImage : Bool → Tally → ℕ → WriteError → Type 0
RefusesImage failed tally len (write.Length n) = (n ≡ len) × ((len ≡ 0) ⊎ (2 ^ 29 < len))
RefusesImage failed tally len error = IsUnready failed tally error

-- when bytes of an image are refused
abbrev pub RefusesBytes : Bool → Tally → ℕ → WriteError → Type 0
RefusesBytes failed tally count write.Failed = failed ≡ true
RefusesBytes failed tally count write.TooManyBytes = tally.left < count
RefusesBytes failed tally count _ = ⊥

-- when a checkpoint's number is refused
abbrev pub RefusesNumber : Bool → Tally → ℕ → WriteError → Type 0
RefusesNumber failed tally number (write.WithoutImages n) = (n ≡ number) × (tally.waiting ≡ false)
RefusesNumber failed tally number (write.NotAbove n) = (n ≡ number) × (number ≤ tally.last)
RefusesNumber failed tally number error = IsUnready failed tally error

-- when the end is refused
abbrev pub RefusesEnd : Bool → Tally → WriteError → Type 0
RefusesEnd failed tally write.ImagesLeft = tally.waiting ≡ true
RefusesEnd failed tally (write.Output _) = Unit {0}
RefusesEnd failed tally error = IsUnready failed tally error

-- when a flush is refused
abbrev pub RefusesFlush : Bool → WriteError → Type 0
RefusesFlush failed write.Failed = failed ≡ true
RefusesFlush failed _ = ⊥
