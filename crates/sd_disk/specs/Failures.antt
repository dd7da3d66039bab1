-- The count of a device's failures.
use Rattle.std.specs.Prelude.{◌≡◌, ℕ, ◌<◌, ◌≤◌, Result, IsErr, IsOk}

-- it rises in a call that returns an error, and in no other
pub record HasCause {T E : Type 0} (before now : ℕ) (result : Result T E) : Type 0 where
  pub later : before ≤ now
  pub failed : IsErr result → before < now
  pub done : IsOk result → now ≡ before
