-- When a line of progress is written, and how far something is.
use Rattle.std.specs.Prelude.{◌≡◌, ◌⊎◌, ◌≤◌, ℕ, ◌-◌, ◌*◌, ◌/◌, ◌^◌, min, ◌==◌, if◌then◌else◌, IsNone, None, Some}
use Rattle.std.specs.Duration.{as_nanos}
use Rattle.std.specs.Time.{instant_nanos}
use Rattle.std.specs.declared.time.Duration.{Duration}
use Rattle.std.specs.declared.time.Instant.{Instant}
use Rattle.sd_program.specs.declared.pace.Pace.{Pace}

-- how much of a hundred is done: rounded down, and 100 at most
abbrev pub percent_of : ℕ → ℕ → ℕ
percent_of done of = if of == 0 then 0 else min (min (done * 100) (2 ^ 128 - 1) / of) 100

-- how many seconds the rest takes, if it goes on as fast as in the first milliseconds
abbrev pub secs_left_of : ℕ → ℕ → ℕ → ℕ
secs_left_of done of millis =
    if done == 0 then 0 else min (millis * (of - done)) (2 ^ 128 - 1) / done / 1000

-- A line is written, a second or more after the beginning or the last one: so long it took.
pub record IsDue (old new : Pace) (took : Duration) : Type 0 where
  pub begun : Instant
  pub last : Instant
  pub now : Instant
  pub was : old ≡ record { begun = Some begun; last = Some last }
  pub stands : new ≡ record { begun = Some begun; last = Some now }
  pub paused : 1_000_000_000 ≤ instant_nanos now - instant_nanos last
  pub lasts : as_nanos took ≡ instant_nanos now - instant_nanos begun

-- the first look at the clock is the beginning
pub record Begins (old new : Pace) : Type 0 where
  pub now : Instant
  pub fresh : IsNone old.begun ⊎ IsNone old.last
  pub stands : new ≡ record { begun = Some now; last = Some now }

-- no line is written: nothing changed, or this is the beginning
abbrev pub IsNotDue : Pace → Pace → Type 0
IsNotDue old new = (new ≡ old) ⊎ Begins old new
